use Rattle.std.proofs.Common.{◌≡◌, ℕ, zero, suc, false, ◌==◌, ◌<◌, length, arith}
use Rattle.pl_scan.specs.Dialect.{marks_of, comment_of}
use Rattle.pl_board.proofs.LineStateLaws.{up_to-start, up_to-piece, up_to-turn, up_to-end}
use Rattle.pl_board.proofs.line_states.states_in_order.Goals as goal

pub loop-number-init : goal.loop-number-init
loop-number-init g c =
    let d = c.args.dialect.now in
    up_to-start (marks_of d) (comment_of d) c.args.ends.now c.args.bytes.now c.new-states.result.items c.requires.dialect c.requires.rise c.requires.behind c.new-states.ensures.items

pub summary_of_piece-piece-requires-clause-within : goal.summary_of_piece-piece-requires-clause-within
summary_of_piece-piece-requires-clause-within g c =
    let d = c.args.dialect.now in
    let at = c.loop-number in
    (up_to-piece (marks_of d) (comment_of d) c.args.ends.now c.args.bytes.now at.number at.from at.state at.states.items at.invariant (omega arith)).within

pub summary_of_piece-piece-requires-clause-ended : goal.summary_of_piece-piece-requires-clause-ended
summary_of_piece-piece-requires-clause-ended g c =
    let d = c.args.dialect.now in
    let at = c.loop-number in
    (up_to-piece (marks_of d) (comment_of d) c.args.ends.now c.args.bytes.now at.number at.from at.state at.states.items at.invariant (omega arith)).ended

pub loop-number-preserved : goal.loop-number-preserved
loop-number-preserved g c =
    let d = c.args.dialect.now in
    let at = c.loop-number in
    up_to-turn (marks_of d) (comment_of d) c.args.ends.now c.args.bytes.now at.number at.from at.state at.states.items c.summary_of_piece-piece.result c.behind-state.result c.push.new.items.items c.requires.dialect
    at.invariant (omega arith) c.summary_of_piece-piece.ensures c.behind-state.ensures c.in_ok-push.ensures.pushed

not_none : (n : ℕ) → false ≡ (n == 0) → 0 < n
not_none zero h = absurd (cc)
not_none (suc n) h = omega arith

pub returns-clause-states : goal.returns-clause-states
returns-clause-states g c =
    let d = c.args.dialect.now in
    let at = c.loop-number in
    let some = not_none (length c.args.ends.now) c.if-is_empty.ensures in
    up_to-end (marks_of d) (comment_of d) c.args.ends.now c.args.bytes.now at.number at.from at.state at.states.items c.push-2.new.items.items at.invariant (omega (arith, some)) c.in_ok-push-2.ensures.pushed
