use Rattle.std.proofs.Common.{arith, ◌≡◌, ◌<◌, length}
use Rattle.std.proofs.lemmas.Result.{on_ok_weaker}
use Rattle.pl_terminal.proofs.ShownLaws.{size_within, shown_done, shown_turned, shown_points}
use Rattle.pl_terminal.proofs.message.Message.add_shown.Goals as goal

pub returns-then-is_empty : goal.returns-then-is_empty
returns-then-is_empty c =
    let none : length c.loop-turn.rest.now ≡ 0 = grind (arith, c.is_empty.ensures, c.if-is_empty.true) in
    record { added = shown_done _ _ _ _ none c.loop-turn.invariant }

pub split_at-requires : goal.split_at-requires
split_at-requires c = rw c.decode-c.ensures.size (size_within _)

pub loop-turn-preserved : goal.loop-turn-preserved
loop-turn-preserved c =
    let some : 0 < length c.loop-turn.rest.now = grind (arith, c.is_empty.ensures, c.if-is_empty.false) in
    shown_turned _ _ _ _ _ _ _ _ _ _ c.loop-turn-test.true some c.decode-c.ensures.char c.decode-c.ensures.size c.split_at.ensures.front
    c.split_at.ensures.back c.in_ok-add_piece.ensures.added c.loop-turn.invariant

pub returns-then-is_empty-2 : goal.returns-then-is_empty-2
returns-then-is_empty-2 c =
    let none : length c.loop-turn.rest.now ≡ 0 = grind (arith, c.is_empty-2.ensures, c.if-is_empty-2.true) in
    record { added = shown_done _ _ _ _ none c.loop-turn.invariant }

pub returns : goal.returns
returns c =
    let some : 0 < length c.loop-turn.rest.now = grind (arith, c.is_empty-2.ensures, c.if-is_empty-2.false) in
    let points = shown_points _ _ _ _ _ c.loop-turn-test.false some c.loop-turn.invariant in
    record { added = on_ok_weaker c.add_points.result (λ e. rw e points) c.add_points.ensures.added }
