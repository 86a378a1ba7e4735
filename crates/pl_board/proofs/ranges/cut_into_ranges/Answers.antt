use Rattle.std.proofs.Common.{◌≡◌, sym, ◌∙◌, ap, subst, length}
use Rattle.std.specs.Prelude.{IfOk}
use Rattle.std.specs.List.{AllByRecursion}
use Rattle.pl_scan.specs.Dialect.{marks_of, comment_of}
use Rattle.pl_scan.specs.LineCuts.{piece_ends, RiseTo, IsPieceEnd}
use Rattle.pl_board.specs.LineStates.{states_before}
use Rattle.pl_board.specs.Ranges.{range_ends}
use Rattle.pl_board.proofs.RangeLaws.{same-length, ok-ranges}
use Rattle.pl_board.proofs.ranges.cut_into_ranges.Goals as goal

pub range_ends-requires : goal.range_ends-requires
range_ends-requires g c =
    let d = c.args.dialect.now in
    same-length (marks_of d) (comment_of d) c.in_ok-ends.ends.items c.args.bytes.now c.deref.result.now c.deref-2.result.now c.deref-3.result.now c.in_ok-states.states.items c.deref.ensures.value c.deref-2.ensures.value
    c.deref-3.ensures.value c.in_ok-states.ensures.states

pub returns-clause-ends : goal.returns-clause-ends
returns-clause-ends g c =
    let d = c.args.dialect.now in
    let m = marks_of d in
    let b = c.args.bytes.now in
    let ends = piece_ends d.eol_char c.args.piece_size b in
    let before = states_before m (comment_of d) in
    let cut : c.deref-2.result.now ≡ ends = c.deref-2.ensures.value ∙ c.in_ok-ends.ensures.ends in
    let states : c.deref-3.result.now ≡ before ends b =
    c.deref-3.ensures.value ∙ c.in_ok-states.ensures.states ∙ ap (λ l. before l b) (c.deref.ensures.value ∙ c.in_ok-ends.ensures.ends) in
    subst (λ l. IfOk c.range_ends.result (λ kept. kept.items ≡ l)) (λ j. range_ends (cut j) (states j)) c.range_ends.ensures.ends

pub returns-clause-ranges : goal.returns-clause-ranges
returns-clause-ranges g c =
    let d = c.args.dialect.now in
    let b = c.args.bytes.now in
    let told = c.piece_ends_cut_the_text.ensures in
    ok-ranges (marks_of d) (comment_of d) c.in_ok-ends.ends.items b c.deref.result.now c.deref-2.result.now c.deref-3.result.now c.in_ok-states.states.items c.range_ends.result c.requires.dialect
    (subst (RiseTo (length b) 0) (sym c.in_ok-ends.ensures.ends) (told.rise d.eol_char c.args.piece_size b c.requires.size))
    (subst (AllByRecursion (IsPieceEnd d.eol_char b)) (sym c.in_ok-ends.ensures.ends) (told.behind d.eol_char c.args.piece_size b c.requires.size))
    c.deref.ensures.value c.deref-2.ensures.value c.deref-3.ensures.value c.in_ok-states.ensures.states c.range_ends.ensures.ends
