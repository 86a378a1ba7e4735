use Rattle.std.proofs.Common.{◌≡◌, ◌∷◌, ◌≤◌, ◌<◌, ◌-◌, ◌++◌, length, take, drop, get_or, ◌∙◌, ap, sym, subst, arith}
use Rattle.std.proofs.lemmas.List.{get_or_default}
use Rattle.pl_frame.specs.Columns.{HoldsType}
use Rattle.pl_frame.specs.GatheredCells.{cells_so_far}
use Rattle.pl_frame.proofs.HeldLaws.{run_join}
use Rattle.pl_frame.proofs.PartsLaws.{rows_end, at_within, part_size, part_held, part_run}
use Rattle.pl_frame.proofs.parts.Parts.put_rows.Goals as goal

pub thing_at-at-requires : goal.thing_at-at-requires
thing_at-at-requires c =
    let ends = c.self.inside.ends.items in
    let all : get_or (0 ∷ ends) (length ends) 0 ≡ length c.args.self.now = rows_end c.self.inside.parts.items ends c.self.invariant ∙ ap length c.self.view_is in
    let last = c.requires.rows.1 in
    rw c.deref.ensures.value (omega (arith, all, last, c.rows-test.true))

pub index-requires-in-rows : goal.index-requires-in-rows
index-requires-in-rows c =
    let here = rw c.deref.ensures.value at c.thing_at-at.ensures.within in
    let within = at_within c.self.inside.parts.items c.self.inside.ends.items c.thing_at-at.result c.self.invariant here in
    omega (arith, within, c.self.inside.parts.ok)

pub push_run-requires-clause-held : goal.push_run-requires-clause-held
push_run-requires-clause-held c =
    let ends = c.self.inside.ends.items in
    let here = rw c.deref.ensures.value at c.thing_at-at.ensures.within in
    let begin : c.begin_of-begin.result ≡ get_or (0 ∷ ends) c.thing_at-at.result 0 = rw c.deref-in-rows.ensures.value at c.begin_of-begin.ensures in
    part_held c.self.inside.parts.items ends c.thing_at-at.result c.begin_of-begin.result c.index-in-rows.result.now c.self.invariant here begin c.index-in-rows.ensures c.args.dtype.now
    (subst (HoldsType c.args.dtype.now) (sym c.self.view_is) c.requires.held)

pub push_run-requires-clause-rows : goal.push_run-requires-clause-rows
push_run-requires-clause-rows c =
    let ends = c.self.inside.ends.items in
    let here = rw c.deref.ensures.value at c.thing_at-at.ensures.within in
    let begin : c.begin_of-begin.result ≡ get_or (0 ∷ ends) c.thing_at-at.result 0 = rw c.deref-in-rows.ensures.value at c.begin_of-begin.ensures in
    let high : c.rows.row < get_or ends c.thing_at-at.result 0 = rw c.deref.ensures.value at c.thing_at-at.ensures.end in
    let last : c.index.result.now ≡ get_or ends c.thing_at-at.result 0 = c.index.ensures ∙ get_or_default ends c.thing_at-at.result c.index.result.now 0 here in
    let size = part_size c.self.inside.parts.items ends c.thing_at-at.result c.begin_of-begin.result c.index-in-rows.result.now c.self.invariant here begin c.index-in-rows.ensures in
    (omega (arith, high, last, c.min-end.ensures, c.rows-test.true), omega (arith, last, size, c.min-end.ensures))

pub rows-preserved : goal.rows-preserved
rows-preserved c =
    let ends = c.self.inside.ends.items in
    let values = c.args.self.now in
    let row = c.rows.row in
    let end = c.min-end.result in
    let here = rw c.deref.ensures.value at c.thing_at-at.ensures.within in
    let begin : c.begin_of-begin.result ≡ get_or (0 ∷ ends) c.thing_at-at.result 0 = rw c.deref-in-rows.ensures.value at c.begin_of-begin.ensures in
    let low : c.begin_of-begin.result ≤ row = (let low = rw c.deref.ensures.value at c.thing_at-at.ensures.begin in omega (arith, begin, low)) in
    let high : row < get_or ends c.thing_at-at.result 0 = rw c.deref.ensures.value at c.thing_at-at.ensures.end in
    let last : c.index.result.now ≡ get_or ends c.thing_at-at.result 0 = c.index.ensures ∙ get_or_default ends c.thing_at-at.result c.index.result.now 0 here in
    let more : row < end = omega (arith, high, last, c.min-end.ensures, c.rows-test.true) in
    let most : end ≤ get_or ends c.thing_at-at.result 0 = omega (arith, last, c.min-end.ensures) in
    let run = part_run c.self.inside.parts.items ends c.thing_at-at.result c.begin_of-begin.result c.index-in-rows.result.now c.self.invariant here begin c.index-in-rows.ensures row end low (omega (arith, more)) most in
    record {
      behind = let h = c.rows.invariant.behind in omega (arith, h, more);
      within = omega (arith, c.min-end.ensures);
      suits = c.in_ok-push_run.ensures.suits;
      cells = run_join (cells_so_far c.args.dtype.now c.args.gathered.now) (cells_so_far c.args.dtype.now c.rows.gathered) (cells_so_far c.args.dtype.now c.push_run.new.self) values c.args.from row end c.rows.invariant.behind (omega (arith, more)) c.rows.invariant.cells
          (c.in_ok-push_run.ensures.cells ∙ ap (λ cells. cells_so_far c.args.dtype.now c.rows.gathered ++ cells) (run ∙ ap (λ cells. take (end - row) (drop row cells)) c.self.view_is));
    }
