-- Each field is put or waits behind those before it, and so does the line feed behind the last.
use Rattle.std.proofs.Common.{◌≡◌, ℕ, ◌-◌, ◌<◌, List, ◌++◌, Option, None, Some, false, ◌∙◌, length, get_or, take, refl, arith}
use Rattle.std.specs.Prelude.{All, IfSome, slice_range}
use Rattle.std.proofs.lemmas.Bool.Decides.{nat_tests}
use Rattle.pl_verbatim.specs.declared.form.Form.{Form}
use Rattle.pl_verbatim.specs.declared.kinds.Kind.{Kind}
use Rattle.pl_verbatim.specs.declared.kinds.Kind.TheVariants as kind
use Rattle.pl_verbatim.specs.declared.swapped.Waiting.{Waiting}
use Rattle.pl_verbatim.specs.Changes.{IsCellPut, IsRowPut}
use Rattle.pl_verbatim.specs.Kinds.{is_passed}
use Rattle.pl_verbatim.specs.Swaps.{swapped, IsSwap}
use Rattle.pl_verbatim.proofs.FrontKeptLaws.{front-shorter}
use Rattle.pl_verbatim.proofs.SwapLaws.{AreSwappedBefore, swapped-first, swapped-column, swapped-row}
use Rattle.pl_verbatim.proofs.swapped.swap_row.Goals as goal

-- the last field, where it is found
ended : (result : Option Waiting) (text : List ℕ) (start : ℕ) (kinds : List Kind) (s quote : ℕ) (form : Form) (index from at : ℕ) (before front out : List ℕ) → All (λ own. is_passed own ≡ false) kinds → IsSwap form → (s ≡ 10 → ⊥)
    → AreSwappedBefore text start kinds s quote form index from at before front → index ≡ length kinds - 1 → 0 < length kinds → IfSome result (λ next. next.from < next.at)
    → IfSome result (λ next. IsCellPut text at next.at (get_or kinds (length kinds - 1) kind.Text) 10 s quote form (front ++ swapped s form.separator (slice_range text from at))
    (take next.place out ++ swapped s form.separator (slice_range text next.from (next.at - 1))))
    → IfSome result (λ next. IsRowPut text start kinds s quote form before (take next.place out ++ swapped s form.separator (slice_range text next.from next.at)) next.at)
ended None text start kinds s quote form index from at before front out whole swap apart row last_is filled some put = tt
ended (Some next) text start kinds s quote form index from at before front out whole swap apart row last_is filled some put =
    swapped-row text start kinds s quote form index from at next.from next.at kind.Text before front (take next.place out) whole swap apart row last_is filled some put

pub loop-index-init : goal.loop-index-init
loop-index-init c = record {
  ordered = c.requires.ordered;
  after = omega arith;
  room = c.requires.place;
  long = refl;
  kept = refl;
  row = swapped-first c.args.text.now c.args.start.at c.args.kinds.now c.args.separator c.args.quote c.args.form.now c.args.start.from (take c.args.start.place c.args.out.now) c.requires.inside;
}

pub swap_cell-requires-clause-ordered : goal.swap_cell-requires-clause-ordered
swap_cell-requires-clause-ordered c = c.loop-index.invariant.ordered

pub swap_cell-requires-clause-inside : goal.swap_cell-requires-clause-inside
swap_cell-requires-clause-inside c = c.loop-index.invariant.row.row.within

pub swap_cell-requires-clause-none : goal.swap_cell-requires-clause-none
swap_cell-requires-clause-none c k low high = c.requires.none k (omega (arith, low, c.loop-index.invariant.row.row.after)) high

pub swap_cell-requires-clause-place : goal.swap_cell-requires-clause-place
swap_cell-requires-clause-place c = c.loop-index.invariant.room

pub returns-in_err-now-clause-kept : goal.returns-in_err-now-clause-kept
returns-in_err-now-clause-kept c =
    front-shorter c.args.start.place c.loop-index.now.place c.swap_cell.new.out c.loop-index.out c.loop-index.invariant.after c.in_err-now.ensures.kept ∙ c.loop-index.invariant.kept

pub loop-index-preserved : goal.loop-index-preserved
loop-index-preserved c =
    let row = c.loop-index in
    let now = c.in_ok-now.now in
    let one = c.in_ok-now.ensures in
    let out = c.swap_cell.new.out in
    record {
      ordered = omega (arith, one.ordered);
      after = omega (arith, row.invariant.after, one.after);
      room = one.within;
      long = one.long ∙ row.invariant.long;
      kept = front-shorter c.args.start.place row.now.place out row.out row.invariant.after one.kept ∙ row.invariant.kept;
      row =
          swapped-column c.args.text.now c.args.start.at c.args.kinds.now c.args.separator c.args.quote c.args.form.now row.index row.now.from row.now.at now.from now.at kind.Text _ (take row.now.place row.out)
          (take now.place out) c.requires.whole row.invariant.row (omega arith) one.ordered one.put;
    }

pub swap_cell-requires-2-clause-ordered : goal.swap_cell-requires-2-clause-ordered
swap_cell-requires-2-clause-ordered c = c.loop-index.invariant.ordered

pub swap_cell-requires-2-clause-inside : goal.swap_cell-requires-2-clause-inside
swap_cell-requires-2-clause-inside c = c.loop-index.invariant.row.row.within

pub swap_cell-requires-2-clause-none : goal.swap_cell-requires-2-clause-none
swap_cell-requires-2-clause-none c k low high = c.requires.none k (omega (arith, low, c.loop-index.invariant.row.row.after)) high

pub returns-clause-kept : goal.returns-clause-kept
returns-clause-kept c =
    front-shorter c.args.start.place c.loop-index.now.place c.swap_cell-2.new.out c.loop-index.out c.loop-index.invariant.after c.swap_cell-2.ensures.kept ∙ c.loop-index.invariant.kept

pub returns-clause-put : goal.returns-clause-put
returns-clause-put c =
    let row = c.loop-index in
    let some : 0 < length c.args.kinds.now = grind (arith, nat_tests, c.if-is_empty.ensures) in
    ended c.swap_cell-2.result c.args.text.now c.args.start.at c.args.kinds.now c.args.separator c.args.quote c.args.form.now row.index row.now.from row.now.at _ (take row.now.place row.out) c.swap_cell-2.new.out c.requires.whole
    c.requires.swap c.requires.apart row.invariant.row (omega arith) some c.swap_cell-2.ensures.ordered c.swap_cell-2.ensures.put
