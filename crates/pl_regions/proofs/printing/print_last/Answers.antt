use Rattle.std.proofs.Common.{◌≡◌, ◌++◌, [], ◌∷◌, ℕ, List, length, arith, true, refl, map, sym, ◌∙◌, ap, subst}
use Rattle.std.proofs.lemmas.Bool.Decides.{nat_tests}
use Rattle.std.specs.Cow.{cow_slice_items}
use Rattle.std.specs.List.{concat}
use Rattle.pl_frame.specs.Frame.{HaveHeight, height_of}
use Rattle.pl_rows.specs.Pieces.{is_fault}
use Rattle.pl_write.specs.Batches.{all_lines}
use Rattle.pl_write.specs.Options.{cell_options}
use Rattle.pl_regions.specs.Printing.{IsLeftBehind}
use Rattle.pl_regions.proofs.PrintingLaws.{none-left, whole-end, whole-lines, whole-rows, fault-fits, level-range}
use Rattle.pl_regions.proofs.printing.print_last.Goals as goal

-- a text of no bytes
nothing : (text : List ℕ) → length text ≡ 0 → text ≡ []
nothing [] none = refl
nothing (byte ∷ text) none = absurd (omega arith)

pub returns-then-is_empty : goal.returns-then-is_empty
returns-then-is_empty c = λ records is.
    let plan = c.args.plan.now in
    let schema = c.args.schema.now in
    let o = cell_options c.args.options.now in
    let none : c.args.left.now ≡ [] = nothing c.args.left.now (grind (arith, nat_tests, c.is_empty.ensures, c.if-is_empty.true)) in
    none-left plan schema o records c.args.front _ c.requires.can c.requires.last (subst (IsLeftBehind plan schema o records c.args.front) none is) refl refl refl

pub end_behind-end-requires : goal.end_behind-end-requires
end_behind-end-requires c =
    fault-fits c.args.plan.now c.args.schema.now (cell_options c.args.options.now) c.requires.left.0 c.args.left.now c.args.front c.in_ok-read.read c.requires.can c.requires.left.1 c.in_ok-read.ensures

pub returns-in-Fault : goal.returns-in-Fault
returns-in-Fault c = λ records is.
    let plan = c.args.plan.now in
    let schema = c.args.schema.now in
    let o = cell_options c.args.options.now in
    let faulty : is_fault c.end_behind-end.result ≡ true = ap is_fault c.in-Fault.is in
    record {
      end_is = c.end_behind-end.ensures ∙ whole-end plan schema o records c.args.left.now c.args.front c.in_ok-read.read c.requires.can c.requires.last is c.in_ok-read.ensures;
      lines_are = λ sound. absurd (cc);
      rows_are = λ sound. absurd (cc);
    }

pub lines_of-requires : goal.lines_of-requires
lines_of-requires c =
    subst (λ columns. HaveHeight (height_of columns) columns) (sym c.deref-2.ensures.value) (level-range c.args.plan.now c.args.schema.now c.args.left.now c.in_ok-read.read c.in_ok-read.ensures)

pub returns : goal.returns
returns c = λ records is.
    let plan = c.args.plan.now in
    let schema = c.args.schema.now in
    let o = cell_options c.args.options.now in
    let before = concat (map cow_slice_items c.args.front.lines.items) in
    record {
      end_is = c.end_behind-end.ensures ∙ whole-end plan schema o records c.args.left.now c.args.front c.in_ok-read.read c.requires.can c.requires.last is c.in_ok-read.ensures;
      lines_are = λ sound.
          c.in_ok-push_text.ensures
          ∙ ap (λ l. before ++ l) (c.in_ok-lines_of.ensures ∙ ap (all_lines o) c.deref-2.ensures.value)
          ∙ whole-lines plan schema o records c.args.left.now c.args.front c.in_ok-read.read c.requires.can c.requires.last is c.in_ok-read.ensures;
      rows_are = λ sound.
          omega (arith, whole-rows plan schema o records c.args.left.now c.args.front c.in_ok-read.read c.requires.can c.requires.last is c.in_ok-read.ensures, c.in_ok-rows.ensures, ap height_of c.deref.ensures.value);
    }
