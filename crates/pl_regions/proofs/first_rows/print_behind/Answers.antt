use Rattle.std.proofs.Common.{◌≡◌, ◌++◌, arith, true, map, sym, ◌∙◌, ap, subst}
use Rattle.std.specs.Cow.{cow_slice_items}
use Rattle.std.specs.List.{concat}
use Rattle.pl_frame.specs.Frame.{HaveHeight, height_of}
use Rattle.pl_rows.specs.Pieces.{plan_behind, is_fault}
use Rattle.pl_rows.specs.Ranges.{IsRangeRead}
use Rattle.pl_write.specs.Batches.{all_lines}
use Rattle.pl_write.specs.Options.{cell_options}
use Rattle.pl_regions.proofs.LimitLaws.{first-end, first-high, first-lines, first-fits}
use Rattle.pl_regions.proofs.PrintingLaws.{level-range}
use Rattle.pl_regions.proofs.first_rows.print_behind.Goals as goal

pub end_behind-end-requires : goal.end_behind-end-requires
end_behind-end-requires c =
    let read = subst (λ p. IsRangeRead p c.args.schema.now c.args.left.now c.in_ok-read.read) c.plan_behind-behind.ensures c.in_ok-read.ensures in
    first-fits c.args.plan.now c.args.schema.now (cell_options c.args.options.now) c.requires.left.0 c.args.left.now c.args.front c.in_ok-read.read c.requires.can c.requires.left.1 read

pub returns-in-Fault : goal.returns-in-Fault
returns-in-Fault c = λ records is.
    let plan = c.args.plan.now in
    let schema = c.args.schema.now in
    let o = cell_options c.args.options.now in
    let read = subst (λ p. IsRangeRead p schema c.args.left.now c.in_ok-read.read) c.plan_behind-behind.ensures c.in_ok-read.ensures in
    let faulty : is_fault c.end_behind-end.result ≡ true = ap is_fault c.in-Fault.is in
    record {
      end_is = c.end_behind-end.ensures ∙ first-end plan schema o records c.args.left.now c.args.front c.in_ok-read.read c.requires.can c.requires.last is c.requires.few read;
      lines_are = λ sound. absurd (cc);
      rows_are = λ sound. absurd (cc);
    }

pub lines_of-requires : goal.lines_of-requires
lines_of-requires c =
    let read = subst (λ p. IsRangeRead p c.args.schema.now c.args.left.now c.in_ok-read.read) c.plan_behind-behind.ensures c.in_ok-read.ensures in
    subst (λ columns. HaveHeight (height_of columns) columns) (sym c.deref-2.ensures.value) (level-range (plan_behind c.args.plan.now c.args.front.rows true) c.args.schema.now c.args.left.now c.in_ok-read.read read)

pub returns : goal.returns
returns c = λ records is.
    let plan = c.args.plan.now in
    let schema = c.args.schema.now in
    let o = cell_options c.args.options.now in
    let read = subst (λ p. IsRangeRead p schema c.args.left.now c.in_ok-read.read) c.plan_behind-behind.ensures c.in_ok-read.ensures in
    let before = concat (map cow_slice_items c.args.front.lines.items) in
    record {
      end_is = c.end_behind-end.ensures ∙ first-end plan schema o records c.args.left.now c.args.front c.in_ok-read.read c.requires.can c.requires.last is c.requires.few read;
      lines_are = λ sound.
          c.in_ok-push_text.ensures
          ∙ ap (λ l. before ++ l) (c.in_ok-lines_of.ensures ∙ ap (all_lines o) c.deref-2.ensures.value)
          ∙ first-lines plan schema o records c.args.left.now c.args.front c.in_ok-read.read c.requires.can c.requires.last is c.requires.few read;
      rows_are = λ sound.
          omega (arith, first-high plan schema o records c.args.left.now c.args.front c.in_ok-read.read c.requires.can c.requires.last is c.requires.few read, c.in_ok-rows.ensures, ap height_of c.deref.ensures.value);
    }
