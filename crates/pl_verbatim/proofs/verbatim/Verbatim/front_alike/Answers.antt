-- Each line is one more of the front.
use Rattle.std.proofs.Common.{◌<◌, length, ap, sym, subst, arith}
use Rattle.std.specs.Prelude.{slice_range}
use Rattle.pl_verbatim.specs.CellTexts.{as_read}
use Rattle.pl_verbatim.specs.Changes.{null_test_of}
use Rattle.pl_verbatim.specs.Kinds.{AreKindsOf, read_columns}
use Rattle.pl_verbatim.proofs.LineLaws.{are-readable, change-printed}
use Rattle.pl_verbatim.proofs.PrintingLaws.{IsFrontPrinted-none, IsFrontPrinted-line}
use Rattle.pl_verbatim.proofs.verbatim.Verbatim.front_alike.Goals as goal

pub loop-end-init : goal.loop-end-init
loop-end-init c = record { within = omega arith; few = omega arith; printed = λ plan schema o can is. IsFrontPrinted-none plan schema o c.args.text.now }

pub overflow_add-rows : goal.overflow_add-rows
overflow_add-rows c = record { fits = omega (arith, c.loop-end.invariant.few, c.in-Some.ensures.after, c.in-Some.ensures.within) }

pub loop-end-preserved : goal.loop-end-preserved
loop-end-preserved c = record {
  within = c.in-Some.ensures.within;
  few = omega (arith, c.loop-end.invariant.few, c.in-Some.ensures.after);
  printed = λ plan schema o can is.
      let kinds = c.args.self.now.kinds.items in
      let some : 0 < length kinds = omega (arith, c.in-Some.ensures.some, ap length c.deref.ensures.value) in
      let given = is.changed c.args.form.now c.requires.form some in
      let columns = read_columns 0 schema plan.projection.places.now in
      let text = slice_range c.args.text.now c.loop-end.end c.in-Some.next in
      let line =
      c.in-Some.ensures.line o columns given.rows.fits given.written (are-readable schema plan.projection.places.now can.readable) (subst (AreKindsOf columns) (sym c.deref.ensures.value) given.kinds) in
      IsFrontPrinted-line plan schema o c.args.text.now c.loop-end.end c.in-Some.next c.loop-end.rows can.dialect (c.loop-end.invariant.printed plan schema o can is) (omega (arith, c.in-Some.ensures.after))
      c.in-Some.ensures.within
      (change-printed plan schema (as_read c.args.self.now.separator o) o (null_test_of c.args.form.now) can given.rows given.nulls c.rows_return.ensures text text line);
}

pub returns-after-loop-end : goal.returns-after-loop-end
returns-after-loop-end c = c.loop-end.invariant.printed

pub returns-in-None : goal.returns-in-None
returns-in-None c = c.loop-end.invariant.printed
