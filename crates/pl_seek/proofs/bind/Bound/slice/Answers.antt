use Rattle.std.proofs.Common.{◌≡◌, ◌^◌, List, arith, length, ap, sym, subst, ◌∙◌}
use Rattle.std.specs.Prelude.{IfErr, IfOk, OnOk, None}
use Rattle.pl_seek.specs.Binding.{Binding}
use Rattle.pl_seek.specs.Parts.{fault_in_rows, IsReadFault}
use Rattle.pl_seek.specs.Slices.{slice_rows, slice_cause, slice_frame}
use Rattle.pl_table.specs.Rows.{Row}
use Rattle.pl_seek.proofs.PartLaws.{ok-map}
use Rattle.pl_seek.proofs.SliceLaws.{range-at, given-fits, given-height, cause-first, height-given, frame-given, past-given, on-ok}
use Rattle.pl_seek.proofs.bind.Bound.slice.Goals as goal

pub slice_bounds-part-count : goal.slice_bounds-part-count
slice_bounds-part-count c =
    let b = c.self.inside in
    let o = b.read in
    let at =
    range-at o b.input.now c.self.invariant.0 c.every.result c.args.start c.args.count b.index.every c.args.self.now c.range-begin.result (c.every.ensures.value, c.every.ensures.some) c.self.view_is c.range-begin.ensures in
    at.rising

pub slice_bounds-part-start : goal.slice_bounds-part-start
slice_bounds-part-start c =
    let b = c.self.inside in
    let o = b.read in
    let at =
    range-at o b.input.now c.self.invariant.0 c.every.result c.args.start c.args.count b.index.every c.args.self.now c.range-begin.result (c.every.ensures.value, c.every.ensures.some) c.self.view_is c.range-begin.ensures in
    at.rising

pub slice_bounds-part-end : goal.slice_bounds-part-end
slice_bounds-part-end c =
    let b = c.self.inside in
    let o = b.read in
    let at =
    range-at o b.input.now c.self.invariant.0 c.every.result c.args.start c.args.count b.index.every c.args.self.now c.range-begin.result (c.every.ensures.value, c.every.ensures.some) c.self.view_is c.range-begin.ensures in
    at.fits

pub part_columns-requires-clause-fits : goal.part_columns-requires-clause-fits
part_columns-requires-clause-fits c =
    let b = c.self.inside in
    let o = b.read in
    let at =
    range-at o b.input.now c.self.invariant.0 c.every.result c.args.start c.args.count b.index.every c.args.self.now c.range-begin.result (c.every.ensures.value, c.every.ensures.some) c.self.view_is c.range-begin.ensures in
    let fits = given-fits o b.input.now c.self.invariant.0 c.args.start c.args.count (2 ^ 64) c.ranges.start.fits c.self.told.0 in
    omega (arith, fits, ap length at.rows_are)

pub returns-in-Err-clause-refused : goal.returns-in-Err-clause-refused
returns-in-Err-clause-refused c =
    let b = c.self.inside in
    let o = b.read in
    let at =
    range-at o b.input.now c.self.invariant.0 c.every.result c.args.start c.args.count b.index.every c.args.self.now c.range-begin.result (c.every.ensures.value, c.every.ensures.some) c.self.view_is c.range-begin.ensures in
    let given = slice_rows o b.input.now c.args.start c.args.count in
    subst (λ (v : Binding). IsReadFault (slice_cause v.read c.args.start (slice_rows v.read v.input c.args.start c.args.count)) c.in-Err.fault) c.self.view_is
    (cause-first o c.args.start given c.in-Err.fault (subst (λ (rs : List Row). IsReadFault (fault_in_rows o c.args.start rs) c.in-Err.fault) at.rows_are c.in-Err.ensures.refused))

pub numbered-requires-clause-fits : goal.numbered-requires-clause-fits
numbered-requires-clause-fits c =
    let b = c.self.inside in
    let o = b.read in
    let at =
    range-at o b.input.now c.self.invariant.0 c.every.result c.args.start c.args.count b.index.every c.args.self.now c.range-begin.result (c.every.ensures.value, c.every.ensures.some) c.self.view_is c.range-begin.ensures in
    let height = given-height o b.input.now c.self.invariant.0 c.args.start c.args.count in
    let fits = given-fits o b.input.now c.self.invariant.0 c.args.start c.args.count (2 ^ 64) c.ranges.start.fits c.self.told.0 in
    omega (arith, fits, height-given o c.args.start at.rows_are c.in-Ok.ensures.columns height c.as_ref.ensures.value)

pub returns-in-Ok-clause-frame : goal.returns-in-Ok-clause-frame
returns-in-Ok-clause-frame c =
    let b = c.self.inside in
    let o = b.read in
    let at =
    range-at o b.input.now c.self.invariant.0 c.every.result c.args.start c.args.count b.index.every c.args.self.now c.range-begin.result (c.every.ensures.value, c.every.ensures.some) c.self.view_is c.range-begin.ensures in
    let height = given-height o b.input.now c.self.invariant.0 c.args.start c.args.count in
    let frame = frame-given o c.args.start at.rows_are c.in-Ok.ensures.columns height c.as_ref.ensures.value in
    subst (λ (v : Binding). IfOk c.numbered.result (λ frame. frame ≡ slice_frame v.read c.args.start (slice_rows v.read v.input c.args.start c.args.count))) c.self.view_is
    (ok-map c.numbered.result (λ found is. is ∙ frame) c.numbered.ensures.frame)

pub returns-in-Ok-clause-sound : goal.returns-in-Ok-clause-sound
returns-in-Ok-clause-sound c =
    let b = c.self.inside in
    let o = b.read in
    let at =
    range-at o b.input.now c.self.invariant.0 c.every.result c.args.start c.args.count b.index.every c.args.self.now c.range-begin.result (c.every.ensures.value, c.every.ensures.some) c.self.view_is c.range-begin.ensures in
    let height = given-height o b.input.now c.self.invariant.0 c.args.start c.args.count in
    let none = sym (ap (fault_in_rows o c.args.start) at.rows_are) ∙ c.in-Ok.ensures.sound in
    let past = past-given o c.args.start at.rows_are c.in-Ok.ensures.columns height c.as_ref.ensures.value none in
    subst (λ (v : Binding). OnOk c.numbered.result (slice_cause v.read c.args.start (slice_rows v.read v.input c.args.start c.args.count) ≡ None)) c.self.view_is
    (on-ok c.numbered.result (λ is. sym past ∙ is) c.numbered.ensures.sound)

pub returns-in-Ok-clause-refused : goal.returns-in-Ok-clause-refused
returns-in-Ok-clause-refused c =
    let b = c.self.inside in
    let o = b.read in
    let at =
    range-at o b.input.now c.self.invariant.0 c.every.result c.args.start c.args.count b.index.every c.args.self.now c.range-begin.result (c.every.ensures.value, c.every.ensures.some) c.self.view_is c.range-begin.ensures in
    let height = given-height o b.input.now c.self.invariant.0 c.args.start c.args.count in
    let none = sym (ap (fault_in_rows o c.args.start) at.rows_are) ∙ c.in-Ok.ensures.sound in
    let past = past-given o c.args.start at.rows_are c.in-Ok.ensures.columns height c.as_ref.ensures.value none in
    subst (λ (v : Binding). IfErr c.numbered.result (IsReadFault (slice_cause v.read c.args.start (slice_rows v.read v.input c.args.start c.args.count)))) c.self.view_is
    (subst (λ first. IfErr c.numbered.result (IsReadFault first)) past c.numbered.ensures.refused)
