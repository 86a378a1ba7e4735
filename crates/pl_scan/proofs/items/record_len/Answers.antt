use Rattle.std.proofs.Common.{arith, ◌≢◌, ◌<◌, ◌+◌, ◌∙◌, ap, sym, length, get_or}
use Rattle.std.proofs.lemmas.List.{take_rest}
use Rattle.pl_frame.specs.Dialect.{marks}
use Rattle.pl_scan.proofs.ItemLaws.{extent-at_more, extent-at_last}
use Rattle.pl_scan.proofs.items.record_len.Goals as goal
use Rattle.pl_scan.proofs.items.record_len.Goals.{else-at-slice-via-then-at-slice+else-slice-at, else-at-slice-via-else-at-slice}

pub loop-at-preserved : goal.loop-at-preserved
loop-at-preserved c =
    let m = marks c.args.separator c.args.quote_char c.args.eol_char in
    let b = c.args.slice.now in
    let i = c.loop-at.at in
    let n = c.field_len-at.result in
    let cut = rw take_rest at c.field_len-at.ensures.cut in
    let more = extent-at_more m b i n cut c.if-at-slice.true c.if-slice-at.true in
    record { within = omega arith; value = c.loop-at.invariant.value ∙ ap (λ k. i + k) more ∙ omega arith }

pub returns-else-at-slice-clause-value : goal.returns-else-at-slice-clause-value
returns-else-at-slice-clause-value c =
    let m = marks c.args.separator c.args.quote_char c.args.eol_char in
    let b = c.args.slice.now in
    let i = c.loop-at.at in
    let n = c.field_len-at.result in
    let cut = rw take_rest at c.field_len-at.ensures.cut in
    let fits = rw take_rest at c.field_len-at.ensures.fits in
    let other : i + n < length b → get_or b (i + n) 0 ≢ c.args.separator = elim c.else-at-slice.branch [
      | else-at-slice-via-then-at-slice+else-slice-at w ↦ λ _. w.if-slice-at.false
      | else-at-slice-via-else-at-slice w ↦ λ h. absurd (omega arith)
    ] in
    sym (c.loop-at.invariant.value ∙ ap (λ k. i + k) (extent-at_last m b i n cut fits other))
