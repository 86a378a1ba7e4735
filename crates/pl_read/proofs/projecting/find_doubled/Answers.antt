use Rattle.std.proofs.Common.{◌≡◌, ◌<◌, ◌+◌, take, ℕ, Bool, length, get_or, sym, ◌∙◌, ap, arith}
use Rattle.std.specs.Prelude.{Some, find, slice_index_or}
use Rattle.std.specs.List.{range_with_len}
use Rattle.std.proofs.lemmas.List.{take_all}
use Rattle.std.proofs.lemmas.List.FromFn.{length-range_with_len, get_or-range_with_len}
use Rattle.pl_cells.proofs.PlaceLaws.{find_first, find_more}
use Rattle.pl_read.specs.declared.projecting.Times.TheVariants as times
use Rattle.pl_read.specs.Steps.{is_more}
use Rattle.pl_read.proofs.projecting.find_doubled.Goals as goal

from_zero : (i : ℕ) → 0 + i ≡ i
from_zero i = omega arith

pub returns-then-is_more : goal.returns-then-is_more
returns-then-is_more c =
    let p : ℕ → Bool = λ place. is_more (slice_index_or c.args.times.now place times.Never) in
    let i = c.loop-place.place in
    let n = length c.args.times.now in
    let within : i < n = omega (arith, c.loop-place-test.true, c.loop-place.auto.place-end) in
    let same : get_or (range_with_len 0 n) i 0 ≡ i = get_or-range_with_len 0 n i 0 within ∙ from_zero i in
    sym (ap (λ x. Some x) same) ∙ find_first p (range_with_len 0 n) i 0 (omega (arith, within, length-range_with_len 0 n)) c.loop-place.invariant (ap p same ∙ sym c.is_more.ensures ∙ c.if-is_more.true)

pub loop-place-preserved : goal.loop-place-preserved
loop-place-preserved c =
    let p : ℕ → Bool = λ place. is_more (slice_index_or c.args.times.now place times.Never) in
    let i = c.loop-place.place in
    let n = length c.args.times.now in
    let within : i < n = omega (arith, c.loop-place-test.true, c.loop-place.auto.place-end) in
    let same : get_or (range_with_len 0 n) i 0 ≡ i = get_or-range_with_len 0 n i 0 within ∙ from_zero i in
    find_more p (range_with_len 0 n) i 0 (omega (arith, within, length-range_with_len 0 n)) c.loop-place.invariant (ap p same ∙ sym c.is_more.ensures ∙ c.if-is_more.false)

pub returns : goal.returns
returns c =
    let n = length c.args.times.now in
    let all : take c.loop-place.place (range_with_len 0 n) ≡ range_with_len 0 n = take_all c.loop-place.place (range_with_len 0 n) (omega (arith, c.loop-place-test.false, length-range_with_len 0 n)) in
    sym (sym (ap (find (λ place. is_more (slice_index_or c.args.times.now place times.Never))) all) ∙ c.loop-place.invariant)
