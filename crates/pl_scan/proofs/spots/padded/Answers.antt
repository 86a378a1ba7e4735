use Rattle.std.proofs.Common.{◌≢◌, ◌<◌, length, refl, arith, ◌∙◌, get_or-set_other, get_or-set_same, below_more}
use Rattle.std.proofs.lemmas.List.{get_or-replicate, length-replicate, length-set}
use Rattle.pl_scan.proofs.spots.padded.Goals as goal

pub loop-place-init : goal.loop-place-init
loop-place-init c = record { len = length-replicate 64 c.args.eol_char; tail = λ i h. absurd (omega arith); behind = λ i l h. get_or-replicate 64 i c.args.eol_char 0 h }

pub loop-place-preserved : goal.loop-place-preserved
loop-place-preserved c = record {
  len = length-set _ _ _ ∙ c.loop-place.invariant.len;
  tail = below_more _ _
      (λ k h. let ne : k ≢ c.loop-place.place = omega arith in rw get_or-set_other (c.loop-place.invariant.tail k h))
      (let lt : c.loop-place.place < length c.loop-place.block = omega (arith, c.loop-place.invariant.len) in rw get_or-set_same refl);
  behind = λ i l h. let ne : i ≢ c.loop-place.place = omega arith in rw get_or-set_other (c.loop-place.invariant.behind i (omega arith) h);
}
