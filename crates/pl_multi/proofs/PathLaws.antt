-- Bytes that are read from a source in the place of others.
use Rattle.std.proofs.Common.{◌≡◌, ℕ, ◌+◌, List, ◌++◌, length, take, refl, sym, ◌∙◌, ap, arith}
use Rattle.std.specs.Prelude.{◌≤◌}
use borrow.Rule.Slice.PartMut.{put_mid}
use Rattle.std.proofs.lemmas.List.{take-take, length-take-le}
use Rattle.std.proofs.lemmas.Slice.{take-put_mid}
use Rattle.std.proofs.Math.Seq.{take-append-add}

-- the first bytes of what was put behind a place
pub take-filled : (at size n : ℕ) (bytes given : List ℕ) → at ≤ length bytes → n ≤ length given → take (at + n) (put_mid at size bytes given) ≡ take at bytes ++ take n given
take-filled at size n bytes given within fits =
    let front = take at bytes in
    sym (take-take (at + n) (at + length given) (put_mid at size bytes given) (omega (arith, fits)))
    ∙ ap (take (at + n)) (take-put_mid at size bytes given (at + length given) refl within)
    ∙ ap (λ (m : ℕ). take (m + n) (front ++ given)) (sym (length-take-le at bytes within))
    ∙ take-append-add front given n
