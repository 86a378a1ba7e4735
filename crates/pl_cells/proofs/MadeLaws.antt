-- A buffer that is put at the end as soon as it is made.
use Rattle.std.proofs.Common.{◌≡◌, List, [], ◌∷◌, ◌++◌, map, Result, Ok, Err, ◌∙◌, ap}
use Rattle.std.specs.Prelude.{OnOk, IfOk, IsOk}
use Rattle.std.proofs.lemmas.List.{map-append}
use Rattle.pl_cells.specs.declared.buffer.Buffer.{Buffer}
use Rattle.pl_cells.specs.BufferValue.{BufferValue}
use Rattle.pl_cells.specs.InitBuffers.{state_of}

-- what stands at the end is what was made
pub put_made : {A E F : Type 0} (r : Result A E) (made : Result Buffer F) (old new : List Buffer) (value : BufferValue) → OnOk r (IsOk made) → IfOk made (λ b. state_of b ≡ value)
    → OnOk r (IfOk made (λ b. new ≡ old ++ b ∷ [])) → OnOk r (map state_of new ≡ map state_of old ++ value ∷ [])
put_made (Ok done) (Ok b) old new value ok is pushed = ap (map state_of) pushed ∙ map-append state_of old (b ∷ []) ∙ ap (λ v. map state_of old ++ v ∷ []) is
put_made (Ok done) (Err wrong) old new value ok is pushed = absurd (let no = ok in cc)
put_made (Err wrong) made old new value ok is pushed = tt
