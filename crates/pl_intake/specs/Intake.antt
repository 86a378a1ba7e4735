-- What comes of a source bit by bit (docs/workers.md, "From a source to regions").
use Rattle.std.specs.Prelude.{◌≡◌, ℕ, true, ◌+◌, ◌<◌, ◌≤◌, List, ◌++◌, length, Option}
use Rattle.std.specs.Io.KnownBytes.{Consumes, IsAtEnd}
use Rattle.pl_frame.specs.Came.{Came}
use Rattle.pl_intake.specs.declared.intake.Intake.{Intake}

-- ---- what came

-- these bytes came of a source, and were counted: no more came in all than the limit allows
pub record HasGained (before now : Option (List ℕ)) (limit : ℕ) (intake next : Intake) (bytes : List ℕ) : Type 0 where
  pub came : Consumes before now bytes
  pub size_is : next.size ≡ intake.size + length bytes
  pub within : next.size ≤ limit
  pub ended : next.is_ended ≡ true → IsAtEnd now

-- bytes came, and a text was given: it and what is kept behind it are what was kept before, and these bytes
pub record HasGiven (before now : Option (List ℕ)) (limit : ℕ) (intake next : Intake) (text : List ℕ) : Type 0 where
  pub bytes : List ℕ
  pub gained : HasGained before now limit intake next bytes
  pub are : intake.rest.items ++ bytes ≡ text ++ next.rest.items

-- all bytes that were left came, which is told, and are kept behind what was kept before
pub record HasGainedAll (before now : Option (List ℕ)) (limit : ℕ) (intake next : Intake) : Type 0 where
  pub bytes : List ℕ
  pub gained : HasGained before now limit intake next bytes
  pub end : IsAtEnd now
  pub told : next.is_ended ≡ true
  pub are : next.rest.items ≡ intake.rest.items ++ bytes

-- ---- what did not come

-- more bytes came than the limit allows, where so many came before
abbrev pub IsPastLimit : Option (List ℕ) → Option (List ℕ) → ℕ → ℕ → Type 0
IsPastLimit before now limit size = Came before now (λ bytes. limit < size + length bytes)

-- some bytes came that the limit allows
abbrev pub HasStopped : Option (List ℕ) → Option (List ℕ) → ℕ → ℕ → Type 0
HasStopped before now limit size = Came before now (λ bytes. size + length bytes ≤ limit)
