-- Texts of a source that are handed to workers (docs/workers.md, "From a source to a frame").
use Rattle.std.specs.Prelude.{◌≡◌, ℕ, List, ◌++◌, Option}
use Rattle.std.specs.List.{concat}
use Rattle.pl_intake.specs.Intake.{HasGiven}
use Rattle.pl_intake.specs.declared.intake.Intake.{Intake}

-- texts came of a source, and stand behind those that were handed out before
pub record HasHanded (before now : Option (List ℕ)) (limit : ℕ) (intake next : Intake) (old new : List (List ℕ)) : Type 0 where
  pub more : List (List ℕ)
  pub given : HasGiven before now limit intake next (concat more)
  pub are : new ≡ old ++ more
