-- Texts of a source that are handed to workers.
use Rattle.std.proofs.Common.{◌≡◌, ℕ, List, [], ◌++◌, Option, sym, ◌∙◌, arith, append-nil}
use Rattle.pl_intake.specs.Intake.{HasGiven}
use Rattle.pl_intake.specs.Handed.{HasHanded}
use Rattle.pl_intake.specs.declared.intake.Intake.{Intake}

-- a text came, and was taken back
pub HasHanded-back : (before now : Option (List ℕ)) (limit : ℕ) (intake next kept : Intake) (text : List ℕ) (pending : List (List ℕ)) → HasGiven before now limit intake next text → kept.rest.items ≡ text ++ next.rest.items
    → kept.size ≡ next.size → kept.is_ended ≡ next.is_ended → HasHanded before now limit intake kept pending pending
HasHanded-back before now limit intake next kept text pending given rest size ended = record {
  more = [];
  given = record {
    bytes = given.bytes;
    gained = record {
      came = given.gained.came;
      size_is = size ∙ given.gained.size_is;
      within = omega (arith, size, given.gained.within);
      ended = λ is. given.gained.ended (sym ended ∙ is);
    };
    are = given.are ∙ sym rest;
  };
  are = sym (append-nil pending);
}
