-- Words and an input have a status that is due, and only one.
use Rattle.std.proofs.Common.{◌≡◌, ℕ, ◌^◌, ◌<◌, ◌≤◌, Bool, true, false, List, length, refl, arith, inl, inr}
use Rattle.std.specs.Prelude.{◌⊎◌, Option, None, Some, nat_lt}
use Rattle.std.proofs.lemmas.Bool.Decides.{nat_tests}
use Rattle.pl_frame.specs.Frame.{ColumnValue}
use Rattle.pl_frame.specs.declared.error.PolarsError.{PolarsError}
use Rattle.pl_read.specs.Options.{settled_schema}
use Rattle.pl_words.specs.declared.job.Job.{Job}
use Rattle.pl_words.specs.declared.job.Job.TheVariants as job
use Rattle.pl_words.specs.Words.{Conversion, converting, job_of_words}
use Rattle.pl_csv.specs.Making.{making_status}
use Rattle.pl_csv.specs.Run.{HasOneDue, Makes}
use Rattle.pl_csv.specs.Telling.{status_of_fault}
use Rattle.pl_csv.proofs.OutcomeLaws.{outcome}
use Rattle.pl_csv.proofs.RunLaws.{due-words, due-long, due-read, due-invalid, due-made, Valid, Cause}

-- ---- what is due

due-conversion : (words : List (List ℕ)) (input : List ℕ) (c : Conversion) → job_of_words words ≡ Some (converting c) → length input ≤ 2 ^ 36 → HasOneDue words input
due-conversion words input c meaning within = by_outcome (outcome c.read (settled_schema c.read input) input c.write)
  where
    by_outcome : ((frame : List ColumnValue) × Valid c input frame) ⊎ ((first : PolarsError) × Cause c input first) → HasOneDue words input
    by_outcome (inl (frame, read)) = (
      0,
      inr (inr (inl (record { conversion = c; meaning = meaning; within = within; frame = frame; read = read }, refl))),
      λ other due. due-read words input other c (record { meaning = meaning; within = within }) frame read due,
    )
    by_outcome (inr (first, is)) = (
      status_of_fault first,
      inr (inr (inr (inl (first, record { conversion = c; meaning = meaning; within = within; is = is }, refl)))),
      λ other due. due-invalid words input other c (record { meaning = meaning; within = within }) first is due,
    )

due-making : (words : List (List ℕ)) (input : List ℕ) (rows workers piece : ℕ) → Makes words rows workers piece → HasOneDue words input
due-making words input rows workers piece meaning = (
  making_status workers piece,
  inr (inr (inr (inr (record { rows = rows; workers = workers; piece = piece; meaning = meaning; is = refl })))),
  λ other due. due-made words input other rows workers piece meaning due,
)

-- words and an input have one status that is due
pub one_due : (words : List (List ℕ)) (input : List ℕ) → HasOneDue words input
one_due words input = by_words (job_of_words words) refl
  where
    by_length : (c : Conversion) → job_of_words words ≡ Some (converting c) → (t : Bool) → nat_lt (2 ^ 36) (length input) ≡ t → HasOneDue words input
    by_length c meaning true e =
        let long : 2 ^ 36 < length input = grind (arith, nat_tests, e) in
        (6, inr (inl ((c, meaning), long, refl)), λ other due. due-long words input other (c, meaning) long due)
    by_length c meaning false e = due-conversion words input c meaning (grind (arith, nat_tests, e))

    by_words : (o : Option Job) → job_of_words words ≡ o → HasOneDue words input
    by_words None none = (2, inl (none, refl), λ other due. due-words words input other none due)
    by_words (Some (job.Convert read write)) meaning = by_length (record { read = read; write = write }) meaning (nat_lt (2 ^ 36) (length input)) refl
    by_words (Some (job.Make rows workers piece)) meaning = due-making words input rows workers piece meaning
