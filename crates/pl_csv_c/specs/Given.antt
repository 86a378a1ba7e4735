-- What the words of a call mean (docs/command-line.md, "Words").
use Rattle.std.specs.Prelude.{◌≡◌, ℕ, List, Some, IsUtf8}
use Rattle.std.specs.List.{AllByRecursion}
use Rattle.pl_csv.specs.declared.run.Refusal.{Refusal}
use Rattle.pl_csv.specs.declared.run.Refusal.TheVariants as refusal
use Rattle.pl_csv_c.specs.declared.given.Given.{Given}
use Rattle.pl_frame.specs.declared.error.PolarsError.TheVariants as error
use Rattle.pl_words.specs.Words.{job_of_words}
use Rattle.pl_words.specs.declared.job.Job.TheVariants as job

-- words ask that an input is read so, and a frame is written so: each is UTF-8, and together they mean it
pub record Asks (words : List (List ℕ)) (given : Given) : Type 0 where
  pub utf8 : AllByRecursion IsUtf8 words
  pub meaning : job_of_words words ≡ Some (job.Convert given.read given.write)

-- why words are not taken: they ask for nothing; or memory is wanting, which may be at any time
abbrev pub IsUnasked : List (List ℕ) → Refusal → Type 0
IsUnasked words refusal.Words = (given : Given) → Asks words given → ⊥
IsUnasked words (refusal.Polars fault) = fault ≡ error.OutOfMemory
IsUnasked words _ = ⊥

-- why bytes are not taken as a text: they are not UTF-8; or memory is wanting
abbrev pub IsNoText : List ℕ → Refusal → Type 0
IsNoText word refusal.Words = IsUtf8 word → ⊥
IsNoText word (refusal.Polars fault) = fault ≡ error.OutOfMemory
IsNoText word _ = ⊥
