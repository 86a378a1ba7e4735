-- How a call tells that it refuses: a status, and a fault line in the caller's memory (docs/command-line.md, "Statuses").
use Rattle.std.specs.Prelude.{◌≡◌, ◌⊎◌, ℕ, List, ◌++◌, length, take, drop, codes}
use Rattle.pl_csv.specs.Telling.{status_of, fault_line}
use Rattle.pl_csv.specs.declared.run.Refusal.{Refusal}
use Rattle.pl_csv.specs.declared.run.Refusal.TheVariants as refusal
use Rattle.pl_frame.specs.declared.error.PolarsError.TheVariants as error

-- the fault line of a refusal, without its line feed, stands at the front of memory as far as there is room; behind it all is as it
-- was; and this is its whole length
pub record IsLineOf (given : Refusal) (old new : List ℕ) (len : ℕ) : Type 0 where
  pub text : List ℕ
  pub line_is : fault_line given ≡ text ++ codes "\n"
  pub put : new ≡ take (length old) text ++ drop (length text) old
  pub len_is : len ≡ length text

-- a call refuses for a cause: its status is that of the cause, and the fault line of the cause is told
pub record IsRefusedAs (IsCause : Refusal → Type 0) (status : ℕ) (old new : List ℕ) (len : ℕ) : Type 0 where
  pub given : Refusal
  pub cause : IsCause given
  pub status_is : status ≡ status_of given
  pub line : IsLineOf given old new len

-- what is told where something is refused: that, or want of memory
abbrev pub MayStandFor : Refusal → Refusal → Type 0
MayStandFor refused told = (told ≡ refused) ⊎ (told ≡ refusal.Polars error.OutOfMemory)
