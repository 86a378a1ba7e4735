-- Causes in their order, and the first of them (docs/refusals.md).
use Rattle.std.specs.Prelude.{◌≡◌, ◌⊎◌, Bool, true, false, if◌then◌else◌, List, [], ◌∷◌, Option, None, Some}
use Rattle.pl_frame.specs.Dialect.{IsDialect}
use Rattle.pl_frame.specs.declared.error.PolarsError.{PolarsError}
use Rattle.pl_frame.specs.declared.error.PolarsError.TheVariants as error
use Rattle.pl_options.specs.declared.parse_options.CsvParseOptions.{CsvParseOptions}
use Rattle.pl_options.specs.Text.{marks_of, comment_of}

-- a refusal, where something holds
abbrev pub when : Bool → PolarsError → Option PolarsError
when holds refusal = if holds then Some refusal else None

-- the first that is there
abbrev pub first_some : {X : Type 0} → List (Option X) → Option X
first_some [] = None
first_some (None ∷ others) = first_some others
first_some (Some x ∷ others) = Some x

-- the fault is this one; or memory is wanting, which may be at any time
abbrev pub IsFault : Option PolarsError → PolarsError → Type 0
IsFault first fault = (first ≡ Some fault) ⊎ (fault ≡ error.OutOfMemory)

-- ---- causes of which the first is that the marks are no dialect

-- a truth value tells whether something holds
abbrev pub Tells : Bool → Type 0 → Type 0
Tells true holds = holds
Tells false holds = ¬ holds

-- the first of the causes, or none; they are given by whether the marks and the comment prefix of options are a dialect
pub record IsFirstCause (causes : Bool → List (Option PolarsError)) (o : CsvParseOptions) (first : Option PolarsError) : Type 0 where
  pub is_dialect : Bool
  pub tells : Tells is_dialect (IsDialect (marks_of o) (comment_of o))
  pub is : first ≡ first_some (causes is_dialect)
