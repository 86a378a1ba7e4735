-- The first of several causes.
use Rattle.std.proofs.Common.{◌≡◌, ℕ, List, [], ◌∷◌, ◌++◌, refl, sym, ◌∙◌, inl, inr}
use Rattle.std.specs.Prelude.{Option, None, Some, Result, Ok, Err, IfOk, OnOk, IfErr, MatchResult}
use Rattle.pl_frame.specs.declared.error.PolarsError.{PolarsError}
use Rattle.pl_frame.specs.Frame.{ColumnValue}
use Rattle.pl_frame.specs.Schema.{Entry}
use Rattle.pl_options.specs.declared.read_options.CsvReadOptions.{CsvReadOptions}
use Rattle.pl_options.specs.FirstCause.{IsFirstCause, first_some, IsFault}
use Rattle.pl_read.specs.Reading.{frame_of, IsRead, IsRefusal, IsReadFault}
use Rattle.pl_read.specs.Refusals.{early_causes, late_causes, read_causes}
use Rattle.pl_read.specs.Steps.{MayRead, late_cause}

-- of one cause
pub first_some-one : {X : Type 0} (x : Option X) → first_some (x ∷ []) ≡ x
first_some-one None = refl
first_some-one (Some x) = refl

-- behind one that is not there
pub first_some-behind : {X : Type 0} (x : Option X) (xs : List (Option X)) → x ≡ None → first_some (x ∷ xs) ≡ first_some xs
first_some-behind x xs none = rw none refl

-- one that is there
pub first_some-here : {X : Type 0} (x : Option X) (xs : List (Option X)) (y : X) → x ≡ Some y → first_some (x ∷ xs) ≡ Some y
first_some-here x xs y some = rw some refl

-- where none of some causes is there, it is the first of the others
pub first_some-late : {X : Type 0} (xs ys : List (Option X)) → first_some xs ≡ None → first_some (xs ++ ys) ≡ first_some ys
first_some-late [] ys none = refl
first_some-late (None ∷ xs) ys none = first_some-late xs ys none
first_some-late (Some x ∷ xs) ys none = cc

-- where one is there, it is the first of them with others behind
pub first_some-early : {X : Type 0} (xs ys : List (Option X)) (y : X) → first_some xs ≡ Some y → first_some (xs ++ ys) ≡ Some y
first_some-early [] ys y some = cc
first_some-early (None ∷ xs) ys y some = first_some-early xs ys y some
first_some-early (Some x ∷ xs) ys y some = some

-- where none of several is there, none is in the front
pub first_some-front : {X : Type 0} (x : Option X) (xs : List (Option X)) → first_some (x ∷ xs) ≡ None → x ≡ None
first_some-front None xs none = refl
first_some-front (Some x) xs none = cc

-- nor behind it
pub first_some-rest : {X : Type 0} (x : Option X) (xs : List (Option X)) → first_some (x ∷ xs) ≡ None → first_some xs ≡ None
first_some-rest None xs none = none
first_some-rest (Some x) xs none = cc

-- a fault of a later cause
pub fault-behind : (x : Option PolarsError) (xs : List (Option PolarsError)) (fault : PolarsError) → x ≡ None → IsFault (first_some xs) fault → IsFault (first_some (x ∷ xs)) fault
fault-behind x xs fault none (inl some) = inl (first_some-behind x xs none ∙ some)
fault-behind x xs fault none (inr wanting) = inr wanting

-- a fault of one of several causes
pub fault-early : (xs ys : List (Option PolarsError)) (fault : PolarsError) → IsFault (first_some xs) fault → IsFault (first_some (xs ++ ys)) fault
fault-early xs ys fault (inl some) = inl (first_some-early xs ys fault some)
fault-early xs ys fault (inr wanting) = inr wanting

-- ---- the causes against a read

-- an early cause
pub refused-early : (o : CsvReadOptions) (schema : List Entry) (input : List ℕ) (fault : PolarsError) → IsFirstCause (early_causes o) o.parse_options (Some fault) → IsRefusal o schema input fault
refused-early o schema input fault first =
    record { is_dialect = first.is_dialect; tells = first.tells; is = sym (first_some-early (early_causes o first.is_dialect) (late_causes o schema input) fault (sym first.is)) }

-- a late one, or want of memory
pub refused-late : (o : CsvReadOptions) (schema : List Entry) (input : List ℕ) (fault : PolarsError) → MayRead o → IsFault (late_cause o schema input) fault → IsReadFault o schema input fault
refused-late o schema input fault may (inl some) =
    inl (record { is_dialect = may.is_dialect; tells = may.tells; is = sym (first_some-late (early_causes o may.is_dialect) (late_causes o schema input) (sym may.is) ∙ some) })
refused-late o schema input fault may (inr wanting) = inr wanting

-- none
pub sound-late : (o : CsvReadOptions) (schema : List Entry) (input : List ℕ) → MayRead o → late_cause o schema input ≡ None → IsFirstCause (read_causes o schema input) o.parse_options None
sound-late o schema input may none =
    record { is_dialect = may.is_dialect; tells = may.tells; is = sym (first_some-late (early_causes o may.is_dialect) (late_causes o schema input) (sym may.is) ∙ none) }

-- an answer behind the options
pub read-answer : (o : CsvReadOptions) (schema : List Entry) (input : List ℕ) (result : Result (List ColumnValue) PolarsError) → MayRead o
    → IfOk result (λ frame. frame ≡ frame_of o schema input) → OnOk result (late_cause o schema input ≡ None) → IfErr result (IsFault (late_cause o schema input))
    → MatchResult result (IsRead o schema input) (IsReadFault o schema input)
read-answer o schema input (Ok frame) may is sound refused = (sound-late o schema input may sound, is)
read-answer o schema input (Err fault) may is sound refused = refused-late o schema input fault may refused
