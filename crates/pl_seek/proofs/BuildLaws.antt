-- What stands against an index of an input.
use Rattle.std.proofs.Common.{◌≡◌, ℕ, ◌<◌, [], true, false, List, length, drop, Option, Some, None, refl, sym, ◌∙◌, ap, subst, arith, inl, inr, length-drop}
use Rattle.std.specs.Prelude.{unwrap_or, is_none, is_some, ◌||◌}
use Rattle.pl_frame.specs.Schema.{Entry}
use Rattle.pl_frame.specs.declared.error.PolarsError.{PolarsError}
use Rattle.pl_frame.specs.declared.error.PolarsError.TheVariants as error
use Rattle.pl_options.specs.declared.read_options.CsvReadOptions.{CsvReadOptions}
use Rattle.pl_options.specs.FirstCause.{IsFirstCause, IsFault}
use Rattle.pl_options.specs.Text.{marks_of, comment_of}
use Rattle.pl_infer.specs.Inference.{inference_of, inferred}
use Rattle.pl_read.specs.Options.{settled, settled_schema, data_of}
use Rattle.pl_read.specs.Refusals.{early_causes, causes_before_rows}
use Rattle.pl_read.specs.SettleGiven.{given_schema}
use Rattle.pl_read.specs.Steps.{MayRead, opening_cause}
use Rattle.pl_read.proofs.CauseLaws.{first_some-early, first_some-late}
use Rattle.pl_seek.specs.Building.{asks_nothing, is_wrong, causes_before, MayIndex, IsBuildFault, places_in}
use Rattle.pl_seek.specs.Checking.{fault_of}
use Rattle.pl_seek.specs.Index.{ArePlaces}
use Rattle.pl_seek.specs.Places.{record_places, group_places}
use Rattle.pl_seek.proofs.GroupLaws.{are_places}
use Rattle.pl_seek.proofs.PlaceLaws.{places-rise}

pub settled-given : (o : CsvReadOptions) (input : List ℕ) → is_wrong o ≡ false → settled_schema o input ≡ given_schema o
settled-given o input right = by o.schema refl
  where
    by : (schema : Option (List Entry)) → o.schema ≡ schema → settled_schema o input ≡ given_schema o
    by None e = let wrong : (true || (is_some o.n_rows || asks_nothing o)) ≡ false = subst (λ s. (is_none s || (is_some o.n_rows || asks_nothing o)) ≡ false) e right in absurd (cc)
    by (Some schema) e = ap (λ s. settled o (unwrap_or s (inferred (inference_of o) input))) e ∙ sym (ap (λ s. settled o (unwrap_or s [])) e)

-- nothing stands against it
pub may-index : (o : CsvReadOptions) (input : List ℕ) → is_wrong o ≡ false → MayRead o → opening_cause o (settled_schema o input) input ≡ None → MayIndex o input
may-index o input right may none = (
  right,
  record {
    is_dialect = may.is_dialect;
    tells = may.tells;
    is = sym (first_some-late (early_causes o may.is_dialect) (causes_before_rows o (given_schema o) input) (sym may.is)
        ∙ sym (ap (λ s. opening_cause o s input) (settled-given o input right)) ∙ none);
  },
)

-- a first cause, or want of memory
build-fault : (o : CsvReadOptions) (input : List ℕ) → is_wrong o ≡ false → (cause : PolarsError) → IsFirstCause (causes_before o input) o.parse_options (Some cause) → IsBuildFault o input (fault_of cause)
build-fault o input right error.OutOfMemory first = tt
build-fault o input right error.IO first = (right, first, λ e. absurd (cc))
build-fault o input right error.EmptyProjection first = (right, first, λ e. absurd (cc))
build-fault o input right (error.InvalidOperation op) first = (right, first, λ e. absurd (cc))
build-fault o input right (error.ComputeError compute) first = (right, first, λ e. absurd (cc))
build-fault o input right (error.NoData none) first = (right, first, λ e. absurd (cc))
build-fault o input right (error.ColumnNotFound name) first = (right, first, λ e. absurd (cc))
build-fault o input right (error.OutOfBounds index bound) first = (right, first, λ e. absurd (cc))
build-fault o input right (error.Duplicate name place) first = (right, first, λ e. absurd (cc))

-- one against the options
pub early-fault : (o : CsvReadOptions) (input : List ℕ) → is_wrong o ≡ false → (cause : PolarsError) → IsFirstCause (early_causes o) o.parse_options (Some cause) → IsBuildFault o input (fault_of cause)
early-fault o input right cause first = build-fault o input right cause (record {
  is_dialect = first.is_dialect;
  tells = first.tells;
  is = sym (first_some-early (early_causes o first.is_dialect) (causes_before_rows o (given_schema o) input) cause (sym first.is));
})

-- one against the input
pub late-fault : (o : CsvReadOptions) (input : List ℕ) → is_wrong o ≡ false → MayRead o → (cause : PolarsError) → IsFault (opening_cause o (settled_schema o input) input) cause → IsBuildFault o input (fault_of cause)
late-fault o input right may cause (inr wanting) = subst (λ f. IsBuildFault o input (fault_of f)) (sym wanting) tt
late-fault o input right may cause (inl first) = build-fault o input right cause (record {
  is_dialect = may.is_dialect;
  tells = may.tells;
  is = sym (first_some-late (early_causes o may.is_dialect) (causes_before_rows o (given_schema o) input) (sym may.is)
      ∙ sym (ap (λ s. opening_cause o s input) (settled-given o input right)) ∙ first);
})

-- ---- the index

-- the places of an input whose data begins at this place
pub places-are : (o : CsvReadOptions) (input : List ℕ) (start : ℕ) → data_of o input ≡ Some (drop start input)
    → record_places (marks_of o.parse_options) (comment_of o.parse_options) (length input) (drop start input) ≡ places_in o input
places-are o input start e = sym (ap (λ found. record_places (marks_of o.parse_options) (comment_of o.parse_options) (length input) (unwrap_or found [])) e)

pub groups-are : (o : CsvReadOptions) (input : List ℕ) (start every records : ℕ) (places : List ℕ) → 0 < every → data_of o input ≡ Some (drop start input) → records ≡ length (places_in o input)
    → places ≡ group_places every (places_in o input) → ArePlaces every records places
groups-are o input start every records places some e count is =
    let rise = places-rise (marks_of o.parse_options) (comment_of o.parse_options) (length input) (drop start input) (omega (arith, length-drop start input)) in
    let are = are_places every _ (record_places (marks_of o.parse_options) (comment_of o.parse_options) (length input) (drop start input)) some rise in
    let all = places-are o input start e in
    subst (λ n. ArePlaces every n places) (sym (count ∙ ap length (sym all)))
    (subst (ArePlaces every (length (record_places (marks_of o.parse_options) (comment_of o.parse_options) (length input) (drop start input)))) (sym (is ∙ ap (group_places every) (sym all))) are)
