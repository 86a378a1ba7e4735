-- The types of columns by their records, one after another, are those by all of their fields.
use Rattle.std.proofs.Common.{◌≡◌, ℕ, zero, suc, ◌+◌, ◌<◌, ◌≤◌, Bool, true, false, cond, ◌&&◌, ◌||◌, List, [], ◌∷◌, map, length, drop, get_or, refl, sym, ◌∙◌, ap, arith, inl, inr}
use Rattle.std.specs.Prelude.{Option, None, Some, slice_get}
use Rattle.std.specs.List.{filter_map, cons_option, fold, list_any, list_all, range_with_len}
use Rattle.std.specs.Option.{option_and_then}
use Rattle.std.proofs.lemmas.Bool.{cases_lt}
use Rattle.std.proofs.lemmas.List.{drop_more, drop_all}
use Rattle.pl_frame.specs.declared.data_type.DataType.{DataType}
use Rattle.pl_frame.specs.declared.data_type.DataType.TheVariants as dtype
use Rattle.pl_frame.specs.Equal.{types_equal}
use Rattle.pl_scan.specs.Dialect.{marks_of}
use Rattle.pl_scan.specs.Fields.{fields, begins_quoted}
use Rattle.pl_scan.specs.Items.{ItemText, record_text}
use Rattle.pl_infer.specs.declared.evidence.EvidenceRules.{EvidenceRules}
use Rattle.pl_infer.specs.declared.evidence.ShownTypes.{ShownTypes}
use Rattle.pl_infer.specs.declared.evidence.ShownTypes.TheVariants as shown
use Rattle.pl_infer.specs.declared.evidence.Seen.{Seen}
use Rattle.pl_infer.specs.Evidence.{evidence_of, evidence_at, column_type}
use Rattle.pl_infer.specs.FieldTypes.{agreed_type}
use Rattle.pl_infer.specs.Sample.{column_fields, is_long_field, has_long_text}
use Rattle.pl_infer.specs.SampleSteps.{null_test_in, with_type, with_evidence, with_field, with_fields, with_records, nothing_seen, unseen, type_seen, column_types, have_long_text}
use Rattle.pl_infer.proofs.SampleLaws.{with_fields-nil}

-- ---- a record, column by column

-- what is known of a column with a field more, where the record has one
abbrev with_optional : EvidenceRules → ℕ → Seen → Option (List ℕ) → Seen
with_optional rules column seen None = seen
with_optional rules column seen (Some field) = with_field rules column seen field

slice_get-past : (fs : List (List ℕ)) (i : ℕ) → length fs ≤ i → slice_get fs i ≡ None
slice_get-past [] i past = refl
slice_get-past (f ∷ fs) zero past = absurd (omega arith)
slice_get-past (f ∷ fs) (suc i) past = slice_get-past fs i (omega arith)

slice_get-inside : (fs : List (List ℕ)) (i : ℕ) (d : List ℕ) → i < length fs → slice_get fs i ≡ Some (get_or fs i d)
slice_get-inside [] i d inside = absurd (omega arith)
slice_get-inside (f ∷ fs) zero d inside = refl
slice_get-inside (f ∷ fs) (suc i) d inside = slice_get-inside fs i d (omega arith)

columns-past : (rules : EvidenceRules) (fs : List (List ℕ)) (f : ℕ → Seen) (a n : ℕ) → length fs ≤ a
    → map f (range_with_len a n) ≡ map (λ c. with_optional rules c (f c) (slice_get fs c)) (range_with_len a n)
columns-past rules fs f a zero past = refl
columns-past rules fs f a (suc n) past =
    ap (λ l. f a ∷ l) (columns-past rules fs f (a + 1) n (omega (arith, past)))
    ∙ sym (ap (λ o. with_optional rules a (f a) o ∷ map (λ c. with_optional rules c (f c) (slice_get fs c)) (range_with_len (a + 1) n)) (slice_get-past fs a past))

abbrev mark : Option ℕ → List ℕ → List ℕ × Bool
mark quote f = (f, begins_quoted quote f)

columns-from : (rules : EvidenceRules) (fs : List (List ℕ)) (f : ℕ → Seen) (a n : ℕ)
    → with_fields rules a (map (mark rules.dialect.quote_char) (drop a fs)) (map f (range_with_len a n)) ≡ map (λ c. with_optional rules c (f c) (slice_get fs c)) (range_with_len a n)
columns-from rules fs f a zero = with_fields-nil rules a (map (mark rules.dialect.quote_char) (drop a fs))
columns-from rules fs f a (suc n) = elim (cases_lt a (length fs)) [
  | inl inside ↦
      let q = rules.dialect.quote_char in
      ap (λ l. with_fields rules a (map (mark q) l) (map f (range_with_len a (suc n)))) (drop_more fs a [] inside)
      ∙ ap (λ l. with_field rules a (f a) (get_or fs a []) ∷ l) (columns-from rules fs f (a + 1) n)
      ∙ sym (ap (λ o. with_optional rules a (f a) o ∷ map (λ c. with_optional rules c (f c) (slice_get fs c)) (range_with_len (a + 1) n)) (slice_get-inside fs a [] inside))
  | inr past ↦
      ap (λ l. with_fields rules a (map (mark rules.dialect.quote_char) l) (map f (range_with_len a (suc n)))) (drop_all a fs past)
      ∙ columns-past rules fs f a (suc n) past
]

-- ---- all records, column by column

abbrev known : EvidenceRules → Seen → List (List ℕ) → ℕ → Seen
known rules seen given c = fold (with_field rules c) seen (column_fields (marks_of rules.dialect) c given)

map-same : {A B : Type 0} (f g : A → B) → ((x : A) → f x ≡ g x) → (xs : List A) → map f xs ≡ map g xs
map-same f g same [] = refl
map-same f g same (x ∷ xs) = ap (λ y. y ∷ map f xs) (same x) ∙ ap (λ l. g x ∷ l) (map-same f g same xs)

known-more : (rules : EvidenceRules) (seen : Seen) (c : ℕ) (o : Option (List ℕ)) (fs : List (List ℕ))
    → fold (with_field rules c) (with_optional rules c seen o) fs ≡ fold (with_field rules c) seen (cons_option o fs)
known-more rules seen c None fs = refl
known-more rules seen c (Some f) fs = refl

records-known : (rules : EvidenceRules) (width : ℕ) (f : ℕ → Seen) (given : List (List ℕ))
    → with_records rules (map f (range_with_len 0 width)) given ≡ map (λ c. known rules (f c) given c) (range_with_len 0 width)
records-known rules width f [] = refl
records-known rules width f (r ∷ given) =
    let m = marks_of rules.dialect in
    let next : ℕ → Seen = λ c. with_optional rules c (f c) (slice_get (fields m r) c) in
    ap (λ s. with_records rules s given) (columns-from rules (fields m r) f 0 width)
    ∙ records-known rules width next given
    ∙ map-same (λ c. known rules (next c) given c) (λ c. known rules (f c) (r ∷ given) c)
    (λ c. known-more rules (f c) c (slice_get (fields m r) c) (column_fields m c given)) (range_with_len 0 width)

-- ---- one column

evidence-more : (types : ShownTypes) (o : Option DataType) (others : List DataType) → fold with_type (with_evidence types o) others ≡ fold with_type types (cons_option o others)
evidence-more types None others = refl
evidence-more types (Some type) others = refl

types-known : (rules : EvidenceRules) (c : ℕ) (seen : Seen) (fs : List (List ℕ))
    → (fold (with_field rules c) seen fs).types ≡ fold with_type seen.types (filter_map (evidence_of rules.dates (null_test_in rules c) rules.dialect.quote_char) fs)
types-known rules c seen [] = refl
types-known rules c seen (f ∷ fs) =
    let evidence = evidence_of rules.dates (null_test_in rules c) rules.dialect.quote_char in
    types-known rules c (with_field rules c seen f) fs ∙ evidence-more seen.types (evidence f) (filter_map evidence fs)

or-assoc : (a b c : Bool) → ((a || b) || c) ≡ (a || (b || c))
or-assoc true b c = refl
or-assoc false b c = refl

long-known : (rules : EvidenceRules) (c : ℕ) (seen : Seen) (fs : List (List ℕ))
    → (fold (with_field rules c) seen fs).has_long_text ≡ (seen.has_long_text || list_any (is_long_field rules.dates (null_test_in rules c) (marks_of rules.dialect)) fs)
long-known rules c seen [] = or-false seen.has_long_text
  where
    or-false : (b : Bool) → b ≡ (b || false)
    or-false true = refl
    or-false false = refl
long-known rules c seen (f ∷ fs) =
    let is_long = is_long_field rules.dates (null_test_in rules c) (marks_of rules.dialect) in
    long-known rules c (with_field rules c seen f) fs ∙ or-assoc seen.has_long_text (is_long f) (list_any is_long fs)

several : (others : List DataType) → fold with_type shown.Several others ≡ shown.Several
several [] = refl
several (type ∷ others) = several others

type_seen-one : (first : DataType) (others : List DataType) → type_seen (fold with_type (shown.One first) others) ≡ cond (list_all (types_equal first) others) first dtype.String
type_seen-one first [] = refl
type_seen-one first (type ∷ others) = by (types_equal first type) (type_seen-one first others)
  where
    by : (same : Bool) → type_seen (fold with_type (shown.One first) others) ≡ cond (list_all (types_equal first) others) first dtype.String
        → type_seen (fold with_type (cond same (shown.One first) shown.Several) others) ≡ cond (same && list_all (types_equal first) others) first dtype.String
    by true one = one
    by false one = ap type_seen (several others)

type_seen-agreed : (types : List DataType) → type_seen (fold with_type shown.Nothing types) ≡ agreed_type types
type_seen-agreed [] = refl
type_seen-agreed (first ∷ others) = type_seen-one first others

evidence-through : (evidence : List ℕ → Option DataType) (o : Option (List ℕ)) (fs : List (List ℕ)) (found : List DataType) → found ≡ filter_map evidence fs
    → cons_option (option_and_then evidence o) found ≡ filter_map evidence (cons_option o fs)
evidence-through evidence None fs found same = same
evidence-through evidence (Some f) fs found same = ap (cons_option (evidence f)) same

evidence-fields : (rules : EvidenceRules) (c : ℕ) (given : List (List ℕ))
    → filter_map (evidence_at rules.dates (null_test_in rules c) (marks_of rules.dialect) c) given
    ≡ filter_map (evidence_of rules.dates (null_test_in rules c) rules.dialect.quote_char) (column_fields (marks_of rules.dialect) c given)
evidence-fields rules c [] = refl
evidence-fields rules c (r ∷ given) =
    let m = marks_of rules.dialect in
    let is_null = null_test_in rules c in
    evidence-through (evidence_of rules.dates is_null rules.dialect.quote_char) (slice_get (fields m r) c) (column_fields m c given)
    (filter_map (evidence_at rules.dates is_null m c) given) (evidence-fields rules c given)

column-type : (rules : EvidenceRules) (sample : List ItemText) (c : ℕ)
    → type_seen (known rules nothing_seen (filter_map record_text sample) c).types ≡ column_type rules.dates (null_test_in rules c) (marks_of rules.dialect) sample c
column-type rules sample c =
    let m = marks_of rules.dialect in
    let given = filter_map record_text sample in
    let evidence = evidence_of rules.dates (null_test_in rules c) rules.dialect.quote_char in
    ap type_seen (types-known rules c nothing_seen (column_fields m c given))
    ∙ type_seen-agreed (filter_map evidence (column_fields m c given))
    ∙ sym (ap agreed_type (evidence-fields rules c given))

-- ---- all columns

types-of : (f : ℕ → Seen) (types : ℕ → DataType) → ((c : ℕ) → type_seen (f c).types ≡ types c) → (xs : List ℕ) → map (λ (seen : Seen). type_seen seen.types) (map f xs) ≡ map types xs
types-of f types same [] = refl
types-of f types same (x ∷ xs) = ap (λ t. t ∷ map (λ (seen : Seen). type_seen seen.types) (map f xs)) (same x) ∙ ap (λ l. types x ∷ l) (types-of f types same xs)

long-of : (f : ℕ → Seen) (long : ℕ → Bool) → ((c : ℕ) → (f c).has_long_text ≡ long c) → (xs : List ℕ) → list_any (λ (seen : Seen). seen.has_long_text) (map f xs) ≡ list_any long xs
long-of f long same [] = refl
long-of f long same (x ∷ xs) = ap (λ t. t || list_any (λ (seen : Seen). seen.has_long_text) (map f xs)) (same x) ∙ ap (λ l. long x || l) (long-of f long same xs)

pub types-are : (rules : EvidenceRules) (width : ℕ) (sample : List ItemText)
    → map (λ (seen : Seen). type_seen seen.types) (with_records rules (unseen width) (filter_map record_text sample)) ≡ column_types rules width sample
types-are rules width sample =
    let given = filter_map record_text sample in
    ap (map (λ (seen : Seen). type_seen seen.types)) (records-known rules width (λ c. nothing_seen) given)
    ∙ types-of (λ c. known rules nothing_seen given c) (λ c. column_type rules.dates (null_test_in rules c) (marks_of rules.dialect) sample c) (column-type rules sample) (range_with_len 0 width)

pub long-is : (rules : EvidenceRules) (width : ℕ) (sample : List ItemText)
    → list_any (λ (seen : Seen). seen.has_long_text) (with_records rules (unseen width) (filter_map record_text sample)) ≡ have_long_text rules width sample
long-is rules width sample =
    let m = marks_of rules.dialect in
    let given = filter_map record_text sample in
    ap (list_any (λ (seen : Seen). seen.has_long_text)) (records-known rules width (λ c. nothing_seen) given)
    ∙ long-of (λ c. known rules nothing_seen given c) (λ c. has_long_text rules.dates (null_test_in rules c) m sample c)
    (λ c. long-known rules c nothing_seen (column_fields m c given)) (range_with_len 0 width)
