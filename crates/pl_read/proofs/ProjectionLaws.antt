-- Places that are asked.
use Rattle.std.proofs.Common.{◌≡◌, ℕ, zero, suc, ◌+◌, ◌<◌, ◌≤◌, Bool, true, false, cond, List, [], ◌∷◌, ◌++◌, append-nil, map, length, take, get_or, set, refl, sym, ◌∙◌, ap, arith, nat_eq, nat_lt, nat_le, subst}
use Rattle.std.specs.Prelude.{◌≢◌, Option, None, Some, filter, find, max, replicate, slice_index}
use Rattle.std.specs.List.{range_with_len, filter_map, fold, list_any}
use Rattle.std.specs.Option.{option_map, option_and_then}
use Rattle.std.specs.Str.{bytes_eq}
use Rattle.std.proofs.lemmas.List.{take_more}
use Rattle.std.proofs.lemmas.List.Elements.{filter-append, filter_map-append}
use Rattle.std.proofs.lemmas.List.FromFn.{length-map-range_with_len, get_or-map-range_with_len}
use Rattle.std.proofs.lemmas.List.Sums.{count_by_more_no, count_by_more_yes}
use Rattle.std.proofs.lemmas.Bool.{lt-ltb}
use Rattle.std.proofs.lemmas.Bool.Decides.{nat_tests}
use Rattle.pl_read.specs.declared.projecting.Times.{Times}
use Rattle.pl_frame.specs.declared.error.NamePlace.TheVariants as name_place
use Rattle.pl_frame.specs.declared.error.PolarsError.{PolarsError}
use Rattle.pl_frame.specs.declared.error.PolarsError.TheVariants as error
use Rattle.pl_frame.specs.Schema.{Entry}
use Rattle.pl_cells.specs.InitBuffers.{entry_at}
use Rattle.pl_options.specs.declared.read_options.CsvReadOptions.{CsvReadOptions}
use Rattle.pl_options.specs.declared.row_index.RowIndex.{RowIndex}
use Rattle.pl_rows.specs.Plan.{AreRising}
use Rattle.pl_rows.proofs.PlanLaws.{places-more, rising-below}
use Rattle.pl_read.specs.declared.projecting.Times.TheVariants as times
use Rattle.pl_read.specs.Projection.{greater, greatest, asked, doubled, doubled_name, outside, projected, has_projected, taken_name, times_asked}
use Rattle.pl_options.specs.FirstCause.{IsFault}
use Rattle.pl_read.specs.Steps.{once_more, is_asked, is_more, times_of, all_times, projection_cause}
use Rattle.pl_read.specs.Refusals.{out_of_bounds, duplicate}
use Rattle.pl_read.proofs.CauseLaws.{first_some-one, first_some-behind, first_some-here}

-- ---- how often places are asked

-- from one number on
same_from : {X : Type 0} (f g : ℕ → X) (a n : ℕ) → ((k : ℕ) → a ≤ k → f k ≡ g k) → map f (range_with_len a n) ≡ map g (range_with_len a n)
same_from f g a zero each = refl
same_from f g a (suc n) each = ap (λ x. x ∷ map f (range_with_len (a + 1) n)) (each a (omega arith)) ∙ ap (λ l. g a ∷ l) (same_from f g (a + 1) n (λ k l. each k (omega arith)))

-- two functions that differ at one number alone
set_one : {X : Type 0} (f g : ℕ → X) (a n j p : ℕ) → j < n → p ≡ a + j → ((k : ℕ) → k ≢ p → f k ≡ g k) → set (map f (range_with_len a n)) j (g p) ≡ map g (range_with_len a n)
set_one f g a zero j p l e each = absurd (omega arith)
set_one f g a (suc n) zero p l e each =
    let here : p ≡ a = omega (arith, e) in
    ap (λ x. x ∷ map f (range_with_len (a + 1) n)) (ap g here) ∙ ap (λ l. g a ∷ l) (same_from f g (a + 1) n (λ k m. each k (λ q. absurd (omega (arith, q, m, here)))))
set_one f g a (suc n) (suc j) p l e each =
    ap (λ x. x ∷ set (map f (range_with_len (a + 1) n)) j (g p)) (each a (λ q. absurd (omega (arith, q, e))))
    ∙ ap (λ l. g a ∷ l) (set_one f g (a + 1) n j p (omega arith) (omega (arith, e)) each)

-- a place that is asked once more
asked-more : (places : List ℕ) (i p : ℕ) → i < length places → p ≡ get_or places i 0 → times_asked (take (i + 1) places) p ≡ suc (times_asked (take i places) p)
asked-more places i p l is =
    let test : nat_eq p (get_or places i 0) ≡ true = grind (arith, nat_tests, is) in
    omega (arith, count_by_more_yes (nat_eq p) places i 0 l test)

-- another place
asked-other : (places : List ℕ) (i p k : ℕ) → i < length places → p ≡ get_or places i 0 → k ≢ p → times_asked (take (i + 1) places) k ≡ times_asked (take i places) k
asked-other places i p k l is other =
    let test : nat_eq k (get_or places i 0) ≡ false = grind (arith, nat_tests, is, other) in
    count_by_more_no (nat_eq k) places i 0 l test

pub all_times-more : (places : List ℕ) (width i p : ℕ) → i < length places → p ≡ get_or places i 0 → p < width
    → set (all_times (take i places) width) p (once_more (times_of (times_asked (take i places) p))) ≡ all_times (take (i + 1) places) width
all_times-more places width i p l is below =
    let now : ℕ → Times = λ k. times_of (times_asked (take (i + 1) places) k) in
    let before : ℕ → Times = λ k. times_of (times_asked (take i places) k) in
    let here : now p ≡ once_more (before p) = ap times_of (asked-more places i p l is) in
    ap (set (map before (range_with_len 0 width)) p) (sym here)
    ∙ set_one before now 0 width p p below (omega arith) (λ k other. sym (ap times_of (asked-other places i p k l is other)))

-- ---- the places that pass

-- one number more that passes
pub passing-more : (p : ℕ → Bool) (i : ℕ) → p i ≡ true → filter p (range_with_len 0 (i + 1)) ≡ filter p (range_with_len 0 i) ++ i ∷ []
passing-more p i passes = ap (filter p) (places-more i) ∙ filter-append p (range_with_len 0 i) (i ∷ []) ∙ rw passes refl

-- one that does not
pub passing-same : (p : ℕ → Bool) (i : ℕ) → p i ≡ false → filter p (range_with_len 0 (i + 1)) ≡ filter p (range_with_len 0 i)
passing-same p i fails = ap (filter p) (places-more i) ∙ filter-append p (range_with_len 0 i) (i ∷ []) ∙ rw fails (append-nil (filter p (range_with_len 0 i)))

-- where none passes, the first fails, and none of the others passes
first-fails : {X : Type 0} (p : X → Bool) (x : X) (xs : List X) (b : Bool) → p x ≡ b → filter p (x ∷ xs) ≡ [] → (p x ≡ false) × (filter p xs ≡ [])
first-fails {X = X} p x xs true e none = absurd (filled x (filter p xs) (ap (λ t. cond t (x ∷ filter p xs) (filter p xs)) (sym e) ∙ none))
  where
    filled : (y : X) (ys : List X) → ◌≡◌ {A = List X} (y ∷ ys) [] → ⊥
    filled y ys h = cc
first-fails p x xs false e none = (e, ap (λ t. cond t (x ∷ filter p xs) (filter p xs)) (sym e) ∙ none)

-- where none passes, each fails
pub none-passing : {X : Type 0} (p : X → Bool) (xs : List X) (i : ℕ) (d : X) → filter p xs ≡ [] → i < length xs → p (get_or xs i d) ≡ false
none-passing p [] i d none l = absurd (omega arith)
none-passing p (x ∷ xs) zero d none l = (first-fails p x xs (p x) refl none).0
none-passing p (x ∷ xs) (suc i) d none l = none-passing p xs i d (first-fails p x xs (p x) refl none).1 (omega arith)

-- each place that is asked is below the width, where none is outside
pub asked-below : (places : List ℕ) (width i : ℕ) → filter (nat_le width) places ≡ [] → i < length places → get_or places i 0 < width
asked-below places width i none l = let test = none-passing (nat_le width) places i 0 none l in grind (arith, nat_tests, test)

pub length-all_times : (places : List ℕ) (width : ℕ) → length (all_times places width) ≡ width
length-all_times places width = length-map-range_with_len (λ place. times_of (times_asked places place)) 0 width

never : (a n : ℕ) → replicate n times.Never ≡ map (λ (place : ℕ). times_of (times_asked [] place)) (range_with_len a n)
never a zero = refl
never a (suc n) = ap (λ l. times.Never ∷ l) (never (a + 1) n)

-- no place is asked
pub all_times-none : (width : ℕ) → replicate width times.Never ≡ all_times [] width
all_times-none width = never 0 width

-- how often a place is asked
pub time-at : (places : List ℕ) (width p : ℕ) (d : Times) → p < width → get_or (all_times places width) p d ≡ times_of (times_asked places p)
time-at places width p d l = get_or-map-range_with_len (λ place. times_of (times_asked places place)) 0 width p p d l (omega arith)

-- ---- the places of names

-- one name more that has a place
pub found-more : {X Y : Type 0} (f : X → Option Y) (xs : List X) (i : ℕ) (d : X) (y : Y) → i < length xs → f (get_or xs i d) ≡ Some y
    → filter_map f (take (i + 1) xs) ≡ filter_map f (take i xs) ++ y ∷ []
found-more f xs i d y l some = ap (filter_map f) (take_more xs i d l) ∙ filter_map-append f (take i xs) (get_or xs i d ∷ []) ∙ rw some refl

-- ---- how often a place is asked, at each place

asked_is : (n : ℕ) → is_asked (times_of n) ≡ nat_lt 0 n
asked_is zero = refl
asked_is (suc n) = by (times_of n) ∙ sym (lt-ltb 0 (suc n) (omega arith))
  where
    by : (t : Times) → is_asked (once_more t) ≡ true
    by times.Never = refl
    by times.Once = refl
    by times.More = refl

more_is : (n : ℕ) → is_more (times_of n) ≡ nat_lt 1 n
more_is zero = refl
more_is (suc zero) = refl
more_is (suc (suc n)) = by (times_of n) ∙ sym (lt-ltb 1 (suc (suc n)) (omega arith))
  where
    by : (t : Times) → is_more (once_more (once_more t)) ≡ true
    by times.Never = refl
    by times.Once = refl
    by times.More = refl

filter-same : (p q : ℕ → Bool) (a n : ℕ) → ((k : ℕ) → k < a + n → p k ≡ q k) → filter p (range_with_len a n) ≡ filter q (range_with_len a n)
filter-same p q a zero each = refl
filter-same p q a (suc n) each =
    ap (λ t. cond t (a ∷ filter p (range_with_len (a + 1) n)) (filter p (range_with_len (a + 1) n))) (each a (omega arith))
    ∙ ap (λ l. cond (q a) (a ∷ l) l) (filter-same p q (a + 1) n (λ k l. each k (omega arith)))

find-same : (p q : ℕ → Bool) (a n : ℕ) → ((k : ℕ) → k < a + n → p k ≡ q k) → find p (range_with_len a n) ≡ find q (range_with_len a n)
find-same p q a zero each = refl
find-same p q a (suc n) each =
    ap (λ t. cond t (Some a) (find p (range_with_len (a + 1) n))) (each a (omega arith)) ∙ ap (cond (q a) (Some a)) (find-same p q (a + 1) n (λ k l. each k (omega arith)))

-- the places whose times say that they are asked
pub asked-places : (places : List ℕ) (width : ℕ) → filter (λ place. is_asked (get_or (all_times places width) place times.Never)) (range_with_len 0 width)
    ≡ filter (λ place. nat_lt 0 (times_asked places place)) (range_with_len 0 width)
asked-places places width = filter-same (λ place. is_asked (get_or (all_times places width) place times.Never)) (λ place. nat_lt 0 (times_asked places place)) 0 width
    (λ k l. ap is_asked (time-at places width k times.Never (omega arith)) ∙ asked_is (times_asked places k))

-- the first place whose times say that it is asked more than once
pub doubled-place : (places : List ℕ) (width : ℕ) → find (λ place. is_more (get_or (all_times places width) place times.Never)) (range_with_len 0 width) ≡ doubled places width
doubled-place places width = find-same (λ place. is_more (get_or (all_times places width) place times.Never)) (λ place. nat_lt 1 (times_asked places place)) 0 width
    (λ k l. ap is_more (time-at places width k times.Never (omega arith)) ∙ more_is (times_asked places k))

-- what is found is among the numbers
pub found-below : (p : ℕ → Bool) (a n i : ℕ) → find p (range_with_len a n) ≡ Some i → i < a + n
found-below p a zero i e = absurd (none_some i e)
  where
    none_some : (x : ℕ) → ◌≡◌ {A = Option ℕ} None (Some x) → ⊥
    none_some x h = cc
found-below p a (suc n) i e = by (p a) refl (found-below p (a + 1) n i)
  where
    by : (b : Bool) → p a ≡ b → (find p (range_with_len (a + 1) n) ≡ Some i → i < a + 1 + n) → i < a + suc n
    by true e' deeper = let here : ◌≡◌ {A = Option ℕ} (Some a) (Some i) = sym (ap (λ t. cond t (Some a) (find p (range_with_len (a + 1) n))) e') ∙ e in let same : a ≡ i = cc in omega (arith, same)
    by false e' deeper = let there : find p (range_with_len (a + 1) n) ≡ Some i = sym (ap (λ t. cond t (Some a) (find p (range_with_len (a + 1) n))) e') ∙ e in omega (arith, deeper there)

-- ---- the greatest place outside

-- there is a greatest of some numbers
greatest-some : (m : ℕ) (xs : List ℕ) → fold greater (Some m) xs ≡ None → ⊥
greatest-some m [] e = cc
greatest-some m (x ∷ xs) e = greatest-some (max m x) xs e

-- where there is no greatest, there is none
pub greatest-none : (xs : List ℕ) → greatest xs ≡ None → xs ≡ []
greatest-none [] e = refl
greatest-none (x ∷ xs) e = absurd (greatest-some x xs e)

-- ---- the causes against a projection

pub outside-is : (o : CsvReadOptions) (schema : List Entry) (places : List ℕ) (width : ℕ) → places ≡ asked o schema → width ≡ length schema
    → greatest (filter (nat_le width) places) ≡ outside o schema
outside-is o schema places width is same = ap (λ p. greatest (filter (nat_le width) p)) is ∙ ap (λ w. greatest (filter (nat_le w) (asked o schema))) same

-- what the times of all places say
pub doubled-is : (o : CsvReadOptions) (schema : List Entry) (places : List ℕ) (width : ℕ) (given : List Times) → places ≡ asked o schema → width ≡ length schema → given ≡ all_times places width
    → find (λ place. is_more (get_or given place times.Never)) (range_with_len 0 (length given)) ≡ doubled (asked o schema) (length schema)
doubled-is o schema places width given is same times_are =
    ap (λ t. find (λ place. is_more (get_or t place times.Never)) (range_with_len 0 (length t))) times_are
    ∙ ap (λ n. find (λ place. is_more (get_or (all_times places width) place times.Never)) (range_with_len 0 n)) (length-all_times places width)
    ∙ doubled-place places width ∙ ap (λ p. doubled p width) is ∙ ap (doubled (asked o schema)) same

pub projected-is : (o : CsvReadOptions) (schema : List Entry) (places : List ℕ) (width : ℕ) (given : List Times) → places ≡ asked o schema → width ≡ length schema → given ≡ all_times places width
    → filter (λ place. is_asked (get_or given place times.Never)) (range_with_len 0 (length given)) ≡ projected o schema
projected-is o schema places width given is same times_are =
    ap (λ t. filter (λ place. is_asked (get_or t place times.Never)) (range_with_len 0 (length t))) times_are
    ∙ ap (λ n. filter (λ place. is_asked (get_or (all_times places width) place times.Never)) (range_with_len 0 n)) (length-all_times places width)
    ∙ asked-places places width
    ∙ ap (λ p. filter (λ place. nat_lt 0 (times_asked p place)) (range_with_len 0 width)) is
    ∙ ap (λ n. filter (λ place. nat_lt 0 (times_asked (asked o schema) place)) (range_with_len 0 n)) same

abbrev twice : List ℕ → PolarsError
twice name = error.Duplicate name name_place.Projection

-- none outside
within : (o : CsvReadOptions) (schema : List Entry) → outside o schema ≡ None → projection_cause o schema ≡ duplicate o schema
within o schema none =
    first_some-behind (out_of_bounds o schema) (duplicate o schema ∷ []) (ap (option_map (λ p. error.OutOfBounds p (length schema))) none) ∙ first_some-one (duplicate o schema)

-- a place that is asked more than once
pub projection-doubled : (o : CsvReadOptions) (schema : List Entry) (place : ℕ) (fault : PolarsError) → outside o schema ≡ None → doubled (asked o schema) (length schema) ≡ Some place
    → IsFault (Some (twice (entry_at schema place).0)) fault → IsFault (projection_cause o schema) fault
projection-doubled o schema place fault none some is =
    let named : doubled_name o schema ≡ Some (entry_at schema place).0 = ap (option_map (λ p. (entry_at schema p).0)) some in
    let cause : projection_cause o schema ≡ Some (twice (entry_at schema place).0) =
    within o schema none ∙ ap (option_map twice) (first_some-here (doubled_name o schema) (taken_name o schema ∷ []) (entry_at schema place).0 named) in
    subst (λ c. IsFault c fault) (sym cause) is

-- none that is
once : (o : CsvReadOptions) (schema : List Entry) → outside o schema ≡ None → doubled (asked o schema) (length schema) ≡ None → projection_cause o schema ≡ option_map twice (taken_name o schema)
once o schema none single =
    let unnamed : doubled_name o schema ≡ None = ap (option_map (λ p. (entry_at schema p).0)) single in
    within o schema none ∙ ap (option_map twice) (first_some-behind (doubled_name o schema) (taken_name o schema ∷ []) unnamed ∙ first_some-one (taken_name o schema))

-- the name of the row index
pub projection-taken : (o : CsvReadOptions) (schema : List Entry) (fault : PolarsError) → outside o schema ≡ None → doubled (asked o schema) (length schema) ≡ None
    → IsFault (option_map (λ name. error.Duplicate name name_place.Projection) (taken_name o schema)) fault → IsFault (projection_cause o schema) fault
projection-taken o schema fault none single is = subst (λ c. IsFault c fault) (sym (once o schema none single)) is

pub projection-sound : (o : CsvReadOptions) (schema : List Entry) → outside o schema ≡ None → doubled (asked o schema) (length schema) ≡ None → taken_name o schema ≡ None → projection_cause o schema ≡ None
projection-sound o schema none single free = once o schema none single ∙ ap (option_map twice) free

-- places that rise from a number on rise from a lower one on
rising-lower : (width : ℕ) (places : List ℕ) (from lower : ℕ) → lower ≤ from → AreRising from width places → AreRising lower width places
rising-lower width [] from lower l rise = tt
rising-lower width (place ∷ places) from lower l rise = (omega (arith, l, rise.0), rise.1, rise.2)

-- the places that pass rise
pub passing-rises : (p : ℕ → Bool) (a n width : ℕ) → a + n ≤ width → AreRising a width (filter p (range_with_len a n))
passing-rises p a zero width l = tt
passing-rises p a (suc n) width l = by (p a) refl (passing-rises p (a + 1) n width (omega arith))
  where
    by : (b : Bool) → p a ≡ b → AreRising (a + 1) width (filter p (range_with_len (a + 1) n)) → AreRising a width (filter p (range_with_len a (suc n)))
    by true e rest = subst (λ t. AreRising a width (cond t (a ∷ filter p (range_with_len (a + 1) n)) (filter p (range_with_len (a + 1) n)))) (sym e) (omega arith, omega arith, rest)
    by false e rest = subst (λ t. AreRising a width (cond t (a ∷ filter p (range_with_len (a + 1) n)) (filter p (range_with_len (a + 1) n)))) (sym e)
        (rising-lower width (filter p (range_with_len (a + 1) n)) (a + 1) a (omega arith) rest)

-- the places that are read rise
pub projected-rises : (o : CsvReadOptions) (schema : List Entry) → AreRising 0 (length schema) (projected o schema)
projected-rises o schema = passing-rises (λ place. nat_lt 0 (times_asked (asked o schema) place)) 0 (length schema) (length schema) (omega arith)

-- and each is one of the schema's
pub projected-below : (o : CsvReadOptions) (schema : List Entry) (places : List ℕ) → places ≡ projected o schema → (k : ℕ) → k < length places → slice_index places k < length schema
projected-below o schema places is = rising-below 0 (length schema) places (subst (AreRising 0 (length schema)) (sym is) (projected-rises o schema))

-- ---- the name of the row index

pub taken : (o : CsvReadOptions) (schema : List Entry) (index : RowIndex) (places : List ℕ) (b : Bool) → o.row_index ≡ Some index → places ≡ projected o schema
    → list_any (λ place. bytes_eq index.name (entry_at schema place).0) places ≡ b → taken_name o schema ≡ cond b (Some index.name) None
taken o schema index places b is same any =
    let found : has_projected o schema index.name ≡ b = ap (list_any (λ place. bytes_eq index.name (entry_at schema place).0)) (sym same) ∙ any in
    ap (option_and_then (λ (i : RowIndex). cond (has_projected o schema i.name) (Some i.name) None)) is ∙ ap (λ t. cond t (Some index.name) None) found
