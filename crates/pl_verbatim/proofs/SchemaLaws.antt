-- The columns of a schema, each with its kind, and their places.
use Rattle.std.proofs.Common.{◌≡◌, ℕ, zero, suc, ◌+◌, ◌-◌, ◌<◌, Bool, true, false, not, ◌==◌, if◌then◌else◌, List, [], ◌∷◌, ◌++◌, length, map, drop, get_or, None, Some, refl, sym, ◌∙◌, ap, ap₂, subst, arith, append_assoc, add-one, length-drop}
use Rattle.std.specs.Prelude.{slice_get, slice_index}
use Rattle.std.specs.List.{All, range_with_len}
use Rattle.std.proofs.Math.Seq.{drop-cons}
use Rattle.std.proofs.lemmas.Bool.Decides.{nat_tests}
use Rattle.pl_frame.specs.declared.data_type.DataType.TheVariants as dtype
use Rattle.pl_frame.specs.Schema.{Entry}
use Rattle.pl_frame.specs.Types.{is_readable}
use Rattle.pl_cells.specs.InitBuffers.{entry_at, first_unreadable}
use Rattle.pl_verbatim.specs.declared.kinds.Kind.{Kind}
use Rattle.pl_verbatim.specs.Kinds.{AreKindsOf, IsKindOf, is_passed, is_sound_kind, read_columns}
use Rattle.pl_verbatim.proofs.KindLaws.{not-passed}

-- places that are each their own index
places-from : (a : ℕ) (places : List ℕ) → ((k : ℕ) → k < length places → slice_index places k ≡ a + k) → places ≡ range_with_len a (length places)
places-from a [] all = refl
places-from a (place ∷ places) all =
    let here : place ≡ a = all 0 (omega arith) ∙ (let same : a + 0 ≡ a = omega arith in same) in
    (λ j. here j ∷ places-from (a + 1) places (λ k below. all (suc k) (omega (arith, below)) ∙ (let same : a + suc k ≡ a + 1 + k = omega arith in same)) j)

pub places-all : (places : List ℕ) (n : ℕ) → length places ≡ n → ((k : ℕ) → k < length places → slice_index places k ≡ k) → places ≡ range_with_len 0 n
places-all places n long all = places-from 0 places (λ k below. all k below ∙ (let same : k ≡ 0 + k = omega arith in same)) ∙ ap (range_with_len 0) long

-- ---- columns that are read

-- all, where these are all places
pub read-all : (a : ℕ) (schema : List Entry) → read_columns a schema (range_with_len a (length schema)) ≡ map Some schema
read-all a [] = refl
read-all a (entry ∷ schema) =
    let here : (a == a) ≡ true = grind (arith, nat_tests) in
    ap (λ t. if t then Some entry ∷ read_columns (a + 1) schema (range_with_len (a + 1) (length schema)) else None ∷ read_columns (a + 1) schema (a ∷ range_with_len (a + 1) (length schema))) here
    ∙ ap (λ l. Some entry ∷ l) (read-all (a + 1) schema)

-- there is one for each column
pub count-columns : (a : ℕ) (schema : List Entry) (places : List ℕ) → length (read_columns a schema places) ≡ length schema
count-columns a [] places = refl
count-columns a (entry ∷ schema) [] = omega (arith, count-columns (a + 1) schema [])
count-columns a (entry ∷ schema) (place ∷ places) = by (place == a) (count-columns (a + 1) schema places) (count-columns (a + 1) schema (place ∷ places))
  where
    by : (t : Bool) → length (read_columns (a + 1) schema places) ≡ length schema → length (read_columns (a + 1) schema (place ∷ places)) ≡ length schema
        → length (if t then Some entry ∷ read_columns (a + 1) schema places else None ∷ read_columns (a + 1) schema (place ∷ places)) ≡ suc (length schema)
    by true read passed = omega (arith, read)
    by false read passed = omega (arith, passed)

-- ---- their kinds

-- kinds of the first columns, of which so many are read: with kinds of those behind them, they are the kinds of all
abbrev pub AreKindsBefore : List Entry → List ℕ → ℕ → ℕ → List Kind → Type 0
AreKindsBefore schema places index next kinds =
    (others : List Kind) → AreKindsOf (read_columns index (drop index schema) (drop next places)) others → AreKindsOf (read_columns 0 schema places) (kinds ++ others)

-- what is left of a schema
entries-from : (schema : List Entry) (index : ℕ) (entry : Entry) → slice_get schema index ≡ Some entry → drop index schema ≡ entry ∷ drop (index + 1) schema
entries-from [] index entry is = absurd (cc)
entries-from (first ∷ schema) zero entry is = let same : first ≡ entry = cc in ap (λ e. e ∷ schema) same
entries-from (first ∷ schema) (suc index) entry is =
    entries-from schema index entry is ∙ ap (λ n. entry ∷ drop n (first ∷ schema)) (let same : suc (index + 1) ≡ suc index + 1 = omega arith in same)

-- one column more, which is read
pub kinds-read : (schema : List Entry) (places : List ℕ) (index next : ℕ) (entry : Entry) (kinds : List Kind) (own : Kind) → AreKindsBefore schema places index next kinds → slice_get schema index ≡ Some entry
    → next < length places → slice_index places next ≡ index → IsKindOf entry.1 own → AreKindsBefore schema places (index + 1) (next + 1) (kinds ++ own ∷ [])
kinds-read schema places index next entry kinds own before is room here holds others are =
    let read : (slice_index places next == index) ≡ true = grind (arith, nat_tests, here) in
    let behind = drop (index + 1) schema in
    let left = drop (next + 1) places in
    let columns : read_columns index (drop index schema) (drop next places) ≡ Some entry ∷ read_columns (index + 1) behind left =
    ap₂ (read_columns index) (entries-from schema index entry is) (drop-cons places next 0 room ∙ ap (λ n. slice_index places next ∷ drop n places) (sym (add-one next)))
    ∙ ap (λ t. if t then Some entry ∷ read_columns (index + 1) behind left else None ∷ read_columns (index + 1) behind (slice_index places next ∷ left)) read in
    subst (AreKindsOf (read_columns 0 schema places)) (sym (append_assoc kinds (own ∷ []) others)) (before (own ∷ others) (subst (λ cs. AreKindsOf cs (own ∷ others)) (sym columns) (holds, are)))

-- and one that is not
pub kinds-passed : (schema : List Entry) (places : List ℕ) (index next : ℕ) (kinds : List Kind) (own : Kind) → AreKindsBefore schema places index next kinds → index < length schema
    → (next < length places → slice_index places next ≡ index → ⊥) → is_passed own ≡ true → AreKindsBefore schema places (index + 1) next (kinds ++ own ∷ [])
kinds-passed schema places index next kinds own before inside other passed others are =
    let behind = drop (index + 1) schema in
    let entry = get_or schema index ([], dtype.Null) in
    let first : drop index schema ≡ entry ∷ behind = drop-cons schema index ([], dtype.Null) inside ∙ ap (λ n. entry ∷ drop n schema) (sym (add-one index)) in
    let columns : read_columns index (drop index schema) (drop next places) ≡ None ∷ read_columns (index + 1) behind (drop next places) =
    ap (λ l. read_columns index l (drop next places)) first ∙ by entry behind (drop next places) refl in
    subst (AreKindsOf (read_columns 0 schema places)) (sym (append_assoc kinds (own ∷ []) others)) (before (own ∷ others) (subst (λ cs. AreKindsOf cs (own ∷ others)) (sym columns) (passed, are)))
  where
    by : (entry : Entry) (behind : List Entry) (left : List ℕ) → drop next places ≡ left → read_columns index (entry ∷ behind) left ≡ None ∷ read_columns (index + 1) behind left
    by entry behind [] is = refl
    by entry behind (place ∷ left) is =
        let long : length places - next ≡ suc (length left) = sym (length-drop next places) ∙ ap length is in
        let room : next < length places = omega (arith, long) in
        let next_is : slice_index places next ∷ drop (suc next) places ≡ place ∷ left = sym (drop-cons places next 0 room) ∙ is in
        let same : slice_index places next ≡ place = cc in
        let not : (place == index) ≡ false = none (place == index) (λ e. other room (same ∙ (let equal : place ≡ index = grind (arith, nat_tests, e) in equal))) in
        ap (λ t. if t then Some entry ∷ read_columns (index + 1) behind left else None ∷ read_columns (index + 1) behind (place ∷ left)) not
      where
        none : (t : Bool) → (t ≡ true → ⊥) → t ≡ false
        none true h = absurd (h refl)
        none false h = refl

-- the types of places that can be read
pub place-readable : (schema : List Entry) (places : List ℕ) (next : ℕ) → first_unreadable schema places ≡ None → next < length places → is_readable (entry_at schema (slice_index places next)).1 ≡ true
place-readable schema [] next none room = absurd (omega (arith, room))
place-readable schema (place ∷ places) next none room = by (is_readable (entry_at schema place).1) refl next none room (λ k left below. place-readable schema places k left below)
  where
    by : (t : Bool) → is_readable (entry_at schema place).1 ≡ t → (next : ℕ) → (if not t then Some place else first_unreadable schema places) ≡ None → next < suc (length places)
        → ((k : ℕ) → first_unreadable schema places ≡ None → k < length places → is_readable (entry_at schema (slice_index places k)).1 ≡ true)
        → is_readable (entry_at schema (slice_index (place ∷ places) next)).1 ≡ true
    by true is zero none room later = is
    by true is (suc next) none room later = later next none (omega (arith, room))
    by false is next none room later = absurd (cc)

-- where all columns are read, no kind is that of one that is not
pub kinds-whole : (schema : List Entry) (kinds : List Kind) → AreKindsOf (map Some schema) kinds → All (λ own. is_passed own ≡ false) kinds
kinds-whole [] [] are k d below = absurd (omega (arith, below))
kinds-whole [] (own ∷ kinds) are k d below = absurd are
kinds-whole (entry ∷ schema) [] are k d below = absurd are
kinds-whole (entry ∷ schema) (own ∷ kinds) are zero d below = none (is_passed own) refl
  where
    none : (t : Bool) → is_passed own ≡ t → t ≡ false
    none true is = absurd (not-passed own entry.1 is are.0)
    none false is = refl
kinds-whole (entry ∷ schema) (own ∷ kinds) are (suc k) d below = kinds-whole schema kinds are.1 k d (omega (arith, below))

pub reads-all : (schema : List Entry) (places : List ℕ) (kinds : List Kind) → places ≡ range_with_len 0 (length schema) → (0 < length kinds → AreKindsOf (read_columns 0 schema places) kinds)
    → All (λ own. is_passed own ≡ false) kinds
reads-all schema places [] all are k d below = absurd (omega (arith, below))
reads-all schema places (own ∷ kinds) all are k d below =
    kinds-whole schema (own ∷ kinds) (subst (λ columns. AreKindsOf columns (own ∷ kinds)) (ap (read_columns 0 schema) all ∙ read-all 0 schema) (are (omega arith))) k d below

-- one sound kind more
pub sounds-more : (kinds : List Kind) (kind : Kind) → All (λ k. is_sound_kind k ≡ true) kinds → is_sound_kind kind ≡ true → All (λ k. is_sound_kind k ≡ true) (kinds ++ kind ∷ [])
sounds-more [] kind all one zero d below = one
sounds-more [] kind all one (suc k) d below = absurd (omega (arith, below))
sounds-more (other ∷ kinds) kind all one zero d below = all 0 d (omega arith)
sounds-more (other ∷ kinds) kind all one (suc k) d below = sounds-more kinds kind (λ j e less. all (suc j) e (omega (arith, less))) one k d (omega (arith, below))
