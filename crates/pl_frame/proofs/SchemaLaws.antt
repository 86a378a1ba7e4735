-- Names that stand both in a list of fields and as the keys of a set.
use Rattle.std.proofs.Common.{◌≡◌, ℕ, ◌+◌, ◌≤◌, Bool, ◌||◌, not, cond, if◌then◌else◌, nat_lt, true, false, List, [], ◌∷◌, ◌++◌, length, map, position, slice_get, slice_set, Option, None, Some, refl, sym, ◌∙◌, ap, subst, arith}
use Rattle.std.specs.List.{prefix_len, position_or_len, list_any, IsDistinct, AllByRecursion, AllZip}
use Rattle.std.specs.Option.{option_map, option_map_or}
use Rattle.std.specs.Str.{bytes_eq}
use Rattle.indexmap.specs.IndexSet.{insert_key}
use borrow.Author.Tests.{ltb-false}
use Rattle.std.proofs.Math.Seq.{map-set_same}
use Rattle.std.proofs.lemmas.List.{length-map, map-append, map-set}
use Rattle.std.proofs.lemmas.List.Quantifiers.{position-Some}
use Rattle.std.proofs.lemmas.Option.{slice_get-map, slice_get-get_or, get_or_from_slice_get, none-some}
use Rattle.std.proofs.lemmas.Map.Made.{AllPairs-from_IsDistinct}
use Rattle.std.proofs.lemmas.Slice.Eq.{bytes_eq-Decides}
use Rattle.pl_frame.specs.declared.data_type.DataType.{DataType}
use Rattle.pl_frame.specs.Schema.{Entry, names_in, place_of, type_at, with_type, with_type_at, HaveDistinctNames}

module _ {A B : Type 0} (f : A → B) (p : B → Bool) where
  prefix_len-map : (xs : List A) → prefix_len p (map f xs) ≡ prefix_len (λ x. p (f x)) xs
  prefix_len-map [] = refl
  prefix_len-map (x ∷ xs) = ap (λ n. cond (p (f x)) (1 + n) 0) (prefix_len-map xs)

-- the place of what f makes
pub position-map : {A B : Type 0} (f : A → B) (p : B → Bool) (xs : List A) → position p (map f xs) ≡ position (λ x. p (f x)) xs
position-map f p xs = λ j.
    let n = prefix_len-map f (λ x. not (p x)) xs j in
    cond (nat_lt n (length-map xs f j)) (Some n) None

module _ {X : Type 0} (p : X → Bool) where
  none_before_end : (xs : List X) → length xs ≤ position_or_len p xs → list_any p xs ≡ false
  none_before_end [] h = refl
  none_before_end (x ∷ xs) h = by (p x) refl (none_before_end xs)
    where
      reaches : (b : Bool) → p x ≡ b → length (x ∷ xs) ≤ cond (not b) (1 + position_or_len p xs) 0
      reaches b e = subst (λ (t : Bool). length (x ∷ xs) ≤ cond (not t) (1 + position_or_len p xs) 0) e h

      by : (b : Bool) → p x ≡ b → (length xs ≤ position_or_len p xs → list_any p xs ≡ false) → list_any p (x ∷ xs) ≡ false
      by true e deeper = let far = reaches true e in absurd (omega arith)
      by false e deeper = let far = reaches false e in ap (λ b. b || list_any p xs) e ∙ deeper (omega arith)

  -- what has no place is not there
  pub none_passes : (xs : List X) → position p xs ≡ None → list_any p xs ≡ false
  none_passes xs h = by (nat_lt (position_or_len p xs) (length xs)) refl
    where
      by : (b : Bool) → nat_lt (position_or_len p xs) (length xs) ≡ b → list_any p xs ≡ false
      by true e = absurd (none-some (position_or_len p xs) (sym h ∙ ap (λ b. cond b (Some (position_or_len p xs)) None) e))
      by false e = none_before_end xs (ltb-false _ _ e)

-- how a field is seen
abbrev entry_by : {F : Type 0} → (F → List ℕ) → (F → DataType) → F → Entry
entry_by name type f = (name f, type f)

module _ {K : Type 0} (bytes : K → List ℕ) where
  all_texts : (k : K) (ks : List K) → AllByRecursion (λ y. bytes_eq (bytes k) (bytes y) ≡ false) ks → AllByRecursion (λ y. bytes_eq (bytes k) y ≡ false) (map bytes ks)
  all_texts k [] h = tt
  all_texts k (y ∷ ys) h = (h.0, all_texts k ys h.1)

  distinct_texts : (ks : List K) → IsDistinct (λ a b. bytes_eq (bytes a) (bytes b)) ks → IsDistinct bytes_eq (map bytes ks)
  unfolding IsDistinct
  distinct_texts [] h = tt
  distinct_texts (k ∷ ks) h = (all_texts k ks h.0, distinct_texts ks h.1)

-- the names of the entries that fields are seen as
pub names_in-shown : {F : Type 0} (name : F → List ℕ) (type : F → DataType) (fs : List F) → names_in (map (entry_by name type) fs) ≡ map name fs
names_in-shown name type [] = refl
names_in-shown name type (f ∷ fs) = ap (λ l. name f ∷ l) (names_in-shown name type fs)

module _ {K F : Type 0} (bytes : K → List ℕ) (name : F → List ℕ) (type : F → DataType) (ks : List K) (fs : List F) (entries : List Entry)
    (same : map bytes ks ≡ map name fs) (shown : map (entry_by name type) fs ≡ entries) where
  pub keys_are_names : map bytes ks ≡ names_in entries
  keys_are_names = same ∙ sym (names_in-shown name type fs) ∙ ap names_in shown

  pub keys_place : (n : List ℕ) → position (λ k. bytes_eq n (bytes k)) ks ≡ place_of n entries
  keys_place n = sym (position-map bytes (bytes_eq n) ks) ∙ ap (position (bytes_eq n)) keys_are_names

  -- where no field has the name, no key is equal to it
  pub key_is_new : (n : List ℕ) (k : K) → bytes k ≡ n → place_of n entries ≡ None → list_any (λ y. bytes_eq (bytes k) (bytes y)) ks ≡ false
  key_is_new n k is none = none_passes (λ y. bytes_eq (bytes k) (bytes y)) ks (ap (λ b. position (λ y. bytes_eq b (bytes y)) ks) is ∙ keys_place n ∙ none)

  -- a new name goes last among both
  pub keys_pushed : (k : K) (f : F) (keys : List K) (fields : List F) → bytes k ≡ name f → place_of (name f) entries ≡ None
      → keys ≡ insert_key (λ a b. bytes_eq (bytes a) (bytes b)) ks k → fields ≡ fs ++ f ∷ [] → map bytes keys ≡ map name fields
  keys_pushed k f keys fields is none inserted pushed =
      ap (map bytes) (inserted ∙ ap (λ b. if b then ks else ks ++ k ∷ []) (key_is_new (name f) k is none))
      ∙ map-append bytes ks (k ∷ []) ∙ (λ j. same j ++ is j ∷ []) ∙ sym (map-append name fs (f ∷ [])) ∙ ap (map name) (sym pushed)

  pub keys_distinct : IsDistinct (λ a b. bytes_eq (bytes a) (bytes b)) ks → HaveDistinctNames entries
  keys_distinct d = AllPairs-from_IsDistinct bytes_eq-Decides (names_in entries) (subst (IsDistinct bytes_eq) keys_are_names (distinct_texts bytes ks d))

module _ {F : Type 0} (name : F → List ℕ) (type : F → DataType) (fs : List F) (i : ℕ) (f : F) (at : slice_get fs i ≡ Some f) where
  -- a field that takes the place of one with its name
  pub names_kept : (g : F) → name g ≡ name f → map name (slice_set fs i g) ≡ map name fs
  names_kept g same = map-set_same name fs i g f (same ∙ ap name (sym (get_or_from_slice_get fs i f f at)))

  shown_at : slice_get (map (entry_by name type) fs) i ≡ Some (entry_by name type f)
  shown_at = slice_get-map (entry_by name type) fs i ∙ ap (option_map (λ f. (name f, type f))) at

  pub type_at-shown : type_at (map (entry_by name type) fs) i ≡ Some (type f)
  type_at-shown = ap (option_map (λ entry. entry.1)) shown_at

  pub with_type_at-shown : (g : F) (t : DataType) → name g ≡ name f → type g ≡ t
      → map (entry_by name type) (slice_set fs i g) ≡ with_type_at (map (entry_by name type) fs) i t
  with_type_at-shown g t same is =
      let entries = map (entry_by name type) fs in
      map-set (entry_by name type) fs i g ∙ (λ j. slice_set entries i (same j, is j))
      ∙ sym (ap (λ o. option_map_or (λ entry. slice_set entries i (entry.0, t)) o entries) shown_at)

-- the name at its place
pub name_at-place_of : (entries : List Entry) (n : List ℕ) (i : ℕ) → place_of n entries ≡ Some i → option_map (λ entry. entry.0) (slice_get entries i) ≡ Some n
name_at-place_of entries n i at =
    let found = position-Some (bytes_eq n) (names_in entries) i [] at in
    sym (slice_get-map (λ entry. entry.0) entries i) ∙ slice_get-get_or (names_in entries) i [] found.0 ∙ ap Some (sym ((bytes_eq-Decides _ _).0 found.1))

-- at the place of a name, the type under the name is the type at the place
pub with_type-at : (entries : List Entry) (n : List ℕ) (i : ℕ) (t : DataType) → place_of n entries ≡ Some i → with_type_at entries i t ≡ with_type entries n t
with_type-at entries n i t at = by (slice_get entries i) refl
  where
    by : (o : Option Entry) → slice_get entries i ≡ o → with_type_at entries i t ≡ with_type entries n t
    by None e = absurd (none-some n (sym (ap (option_map (λ entry. entry.0)) e) ∙ name_at-place_of entries n i at))
    by (Some entry) e =
        let same : entry.0 ≡ n = cc (name_at-place_of entries n i at, ap (option_map (λ (x : Entry). x.0)) e) in
        ap (λ o. option_map_or (λ x. slice_set entries i (x.0, t)) o entries) e ∙ ap (λ m. slice_set entries i (m, t)) same
        ∙ sym (ap (λ o. option_map_or (λ k. slice_set entries k (n, t)) o (entries ++ (n, t) ∷ [])) at)

-- a new name goes last
pub with_type-new : (entries : List Entry) (n : List ℕ) (t : DataType) → place_of n entries ≡ None → with_type entries n t ≡ entries ++ (n, t) ∷ []
with_type-new entries n t none = ap (λ o. option_map_or (λ i. slice_set entries i (n, t)) o (entries ++ (n, t) ∷ [])) none

-- the keys of a set and of its clone
pub keys_cloned : {K : Type 0} (bytes : K → List ℕ) (xs ys : List K) → AllZip (λ x y. bytes y ≡ bytes x) xs ys → map bytes ys ≡ map bytes xs
keys_cloned bytes [] [] h = refl
keys_cloned bytes [] (y ∷ ys) h = absurd h
keys_cloned bytes (x ∷ xs) [] h = absurd h
keys_cloned bytes (x ∷ xs) (y ∷ ys) h = λ j. h.0 j ∷ keys_cloned bytes xs ys h.1 j
