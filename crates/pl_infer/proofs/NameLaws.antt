-- The names of a header, one by one.
use Rattle.std.proofs.Common.{◌≡◌, ℕ, zero, suc, ◌+◌, ◌-◌, ◌<◌, Bool, true, false, cond, List, [], ◌∷◌, ◌++◌, map, length, take, get_or, Some, String, HashMap, refl, sym, ◌∙◌, ap, append_assoc, append-nil, arith, unwrap_or}
use Rattle.std.specs.Prelude.{Option, codes, decimal, count_by, if◌then◌else◌}
use Rattle.std.specs.HashMap.{get_by_text}
use Rattle.std.specs.Map.{update}
use Rattle.std.specs.Str.{bytes_eq}
use Rattle.std.specs.Cmp.Lexicographic.{bytes_decides, nat_list_eq_equiv}
use Rattle.std.proofs.lemmas.List.{length_push, take_more, length-map, length-take-le}
use Rattle.std.proofs.lemmas.List.FromFn.{map-range_with_len_more}
use Rattle.std.proofs.lemmas.List.Sums.{sum_by_push, count_by-le-length}
use Rattle.pl_frame.specs.Dialect.{Marks}
use Rattle.pl_scan.specs.Fields.{begins_quoted, fields, marked_fields}
use Rattle.pl_infer.specs.Header.{field_name, numbered_name, apart_behind, counted_names}
use Rattle.pl_infer.specs.ReadNames.{written, count_of}

written-map : (quote : Option ℕ) (fs : List (List ℕ)) → written quote (map (λ f. (f, begins_quoted quote f)) fs) ≡ map (field_name quote) fs
written-map quote [] = refl
written-map quote (f ∷ fs) = ap (λ names. field_name quote f ∷ names) (written-map quote fs)

pub written-fields : (m : Marks) (b : List ℕ) → written m.quote (marked_fields m b) ≡ map (field_name m.quote) (fields m b)
written-fields m b = written-map m.quote (fields m b)

-- one name more
pub written-more : (quote : Option ℕ) (names total : List (List ℕ)) (all : List (List ℕ × Bool)) (f : List ℕ) (t : Bool) (rest : List (List ℕ × Bool))
    → names ++ written quote all ≡ total → all ≡ (f, t) ∷ rest → (names ++ field_name quote f ∷ []) ++ written quote rest ≡ total
written-more quote names total all f t rest so_far is =
    append_assoc names (field_name quote f ∷ []) (written quote rest) ∙ ap (λ ps. names ++ written quote ps) (sym is) ∙ so_far

-- a name behind others that are the same
pub numbered_name-behind : (name : List ℕ) (n : ℕ) → (n ≡ 0 → ⊥) → numbered_name name n ≡ name ++ (codes "_duplicated_" ++ decimal (n - 1))
numbered_name-behind name zero some = absurd (some refl)
numbered_name-behind name (suc n) some = ap (λ k. name ++ (codes "_duplicated_" ++ decimal k)) (omega arith)

-- one name more behind those that are told apart
pub apart_behind-more : (before names : List (List ℕ)) (name : List ℕ)
    → apart_behind before (names ++ name ∷ []) ≡ apart_behind before names ++ numbered_name name (count_by (bytes_eq name) (before ++ names)) ∷ []
apart_behind-more before [] name = ap (λ seen. numbered_name name (count_by (bytes_eq name) seen) ∷ []) (sym (append-nil before))
apart_behind-more before (first ∷ names) name =
    ap (λ rest. numbered_name first (count_by (bytes_eq first) before) ∷ rest)
    (apart_behind-more (before ++ first ∷ []) names name
    ∙ ap (λ seen. apart_behind (before ++ first ∷ []) names ++ numbered_name name (count_by (bytes_eq name) seen) ∷ []) (append_assoc before (first ∷ []) names))

-- a field is marked once
pub length-marked_fields : (m : Marks) (b : List ℕ) → length (marked_fields m b) ≡ length (fields m b)
length-marked_fields m b = length-map (fields m b) (λ f. (f, begins_quoted m.quote f))

-- one numbered name more
pub counted_names-more : (n : ℕ) → counted_names (n + 1) ≡ counted_names n ++ (codes "column_" ++ decimal (n + 1)) ∷ []
counted_names-more n = map-range_with_len_more (λ i. codes "column_" ++ decimal i) 1 n (n + 1) (omega arith)

pub counted_names-push : (names : List (List ℕ)) (name : List ℕ) → names ≡ counted_names (length names) → name ≡ codes "column_" ++ decimal (length names + 1)
    → names ++ name ∷ [] ≡ counted_names (length (names ++ name ∷ []))
counted_names-push names name own is =
    ap (λ ns. ns ++ name ∷ []) own ∙ ap (λ x. counted_names (length names) ++ x ∷ []) is ∙ sym (counted_names-more (length names)) ∙ ap counted_names (sym (length_push names name))

-- a name comes once more, if it is this one
pub count_by-push : (other : List ℕ) (names : List (List ℕ)) (name : List ℕ) → count_by (bytes_eq other) (names ++ name ∷ []) ≡ count_by (bytes_eq other) names + (if bytes_eq other name then 1 else 0)
count_by-push other names name = sum_by_push _ names name

-- a name of a list comes less often before its place than there are places
pub count_by-few : (other : List ℕ) (names : List (List ℕ)) (i : ℕ) → i < length names → count_by (bytes_eq other) (take i names) < length names
count_by-few other names i h = omega (arith, count_by-le-length (bytes_eq other) (take i names), length-take-le i names (omega arith))

-- the name at a place stands behind those before it
pub take-name : (names : List (List ℕ)) (i : ℕ) (name : List ℕ) → i < length names → name ≡ get_or names i name → take (i + 1) names ≡ take i names ++ name ∷ []
take-name names i name h is = take_more names i name h ∙ ap (λ x. take i names ++ x ∷ []) (sym is)

-- the count of a name is set to one more
pub count_of-set : {A S : Type 0} (old new : HashMap (String A) ℕ S) (name : List ℕ)
    → ((other : List ℕ) → get_by_text new other ≡ update bytes_eq (get_by_text old) name (Some (count_of old name + 1)) other)
    → (other : List ℕ) → count_of new other ≡ count_of old other + (if bytes_eq other name then 1 else 0)
count_of-set old new name sets other = ap (λ o. unwrap_or o 0) (sets other) ∙ now (bytes_eq name other) refl
  where
    now : (b : Bool) → bytes_eq name other ≡ b → unwrap_or (cond (bytes_eq name other) (Some (count_of old name + 1)) (get_by_text old other)) 0 ≡ count_of old other + (if bytes_eq other name then 1 else 0)
    now true same = rw (nat_list_eq_equiv.symm other name, same) (ap (λ u. count_of old u + 1) ((bytes_decides name other).0 same))
    now false differs = rw (nat_list_eq_equiv.symm other name, differs) (omega arith)
