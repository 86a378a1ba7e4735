-- Laws of codes beside a dictionary.
use Rattle.std.proofs.Common.{◌≡◌, ℕ, suc, zero, ◌+◌, ◌<◌, Bool, true, false, if◌then◌else◌, List, [], ◌∷◌, ◌++◌, length, map, position, get_or, slice_get, Option, None, Some, is_some, is_none, is_err, Result, Ok, Err, OnOk, OnErr, option_to_list, IsUtf8, refl, sym, ◌∙◌, ap, subst, arith, unwrap_or}
use Rattle.std.specs.List.{AllByRecursion, list_any}
use Rattle.std.specs.Option.{option_map}
use Rattle.std.specs.Str.{bytes_eq}
use Rattle.indexmap.specs.IndexSet.{insert_key}
use Rattle.std.proofs.lemmas.List.{length-append, map-append}
use Rattle.std.proofs.lemmas.List.Folds.{list_any_at}
use Rattle.std.proofs.lemmas.List.Quantifiers.{position-Some}
use Rattle.std.proofs.lemmas.List.Sums.{fold-append}
use Rattle.std.proofs.lemmas.Option.{slice_get-map, slice_get-get_or}
use Rattle.std.proofs.lemmas.Slice.Eq.{bytes_eq-Decides}
use Rattle.pl_frame.specs.Categories.{with_text, dictionary_of, code_of, decoded, AreCodes, HaveDictionary}
use Rattle.pl_frame.specs.Optional.{AreAllUtf8}
use Rattle.pl_frame.proofs.ColumnLaws.{position-found}
use Rattle.pl_frame.proofs.OptionalLaws.{AllUtf8-push, AllUtf8-at}
use Rattle.pl_frame.proofs.SchemaLaws.{none_passes, position-map}

-- the text for which a code stands
abbrev pub text_for : List (List ℕ) → Option ℕ → Option (List ℕ)
text_for d c = option_map (λ code. get_or d code []) c

pub dictionary-push : (values : List (Option (List ℕ))) (v : Option (List ℕ)) → dictionary_of (values ++ v ∷ []) ≡ with_text (dictionary_of values) v
dictionary-push values v = fold-append with_text [] values (v ∷ [])

pub decoded-push : (d : List (List ℕ)) (cs : List (Option ℕ)) (c : Option ℕ) → decoded d (cs ++ c ∷ []) ≡ decoded d cs ++ text_for d c ∷ []
decoded-push d cs c = map-append (text_for d) cs (c ∷ [])

-- a text that has a place is there, and one that has none is not
pub known : (d : List (List ℕ)) (t : List ℕ) (k : ℕ) → position (bytes_eq t) d ≡ Some k → list_any (bytes_eq t) d ≡ true
known d t k at = let found = position-Some (bytes_eq t) d k [] at in list_any_at (bytes_eq t) d k [] found.0 found.1

pub text_at_place : (d : List (List ℕ)) (t : List ℕ) (k : ℕ) → position (bytes_eq t) d ≡ Some k → t ≡ get_or d k []
text_at_place d t k at = (bytes_eq-Decides _ _).0 (position-Some (bytes_eq t) d k [] at).1

pub codes-push : (d : List (List ℕ)) (cs : List (Option ℕ)) (c : Option ℕ) → AreCodes d cs → code_of d (text_for d c) ≡ c → AreCodes d (cs ++ c ∷ [])
codes-push d cs c are same =
    ap (map (code_of d)) (decoded-push d cs c) ∙ map-append (code_of d) (decoded d cs) (text_for d c ∷ []) ∙ (λ j. are j ++ same j ∷ [])

-- one value more, whose text the dictionary has
pub decoded-known : (d : List (List ℕ)) (cs : List (Option ℕ)) (t : List ℕ) (k : ℕ) → position (bytes_eq t) d ≡ Some k → decoded d (cs ++ Some k ∷ []) ≡ decoded d cs ++ Some t ∷ []
decoded-known d cs t k at = decoded-push d cs (Some k) ∙ ap (λ x. decoded d cs ++ Some x ∷ []) (sym (text_at_place d t k at))

pub dictionary-known : (d : List (List ℕ)) (cs : List (Option ℕ)) (t : List ℕ) (k : ℕ) → HaveDictionary d cs → position (bytes_eq t) d ≡ Some k → HaveDictionary d (cs ++ Some k ∷ [])
dictionary-known d cs t k h at = record {
  codes_are = codes-push d cs (Some k) h.codes_are (ap (λ x. position (bytes_eq x) d) (sym (text_at_place d t k at)) ∙ at);
  whole = ap dictionary_of (decoded-known d cs t k at) ∙ dictionary-push (decoded d cs) (Some t) ∙ ap (λ x. with_text x (Some t)) h.whole
      ∙ ap (λ b. if b then d else d ++ t ∷ []) (known d t k at);
  utf8 = h.utf8;
}

-- the place of a text put behind others
pub decoded-value : (d : List (List ℕ)) (cs new : List (Option ℕ)) (v : Option (List ℕ)) (t : List ℕ) (k : ℕ) → v ≡ Some t → position (bytes_eq t) d ≡ Some k → new ≡ cs ++ Some k ∷ [] →
    decoded d new ≡ decoded d cs ++ v ∷ []
decoded-value d cs new v t k is at e = ap (decoded d) e ∙ decoded-known d cs t k at ∙ ap (λ x. decoded d cs ++ x ∷ []) (sym is)

pub codes-value : (d : List (List ℕ)) (cs new : List (Option ℕ)) (t : List ℕ) (k : ℕ) → AreCodes d cs → position (bytes_eq t) d ≡ Some k → new ≡ cs ++ Some k ∷ [] → AreCodes d new
codes-value d cs new t k are at e =
    subst (AreCodes d) (sym e) (codes-push d cs (Some k) are (ap (λ x. position (bytes_eq x) d) (sym (text_at_place d t k at)) ∙ at))

-- a null more
pub decoded-null : (d : List (List ℕ)) (cs : List (Option ℕ)) → decoded d (cs ++ None ∷ []) ≡ decoded d cs ++ None ∷ []
decoded-null d cs = decoded-push d cs None

pub dictionary-null : (d : List (List ℕ)) (cs : List (Option ℕ)) → HaveDictionary d cs → HaveDictionary d (cs ++ None ∷ [])
dictionary-null d cs h = record {
  codes_are = codes-push d cs None h.codes_are refl;
  whole = ap dictionary_of (decoded-null d cs) ∙ dictionary-push (decoded d cs) None ∙ h.whole;
  utf8 = h.utf8;
}

-- a dictionary with one text more
get_or-more : {X : Type 0} (d : List X) (x e : X) (k : ℕ) → k < length d → get_or (d ++ x ∷ []) k e ≡ get_or d k e
get_or-more [] x e k l = absurd (omega arith)
get_or-more (y ∷ ys) x e zero l = refl
get_or-more (y ∷ ys) x e (suc k) l = get_or-more ys x e k (omega arith)

get_or-last : {X : Type 0} (d : List X) (x e : X) → get_or (d ++ x ∷ []) (length d) e ≡ x
get_or-last [] x e = refl
get_or-last (y ∷ ys) x e = get_or-last ys x e

pub place-more : (d : List (List ℕ)) (x t : List ℕ) (k : ℕ) → position (bytes_eq t) d ≡ Some k → position (bytes_eq t) (d ++ x ∷ []) ≡ Some k
place-more d x t k at =
    let found = position-Some (bytes_eq t) d k [] at in
    let more : length (d ++ x ∷ []) ≡ length d + 1 = length-append d (x ∷ []) in
    position-found (bytes_eq t) (d ++ x ∷ []) k [] (let l = found.0 in omega (arith, more, l))
    (λ i h. ap (bytes_eq t) (get_or-more d x [] i (let l = found.0 in omega (arith, l, h))) ∙ found.2 i h)
    (ap (bytes_eq t) (get_or-more d x [] k found.0) ∙ found.1)

absent : (d : List (List ℕ)) (t : List ℕ) → position (bytes_eq t) d ≡ None → (i : ℕ) → i < length d → bytes_eq t (get_or d i []) ≡ false
absent d t none i l = by (bytes_eq t (get_or d i [])) refl
  where
    by : (b : Bool) → bytes_eq t (get_or d i []) ≡ b → bytes_eq t (get_or d i []) ≡ false
    by false e = e
    by true e = let seen = list_any_at (bytes_eq t) d i [] l e in let unseen = none_passes (bytes_eq t) d none in absurd (cc)

pub place-new : (d : List (List ℕ)) (t : List ℕ) → position (bytes_eq t) d ≡ None → position (bytes_eq t) (d ++ t ∷ []) ≡ Some (length d)
place-new d t none =
    let more : length (d ++ t ∷ []) ≡ length d + 1 = length-append d (t ∷ []) in
    position-found (bytes_eq t) (d ++ t ∷ []) (length d) [] (omega (arith, more))
    (λ i h. ap (bytes_eq t) (get_or-more d t [] i h) ∙ absent d t none i h)
    ((bytes_eq-Decides _ _).1 (sym (get_or-last d t [])))

head_same : {X : Type 0} (x y : X) (xs ys : List X) → x ∷ xs ≡ y ∷ ys → (x ≡ y) × (xs ≡ ys)
head_same x y xs ys e = (cc, cc)

false-true : false ≡ true → ⊥
false-true e = cc

snoc_same : {X : Type 0} (xs ys : List X) (x y : X) → xs ++ x ∷ [] ≡ ys ++ y ∷ [] → xs ≡ ys
snoc_same [] [] x y e = refl
snoc_same [] (b ∷ ys) x y e = let n : length (x ∷ []) ≡ length (b ∷ (ys ++ y ∷ [])) = ap length e in absurd (omega (arith, n, length-append ys (y ∷ [])))
snoc_same (a ∷ xs) [] x y e = let n : length (a ∷ (xs ++ x ∷ [])) ≡ length (y ∷ []) = ap length e in absurd (omega (arith, n, length-append xs (x ∷ [])))
snoc_same (a ∷ xs) (b ∷ ys) x y e = let parts = head_same _ _ _ _ e in (λ j. parts.0 j ∷ snoc_same xs ys x y parts.1 j)

within : (d : List (List ℕ)) (k : ℕ) → code_of d (text_for d (Some k)) ≡ Some k → k < length d
within d k e = (position-Some (bytes_eq (get_or d k [])) d k [] e).0

decoded-more : (d : List (List ℕ)) (x : List ℕ) (cs : List (Option ℕ)) → AreCodes d cs → decoded (d ++ x ∷ []) cs ≡ decoded d cs
decoded-more d x [] h = refl
decoded-more d x (None ∷ cs) h = ap (λ l. None ∷ l) (decoded-more d x cs (head_same _ _ _ _ h).1)
decoded-more d x (Some k ∷ cs) h =
    let parts = head_same _ _ _ _ h in
    (λ j. Some (get_or-more d x [] k (within d k parts.0) j) ∷ decoded-more d x cs parts.1 j)

codes-more : (d : List (List ℕ)) (x : List ℕ) (cs : List (Option ℕ)) → AreCodes d cs → map (code_of (d ++ x ∷ [])) (decoded d cs) ≡ cs
codes-more d x [] h = refl
codes-more d x (None ∷ cs) h = ap (λ l. None ∷ l) (codes-more d x cs (head_same _ _ _ _ h).1)
codes-more d x (Some k ∷ cs) h =
    let parts = head_same _ _ _ _ h in
    (λ j. place-more d x (get_or d k []) k parts.0 j ∷ codes-more d x cs parts.1 j)

-- one value more, whose text the dictionary has not
pub decoded-new : (d : List (List ℕ)) (cs : List (Option ℕ)) (t : List ℕ) → HaveDictionary d cs → decoded (d ++ t ∷ []) (cs ++ Some (length d) ∷ []) ≡ decoded d cs ++ Some t ∷ []
decoded-new d cs t h =
    decoded-push (d ++ t ∷ []) cs (Some (length d)) ∙ (λ j. decoded-more d t cs h.codes_are j ++ Some (get_or-last d t [] j) ∷ [])

pub dictionary-new : (d : List (List ℕ)) (cs : List (Option ℕ)) (t : List ℕ) → HaveDictionary d cs → position (bytes_eq t) d ≡ None → IsUtf8 t →
    HaveDictionary (d ++ t ∷ []) (cs ++ Some (length d) ∷ [])
dictionary-new d cs t h none u = record {
  codes_are = codes-push (d ++ t ∷ []) cs (Some (length d)) (ap (map (code_of (d ++ t ∷ []))) (decoded-more d t cs h.codes_are) ∙ codes-more d t cs h.codes_are)
      (ap (λ x. position (bytes_eq x) (d ++ t ∷ [])) (get_or-last d t []) ∙ place-new d t none);
  whole = ap dictionary_of (decoded-new d cs t h) ∙ dictionary-push (decoded d cs) (Some t) ∙ ap (λ x. with_text x (Some t)) h.whole
      ∙ ap (λ b. if b then d else d ++ t ∷ []) (none_passes (bytes_eq t) d none);
  utf8 = AllUtf8-push d t h.utf8 u;
}

-- ---- at a place

pub length-decoded : (d : List (List ℕ)) (cs : List (Option ℕ)) → length (decoded d cs) ≡ length cs
length-decoded d [] = refl
length-decoded d (c ∷ cs) = ap suc (length-decoded d cs)

pub decoded-at : (d : List (List ℕ)) (cs : List (Option ℕ)) (i : ℕ) (c : Option ℕ) → slice_get cs i ≡ Some c → slice_get (decoded d cs) i ≡ Some (text_for d c)
decoded-at d cs i c at = slice_get-map (text_for d) cs i ∙ ap (option_map (text_for d)) at

pub some_same : {X : Type 0} (x y : X) → Some x ≡ Some y → x ≡ y
some_same x y e = cc

pub code-at : (d : List (List ℕ)) (cs : List (Option ℕ)) (i : ℕ) (c : Option ℕ) → AreCodes d cs → slice_get cs i ≡ Some c → code_of d (text_for d c) ≡ c
code-at d cs i c are at =
    some_same _ _ (sym (slice_get-map (code_of d) (decoded d cs) i ∙ ap (option_map (code_of d)) (decoded-at d cs i c at)) ∙ ap (λ l. slice_get l i) are ∙ at)

pub code_within : (d : List (List ℕ)) (cs : List (Option ℕ)) (i k : ℕ) → AreCodes d cs → slice_get cs i ≡ Some (Some k) → k < length d
code_within d cs i k are at = within d k (code-at d cs i (Some k) are at)

-- the code of a row
pub code-of_row : (d : List (List ℕ)) (cs : List (Option ℕ)) (i : ℕ) (c : Option ℕ) → AreCodes d cs → slice_get cs i ≡ Some c →
    c ≡ code_of d (unwrap_or (slice_get (decoded d cs) i) None)
code-of_row d cs i c are at = sym (ap (λ o. code_of d (unwrap_or o None)) (decoded-at d cs i c at) ∙ code-at d cs i c are at)

null_for : (d : List (List ℕ)) (c : Option ℕ) → is_none (text_for d c) ≡ is_none c
null_for d None = refl
null_for d (Some k) = refl

-- no code exactly at a null
pub null-of_row : (d : List (List ℕ)) (cs : List (Option ℕ)) (i : ℕ) (c : Option ℕ) → slice_get cs i ≡ Some c → is_none c ≡ is_none (unwrap_or (slice_get (decoded d cs) i) None)
null-of_row d cs i c at = sym (null_for d c) ∙ sym (ap (λ o. is_none (unwrap_or o None)) (decoded-at d cs i c at))

pub decoded-utf8 : (d : List (List ℕ)) (cs : List (Option ℕ)) → AreCodes d cs → AllByRecursion IsUtf8 d → AreAllUtf8 (decoded d cs)
decoded-utf8 d [] are u = tt
decoded-utf8 d (None ∷ cs) are u = (tt, decoded-utf8 d cs (head_same _ _ _ _ are).1 u)
decoded-utf8 d (Some k ∷ cs) are u =
    let parts = head_same _ _ _ _ are in
    (AllUtf8-at d k (get_or d k []) u (slice_get-get_or d k [] (within d k parts.0)), decoded-utf8 d cs parts.1 u)

-- ---- keys of a set that are the dictionary

-- the dictionary with one value more
pub dictionary-new_text : (values : List (Option (List ℕ))) (t : List ℕ) → position (bytes_eq t) (dictionary_of values) ≡ None →
    dictionary_of (values ++ Some t ∷ []) ≡ dictionary_of values ++ t ∷ []
dictionary-new_text values t none =
    let d = dictionary_of values in
    dictionary-push values (Some t) ∙ ap (λ b. if b then d else d ++ t ∷ []) (none_passes (bytes_eq t) d none)

pub dictionary-known_text : (values : List (Option (List ℕ))) (t : List ℕ) (k : ℕ) → position (bytes_eq t) (dictionary_of values) ≡ Some k →
    dictionary_of (values ++ Some t ∷ []) ≡ dictionary_of values
dictionary-known_text values t k at =
    let d = dictionary_of values in
    dictionary-push values (Some t) ∙ ap (λ b. if b then d else d ++ t ∷ []) (known d t k at)

-- what a push left, whatever it answered
pub dictionary-after_known : {T E : Type 0} (r : Result T E) (old new : List (Option (List ℕ))) (t : List ℕ) (k : ℕ) → OnOk r (new ≡ old ++ Some t ∷ []) → OnErr r (new ≡ old) →
    position (bytes_eq t) (dictionary_of old) ≡ Some k → dictionary_of new ≡ dictionary_of old
dictionary-after_known (Ok x) old new t k ok err at = ap dictionary_of ok ∙ dictionary-known_text old t k at
dictionary-after_known (Err e) old new t k ok err at = ap dictionary_of err

pub after_ok : {T E P : Type 0} (r : Result T E) → OnOk r P → is_err r ≡ false → P
after_ok (Ok x) p e = p
after_ok (Err x) p e = absurd (false-true (sym e))

pub after_err : {T E P : Type 0} (r : Result T E) → OnErr r P → is_err r ≡ true → P
after_err (Ok x) p e = absurd (false-true e)
after_err (Err x) p e = p

module _ {K : Type 0} (bytes : K → List ℕ) (ks : List K) (d : List (List ℕ)) (same : map bytes ks ≡ d) where
  pub key_place : (t : List ℕ) → position (λ k. bytes_eq t (bytes k)) ks ≡ position (bytes_eq t) d
  key_place t = sym (position-map bytes (bytes_eq t) ks) ∙ ap (position (bytes_eq t)) same

  inserted : (k : K) (keys : List K) (t : List ℕ) → bytes k ≡ t → position (bytes_eq t) d ≡ None → keys ≡ insert_key (λ a b. bytes_eq (bytes a) (bytes b)) ks k →
      keys ≡ ks ++ k ∷ []
  inserted k keys t is none e =
      e ∙ ap (λ b. if b then ks else ks ++ k ∷ [])
      (none_passes (λ y. bytes_eq (bytes k) (bytes y)) ks (ap (λ x. position (λ y. bytes_eq x (bytes y)) ks) is ∙ key_place t ∙ none))

  -- a key more
  pub keys-more : (k : K) (keys : List K) (t : List ℕ) → bytes k ≡ t → position (bytes_eq t) d ≡ None → keys ≡ insert_key (λ a b. bytes_eq (bytes a) (bytes b)) ks k →
      map bytes keys ≡ d ++ t ∷ []
  keys-more k keys t is none e =
      ap (map bytes) (inserted k keys t is none e) ∙ map-append bytes ks (k ∷ []) ∙ (λ j. same j ++ is j ∷ [])

  -- a key that was put there and taken away
  pub keys-popped : (k : K) (keys left : List K) (o : Option K) (t : List ℕ) → bytes k ≡ t → position (bytes_eq t) d ≡ None →
      keys ≡ insert_key (λ a b. bytes_eq (bytes a) (bytes b)) ks k → keys ≡ left ++ option_to_list o → (0 < length keys → is_some o ≡ true) → map bytes left ≡ d
  keys-popped k keys left o t is none e popped found = by o popped found
    where
      all : keys ≡ ks ++ k ∷ []
      all = inserted k keys t is none e

      some : 0 < length keys
      some = let n : length keys ≡ length ks + 1 = ap length all ∙ length-append ks (k ∷ []) in omega (arith, n)

      by : (o : Option K) → keys ≡ left ++ option_to_list o → (0 < length keys → is_some o ≡ true) → map bytes left ≡ d
      by None p f = absurd (false-true (f some))
      by (Some x) p f = ap (map bytes) (snoc_same left ks x k (sym p ∙ all)) ∙ same

pub ruleset coding = (decoded-known, dictionary-known, decoded-null, dictionary-null, decoded-new, dictionary-new, length-decoded, decoded-at, code_within, code-of_row, null-of_row, decoded-utf8)
