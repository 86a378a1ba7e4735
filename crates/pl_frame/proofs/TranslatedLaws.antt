-- Laws of codes among one dictionary that are found among another.
use Rattle.std.proofs.Common.{◌≡◌, ℕ, suc, zero, ◌+◌, ◌<◌, List, [], ◌∷◌, ◌++◌, length, take, position, get_or, slice_get, set, Option, None, Some, Result, Ok, Err, OnOk, OnErr, unwrap_or, ◌⊎◌, inl, inr, refl, sym, ◌∙◌, ap, subst, append_assoc}
use Rattle.std.specs.Str.{bytes_eq}
use Rattle.std.proofs.lemmas.List.{length-set, take_more, get_or_default}
use Rattle.std.proofs.lemmas.Option.{slice_get-get_or}
use Rattle.std.proofs.lemmas.List.Quantifiers.{position-Some}
use Rattle.pl_frame.specs.Categories.{dictionary_of, code_of}
use Rattle.pl_frame.specs.Translated.{AreTranslated}
use Rattle.pl_frame.proofs.AppearanceLaws.{place-stays}
use Rattle.pl_frame.proofs.CategoryLaws.{dictionary-push, dictionary-new_text, place-new, text_at_place}

-- a text keeps its place when a value is put behind
pub place-after : (values : List (Option (List ℕ))) (v : Option (List ℕ)) (text : List ℕ) (k : ℕ) → position (bytes_eq text) (dictionary_of values) ≡ Some k →
    position (bytes_eq text) (dictionary_of (values ++ v ∷ [])) ≡ Some k
place-after values v text k at =
    ap (position (bytes_eq text)) (dictionary-push values v) ∙ place-stays text k (dictionary_of values) (v ∷ []) at

-- a new text gets the length of the dictionary
pub place-of_new : (values : List (Option (List ℕ))) (text : List ℕ) → position (bytes_eq text) (dictionary_of values) ≡ None →
    position (bytes_eq text) (dictionary_of (values ++ Some text ∷ [])) ≡ Some (length (dictionary_of values))
place-of_new values text none = ap (position (bytes_eq text)) (dictionary-new_text values text none) ∙ place-new (dictionary_of values) text none

-- ---- the value at a place, by its code

pub value-coded : (d : List (List ℕ)) (v : Option (List ℕ)) (code : ℕ) → Some code ≡ code_of d v → (code < length d) × (v ≡ Some (get_or d code []))
value-coded d None code e = cc
value-coded d (Some text) code e =
    ((position-Some (bytes_eq text) d code [] (sym e)).0, ap Some (text_at_place d text code (sym e)))

-- the text that stands in a dictionary under the code of a value is that value
pub text-coded : (xs d : List (List ℕ)) (v : Option (List ℕ)) (code : ℕ) (text item : List ℕ) → Some code ≡ code_of d v → xs ≡ d → item ≡ get_or xs code item → text ≡ item →
    (text ≡ get_or d code []) × (v ≡ Some text)
text-coded xs d v code text item e same at is =
    let found = value-coded d v code e in
    let here : text ≡ get_or d code [] = is ∙ at ∙ ap (λ l. get_or l code item) same ∙ get_or_default d code item [] found.0 in
    (here, found.1 ∙ ap Some (sym here))

pub ok-value : {T E : Type 0} (r : Result T E) (old new : List (Option (List ℕ))) (v w : Option (List ℕ)) → v ≡ w → OnOk r (new ≡ old ++ w ∷ []) → OnOk r (new ≡ old ++ v ∷ [])
ok-value r old new v w same ok = subst (λ x. OnOk r (new ≡ old ++ x ∷ [])) (sym same) ok

-- one value further
pub values-next : (front self new other : List (Option (List ℕ))) (i : ℕ) → self ≡ front ++ take i other → i < length other → new ≡ self ++ unwrap_or (slice_get other i) None ∷ [] →
    new ≡ front ++ take (i + 1) other
values-next front self new other i so_far within pushed =
    let value : unwrap_or (slice_get other i) None ≡ get_or other i None = ap (λ o. unwrap_or o None) (slice_get-get_or other i None within) in
    pushed ∙ (λ j. so_far j ++ value j ∷ []) ∙ append_assoc front (take i other) (get_or other i None ∷ []) ∙ ap (λ xs. front ++ xs) (sym (take_more other i None within))

-- ---- tables

abbrev nothing : Option ℕ
nothing = None

-- what is known stays so where each text keeps its place
translated-grown : (own grown others : List (List ℕ)) (codes : List (Option ℕ)) → AreTranslated own others codes →
    ((text : List ℕ) (k : ℕ) → position (bytes_eq text) own ≡ Some k → position (bytes_eq text) grown ≡ Some k) → AreTranslated grown others codes
translated-grown own grown others codes h keeps = record {
  one_length = h.one_length;
  found = λ k code at. keeps (get_or others k []) code (h.found k code at);
}

pub translated-more : (values new : List (Option (List ℕ))) (v : Option (List ℕ)) (others : List (List ℕ)) (codes : List (Option ℕ)) → AreTranslated (dictionary_of values) others codes →
    new ≡ values ++ v ∷ [] → AreTranslated (dictionary_of new) others codes
translated-more values new v others codes h e =
    translated-grown (dictionary_of values) (dictionary_of new) others codes h
    (λ text k at. ap (λ vs. position (bytes_eq text) (dictionary_of vs)) e ∙ place-after values v text k at)

pub translated-same : (values new : List (Option (List ℕ))) (others : List (List ℕ)) (codes : List (Option ℕ)) → AreTranslated (dictionary_of values) others codes →
    new ≡ values → AreTranslated (dictionary_of new) others codes
translated-same values new others codes h e = subst (λ vs. AreTranslated (dictionary_of vs) others codes) (sym e) h

-- what a push left, whatever it answered
pub translated-after : {T E : Type 0} (r : Result T E) (values new : List (Option (List ℕ))) (v : Option (List ℕ)) (others : List (List ℕ)) (codes : List (Option ℕ)) →
    AreTranslated (dictionary_of values) others codes → OnOk r (new ≡ values ++ v ∷ []) → OnErr r (new ≡ values) → AreTranslated (dictionary_of new) others codes
translated-after (Ok x) values new v others codes h ok err = translated-more values new v others codes h ok
translated-after (Err x) values new v others codes h ok err = translated-same values new others codes h err

-- the codes after a write
set-found : (codes : List (Option ℕ)) (k c j code : ℕ) → get_or (set codes k (Some c)) j None ≡ Some code → (get_or codes j None ≡ Some code) ⊎ ((j ≡ k) × (c ≡ code))
set-found [] k c j code e = inl e
set-found (x ∷ xs) zero c zero code e = inr (refl, cc)
set-found (x ∷ xs) zero c (suc j) code e = inl e
set-found (x ∷ xs) (suc k) c zero code e = inl e
set-found (x ∷ xs) (suc k) c (suc j) code e = by (set-found xs k c j code e)
  where
    by : ((get_or xs j None ≡ Some code) ⊎ ((j ≡ k) × (c ≡ code))) → (get_or xs j None ≡ Some code) ⊎ ((suc j ≡ suc k) × (c ≡ code))
    by (inl a) = inl a
    by (inr b) = inr (ap suc b.0, b.1)

pub translated-set : (own others : List (List ℕ)) (codes : List (Option ℕ)) (k c : ℕ) → AreTranslated own others codes → position (bytes_eq (get_or others k [])) own ≡ Some c →
    AreTranslated own others (set codes k (Some c))
translated-set own others codes k c h at = record {
  one_length = length-set codes k (Some c) ∙ h.one_length;
  found = λ j code e. by j code (set-found codes k c j code e);
}
  where
    by : (j code : ℕ) → ((get_or codes j None ≡ Some code) ⊎ ((j ≡ k) × (c ≡ code))) → position (bytes_eq (get_or others j [])) own ≡ Some code
    by j code (inl a) = h.found j code a
    by j code (inr b) = ap (λ n. position (bytes_eq (get_or others n [])) own) b.0 ∙ at ∙ ap Some b.1
