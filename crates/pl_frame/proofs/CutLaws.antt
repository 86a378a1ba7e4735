-- Laws of texts and of codes that are cut back to their first places.
use Rattle.std.proofs.Common.{IsUtf8, ◌≡◌, ℕ, suc, zero, ◌+◌, ◌-◌, ◌<◌, ◌≤◌, Bool, true, false, if◌then◌else◌, List, [], ◌∷◌, ◌++◌, length, take, drop, map, position, get_or, slice_get, Option, None, Some, refl, sym, ◌∙◌, ap, subst, arith, append_assoc, append-nil}
use Rattle.std.specs.List.{AllByRecursion, fold, list_any}
use Rattle.std.specs.Str.{bytes_eq}
use Rattle.std.proofs.lemmas.List.{length-append, length-take-le, take-append-drop, take-map, take_at, take_all, take-take, drop-take, take_more}
use Rattle.std.proofs.lemmas.List.Quantifiers.{position-Some}
use Rattle.std.proofs.lemmas.List.Sums.{fold-append}
use Rattle.std.proofs.lemmas.Option.{slice_get_within, get_or_from_slice_get}
use Rattle.pl_frame.specs.Categories.{with_text, dictionary_of, code_of, decoded, HaveDictionary}
use Rattle.pl_frame.specs.Optional.{flagged, parts_between, RiseTo, AreTexts}
use Rattle.pl_frame.proofs.CategoryLaws.{text_for, known, text_at_place, place-more, place-new, dictionary-push, code-at, decoded-at, length-decoded, some_same}
use Rattle.pl_frame.proofs.OptionalLaws.{RiseTo-at, length-flagged, length-parts_between, length-take-same, flagged-take}
use Rattle.pl_frame.proofs.SchemaLaws.{none_passes}

-- ---- texts

part-take : (from end to : ℕ) (bytes : List ℕ) → from ≤ end → end ≤ to → take (end - from) (drop from (take to bytes)) ≡ take (end - from) (drop from bytes)
part-take from end to bytes l h =
    let sum : from + (to - from) ≡ to = omega arith in
    let less : end - from ≤ to - from = omega arith in
    ap (λ n. take (end - from) (drop from (take n bytes))) (sym sum) ∙ ap (take (end - from)) (drop-take from (to - from) bytes)
    ∙ take-take (end - from) (to - from) (drop from bytes) less

RiseTo-begin : (from : ℕ) (ends : List ℕ) (last n : ℕ) → RiseTo from ends last → n ≤ length ends → from ≤ get_or (from ∷ ends) n 0
RiseTo-begin from ends last zero h l = omega arith
RiseTo-begin from [] last (suc n) h l = absurd (omega arith)
RiseTo-begin from (e ∷ es) last (suc n) h l = let further = RiseTo-begin e es last n h.1 (omega arith) in let first = h.0 in omega arith

pub RiseTo-take : (from : ℕ) (ends : List ℕ) (last n : ℕ) → RiseTo from ends last → n ≤ length ends → RiseTo from (take n ends) (get_or (from ∷ ends) n 0)
RiseTo-take from ends last zero h l = refl
RiseTo-take from [] last (suc n) h l = absurd (omega arith)
RiseTo-take from (e ∷ es) last (suc n) h l = (h.0, RiseTo-take e es last n h.1 (omega arith))

-- the first parts stand before the begin of the next
parts_between-take : (from n : ℕ) (ends bytes : List ℕ) (last : ℕ) → RiseTo from ends last → n ≤ length ends →
    parts_between from (take n ends) (take (get_or (from ∷ ends) n 0) bytes) ≡ take n (parts_between from ends bytes)
parts_between-take from zero ends bytes last h l = refl
parts_between-take from (suc n) [] bytes last h l = absurd (omega arith)
parts_between-take from (suc n) (e ∷ es) bytes last h l =
    (λ j. part-take from e (get_or (e ∷ es) n 0) bytes h.0 (RiseTo-begin e es last n h.1 (omega arith)) j ∷ parts_between-take e n es bytes last h.1 (omega arith) j)

pub AllUtf8-take : (n : ℕ) (texts : List (List ℕ)) → AllByRecursion IsUtf8 texts → AllByRecursion IsUtf8 (take n texts)
AllUtf8-take zero texts h = tt
AllUtf8-take (suc n) [] h = tt
AllUtf8-take (suc n) (t ∷ ts) h = (h.0, AllUtf8-take n ts h.1)

pub AreTexts-take : (bytes ends : List ℕ) (flags : List Bool) (n begin : ℕ) → AreTexts bytes ends flags → n < length ends → begin ≡ get_or (0 ∷ ends) n 0 →
    AreTexts (take begin bytes) (take n ends) (take n flags)
AreTexts-take bytes ends flags n begin h l b =
    let at = RiseTo-at 0 ends (length bytes) n h.rising l in
    let within : begin ≤ length bytes = let first = at.0 in let second = at.1 in omega arith in
    let size : length (take begin bytes) ≡ get_or (0 ∷ ends) n 0 = length-take-le begin bytes within ∙ b in
    record {
      one_length = length-take-same n ends flags h.one_length;
      rising = subst (RiseTo 0 (take n ends)) (sym size) (RiseTo-take 0 ends (length bytes) n h.rising (omega arith));
      utf8 = rw (b, parts_between-take 0 n ends bytes (length bytes) h.rising (omega arith)) (AllUtf8-take n (parts_between 0 ends bytes) h.utf8);
    }

pub texts-take : (bytes ends : List ℕ) (flags : List Bool) (n begin : ℕ) → AreTexts bytes ends flags → n < length ends → begin ≡ get_or (0 ∷ ends) n 0 →
    flagged (parts_between 0 (take n ends) (take begin bytes)) (take n flags) ≡ take n (flagged (parts_between 0 ends bytes) flags)
texts-take bytes ends flags n begin h l b =
    rw (b, parts_between-take 0 n ends bytes (length bytes) h.rising (omega arith)) (flagged-take n (parts_between 0 ends bytes) flags)

pub ruleset cut_texts = (length-parts_between, length-flagged, take_all, AreTexts-take, texts-take)

-- ---- codes

-- more values put further texts behind the dictionary
with_text-more : (d : List (List ℕ)) (v : Option (List ℕ)) → (rest : List (List ℕ)) × (with_text d v ≡ d ++ rest)
with_text-more d None = ([], sym (append-nil d))
with_text-more d (Some t) = by (list_any (bytes_eq t) d)
  where
    by : (b : Bool) → (rest : List (List ℕ)) × ((if b then d else d ++ t ∷ []) ≡ d ++ rest)
    by true = ([], sym (append-nil d))
    by false = (t ∷ [], refl)

grows : (d : List (List ℕ)) (vs : List (Option (List ℕ))) → (rest : List (List ℕ)) × (fold with_text d vs ≡ d ++ rest)
grows d [] = ([], sym (append-nil d))
grows d (v ∷ vs) =
    let first = with_text-more d v in
    let further = grows (with_text d v) vs in
    (first.0 ++ further.0, further.1 ∙ ap (λ x. x ++ further.0) first.1 ∙ append_assoc d first.0 further.0)

place-append : (d more : List (List ℕ)) (t : List ℕ) (k : ℕ) → position (bytes_eq t) d ≡ Some k → position (bytes_eq t) (d ++ more) ≡ Some k
place-append d [] t k at = ap (position (bytes_eq t)) (append-nil d) ∙ at
place-append d (x ∷ more) t k at =
    ap (position (bytes_eq t)) (sym (append_assoc d (x ∷ []) more)) ∙ place-append (d ++ x ∷ []) more t k (place-more d x t k at)

-- a text has a place in the dictionary to which it was put
has_place : (d : List (List ℕ)) (t : List ℕ) → (k : ℕ) × (position (bytes_eq t) (with_text d (Some t)) ≡ Some k)
has_place d t = by (position (bytes_eq t) d) refl
  where
    by : (o : Option ℕ) → position (bytes_eq t) d ≡ o → (k : ℕ) × (position (bytes_eq t) (with_text d (Some t)) ≡ Some k)
    by (Some k) at = (k, ap (λ b. position (bytes_eq t) (if b then d else d ++ t ∷ [])) (known d t k at) ∙ at)
    by None at = (length d, ap (λ b. position (bytes_eq t) (if b then d else d ++ t ∷ [])) (none_passes (bytes_eq t) d at) ∙ place-new d t at)

-- the place in all that came
place-kept : (d : List (List ℕ)) (t : List ℕ) (vs : List (Option (List ℕ))) (more : List (List ℕ)) →
    position (bytes_eq t) (fold with_text (with_text d (Some t)) vs ++ more) ≡ Some (has_place d t).0
place-kept d t vs more =
    let rest = grows (with_text d (Some t)) vs in
    place-append (fold with_text (with_text d (Some t)) vs) more t (has_place d t).0
    (ap (position (bytes_eq t)) rest.1 ∙ place-append (with_text d (Some t)) rest.0 t (has_place d t).0 (has_place d t).1)

-- the codes of values stay where texts are put behind their dictionary
codes-kept : (d : List (List ℕ)) (vs : List (Option (List ℕ))) (more : List (List ℕ)) → map (code_of (fold with_text d vs ++ more)) vs ≡ map (code_of (fold with_text d vs)) vs
codes-kept d [] more = refl
codes-kept d (None ∷ vs) more = ap (λ rest. None ∷ rest) (codes-kept d vs more)
codes-kept d (Some t ∷ vs) more =
    let all = fold with_text (with_text d (Some t)) vs in
    let same : position (bytes_eq t) (all ++ more) ≡ position (bytes_eq t) all =
    place-kept d t vs more ∙ sym (ap (position (bytes_eq t)) (sym (append-nil all)) ∙ place-kept d t vs []) in
    (λ j. same j ∷ codes-kept (with_text d (Some t)) vs more j)

-- the values for which their own codes stand
decoded-own : (d : List (List ℕ)) (vs : List (Option (List ℕ))) → decoded (fold with_text d vs) (map (code_of (fold with_text d vs)) vs) ≡ vs
decoded-own d [] = refl
decoded-own d (None ∷ vs) = ap (λ rest. None ∷ rest) (decoded-own d vs)
decoded-own d (Some t ∷ vs) =
    let all = fold with_text (with_text d (Some t)) vs in
    let place : position (bytes_eq t) all ≡ Some (has_place d t).0 = ap (position (bytes_eq t)) (sym (append-nil all)) ∙ place-kept d t vs [] in
    let same : text_for all (position (bytes_eq t) all) ≡ Some t = ap (text_for all) place ∙ ap Some (sym (text_at_place all t (has_place d t).0 place)) in
    (λ j. same j ∷ decoded-own (with_text d (Some t)) vs j)

-- the dictionary of the first values stands first in that of all
dictionary-front : (vs : List (Option (List ℕ))) (n : ℕ) → (rest : List (List ℕ)) × (dictionary_of vs ≡ dictionary_of (take n vs) ++ rest)
dictionary-front vs n =
    let more = grows (dictionary_of (take n vs)) (drop n vs) in
    (more.0, ap dictionary_of (sym (take-append-drop n vs)) ∙ fold-append with_text [] (take n vs) (drop n vs) ∙ more.1)

pub dictionary-of_front : (vs : List (Option (List ℕ))) (n u : ℕ) → u ≡ length (dictionary_of (take n vs)) → take u (dictionary_of vs) ≡ dictionary_of (take n vs)
dictionary-of_front vs n u e = let more = dictionary-front vs n in ap (take u) more.1 ∙ take_at (dictionary_of (take n vs)) more.0 u (sym e)

-- the keys of a set that are the dictionary are so in front
pub keys-take : {K : Type 0} (bytes : K → List ℕ) (ks keys : List K) (vs new : List (Option (List ℕ))) (n u : ℕ) → map bytes ks ≡ dictionary_of vs →
    new ≡ take n vs → u ≡ length (dictionary_of new) → keys ≡ take u ks → map bytes keys ≡ dictionary_of new
keys-take bytes ks keys vs new n u same cut e is =
    ap (map bytes) is ∙ sym (take-map bytes u ks) ∙ ap (take u) same
    ∙ dictionary-of_front vs n u (e ∙ ap (λ x. length (dictionary_of x)) cut) ∙ ap dictionary_of (sym cut)

module _ (d : List (List ℕ)) (cs : List (Option ℕ)) (h : HaveDictionary d cs) where
  front : (n : ℕ) → (rest : List (List ℕ)) × (d ≡ dictionary_of (take n (decoded d cs)) ++ rest)
  front n = let whole = dictionary-front (decoded d cs) n in (whole.0, sym h.whole ∙ whole.1)

  dictionary-cut : (n u : ℕ) → u ≡ length (dictionary_of (take n (decoded d cs))) → take u d ≡ dictionary_of (take n (decoded d cs))
  dictionary-cut n u e = let whole = front n in ap (take u) whole.1 ∙ take_at (dictionary_of (take n (decoded d cs))) whole.0 u (sym e)

  codes-cut : (n : ℕ) → map (code_of (dictionary_of (take n (decoded d cs)))) (take n (decoded d cs)) ≡ take n cs
  codes-cut n =
      let whole = front n in
      sym (codes-kept [] (take n (decoded d cs)) whole.0)
      ∙ ap (λ x. map (code_of x) (take n (decoded d cs))) (sym whole.1)
      ∙ sym (take-map (code_of d) n (decoded d cs)) ∙ ap (take n) h.codes_are

  own : (n : ℕ) → decoded (dictionary_of (take n (decoded d cs))) (take n cs) ≡ take n (decoded d cs)
  own n = ap (decoded (dictionary_of (take n (decoded d cs)))) (sym (codes-cut n)) ∙ decoded-own [] (take n (decoded d cs))

  pub decoded-take : (n u : ℕ) → u ≡ length (dictionary_of (take n (decoded d cs))) → decoded (take u d) (take n cs) ≡ take n (decoded d cs)
  decoded-take n u e = ap (λ x. decoded x (take n cs)) (dictionary-cut n u e) ∙ own n

  pub dictionary-take : (n u : ℕ) → u ≡ length (dictionary_of (take n (decoded d cs))) → HaveDictionary (take u d) (take n cs)
  dictionary-take n u e = record {
    codes_are = ap (map (code_of (take u d))) (decoded-take n u e) ∙ ap (λ x. map (code_of x) (take n (decoded d cs))) (dictionary-cut n u e) ∙ codes-cut n;
    whole = ap dictionary_of (decoded-take n u e) ∙ sym (dictionary-cut n u e);
    utf8 = AllUtf8-take u d h.utf8;
  }

  -- one value more in the front
  values-more : (i : ℕ) (c : Option ℕ) → slice_get cs i ≡ Some c → take (i + 1) (decoded d cs) ≡ take i (decoded d cs) ++ text_for d c ∷ []
  values-more i c at =
      let within : i < length (decoded d cs) = rw (length-decoded d cs) (slice_get_within cs i c at) in
      take_more (decoded d cs) i None within ∙ ap (λ v. take i (decoded d cs) ++ v ∷ []) (get_or_from_slice_get (decoded d cs) i (text_for d c) None (decoded-at d cs i c at))

  -- one place further: the count stays at a null and at a text that came before, and else the code is the count
  pub distinct-null : (i before : ℕ) → slice_get cs i ≡ Some None → before ≡ length (dictionary_of (take i (decoded d cs))) →
      before ≡ length (dictionary_of (take (i + 1) (decoded d cs)))
  distinct-null i before at e =
      e ∙ sym (ap length (ap dictionary_of (values-more i None at) ∙ dictionary-push (take i (decoded d cs)) None))

  module _ (i code before : ℕ) (at : slice_get cs i ≡ Some (Some code)) (e : before ≡ length (dictionary_of (take i (decoded d cs)))) where
    place : position (bytes_eq (get_or d code [])) d ≡ Some code
    place = code-at d cs i (Some code) h.codes_are at

    further : dictionary_of (take (i + 1) (decoded d cs)) ≡ with_text (dictionary_of (take i (decoded d cs))) (Some (get_or d code []))
    further = ap dictionary_of (values-more i (Some code) at) ∙ dictionary-push (take i (decoded d cs)) (Some (get_or d code []))

    -- a place among the first is the code
    code_is : (n k : ℕ) → position (bytes_eq (get_or d code [])) (dictionary_of (take n (decoded d cs))) ≡ Some k → code ≡ k
    code_is n k found =
        let whole = front n in
        let there = place-append (dictionary_of (take n (decoded d cs))) whole.0 (get_or d code []) k found in
        some_same code k (sym place ∙ ap (position (bytes_eq (get_or d code []))) whole.1 ∙ there)

    pub distinct-text : ((code < before) → before ≡ length (dictionary_of (take (i + 1) (decoded d cs)))) × ((before ≤ code) → code + 1 ≡ length (dictionary_of (take (i + 1) (decoded d cs))))
    distinct-text = by (position (bytes_eq (get_or d code [])) (dictionary_of (take i (decoded d cs)))) refl
      where
        by : (o : Option ℕ) → position (bytes_eq (get_or d code [])) (dictionary_of (take i (decoded d cs))) ≡ o →
            ((code < before) → before ≡ length (dictionary_of (take (i + 1) (decoded d cs)))) × ((before ≤ code) → code + 1 ≡ length (dictionary_of (take (i + 1) (decoded d cs))))
        by (Some k) found =
            let seen = dictionary_of (take i (decoded d cs)) in
            let same : dictionary_of (take (i + 1) (decoded d cs)) ≡ seen =
            further ∙ ap (λ b. if b then seen else seen ++ get_or d code [] ∷ []) (known seen (get_or d code []) k found) in
            let less : k < length seen = (position-Some (bytes_eq (get_or d code [])) seen k [] found).0 in
            let is : code ≡ k = code_is i k found in
            ((λ l. e ∙ sym (ap length same)), λ l. absurd (omega (arith, is, less, e, l)))
        by None none =
            let seen = dictionary_of (take i (decoded d cs)) in
            let more : dictionary_of (take (i + 1) (decoded d cs)) ≡ seen ++ get_or d code [] ∷ [] =
            further ∙ ap (λ b. if b then seen else seen ++ get_or d code [] ∷ []) (none_passes (bytes_eq (get_or d code [])) seen none) in
            let is : code ≡ length seen =
            code_is (i + 1) (length seen) (ap (position (bytes_eq (get_or d code []))) more ∙ place-new seen (get_or d code []) none) in
            let size : length (dictionary_of (take (i + 1) (decoded d cs))) ≡ length seen + 1 = ap length more ∙ length-append seen (get_or d code [] ∷ []) in
            ((λ l. absurd (omega (arith, is, e, l))), λ l. ap (λ n. n + 1) is ∙ sym size)

pub ruleset cut_codes = (length-decoded, decoded-take, dictionary-take)
