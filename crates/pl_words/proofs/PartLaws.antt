-- Words, part by part.
use Rattle.std.proofs.Common.{◌≡◌, ℕ, Bool, true, false, if◌then◌else◌, List, [], ◌∷◌, refl, sym, ◌∙◌, ap, subst}
use Rattle.std.specs.Prelude.{Option, Some, None, unwrap_or}
use Rattle.std.specs.Option.{option_map}
use Rattle.pl_words.specs.Parts.{PartText, is_value, parts_of, whole_part}

abbrev Text : Type 0
Text = List ℕ

some_is : {X : Type 0} (a b : X) → Some a ≡ Some b → a ≡ b
some_is a b e = ap (λ o. unwrap_or o a) e

-- what holds of no words, and is kept by a part in one word and by a part in two words, holds of all words that have parts
module _ (P : List Text → List PartText → Type 0) (none : P [] [])
    (one : (word : Text) (part : PartText) (words : List Text) (parts : List PartText) → whole_part word ≡ Some part → P words parts → P (word ∷ words) (part ∷ parts))
    (two : (word value : Text) (words : List Text) (parts : List PartText) → is_value value ≡ true → P words parts → P (word ∷ value ∷ words) ((word, Some value) ∷ parts)) where
  pub parts_induction : (words : List Text) (parts : List PartText) → parts_of words ≡ Some parts → P words parts
  parts_induction [] parts is = subst (P []) (some_is [] parts is) none
  parts_induction (word ∷ []) parts is = by (whole_part word) refl
    where
      by : (o : Option PartText) → whole_part word ≡ o → P (word ∷ []) parts
      by None e = let bad : None ≡ Some parts = sym (ap (λ o. option_map (λ (part : PartText). part ∷ []) o) e) ∙ is in cc
      by (Some part) e =
          subst (P (word ∷ [])) (some_is (part ∷ []) parts (sym (ap (λ o. option_map (λ (part : PartText). part ∷ []) o) e) ∙ is)) (one word part [] [] e none)
  parts_induction (word ∷ value ∷ words) parts is = by (whole_part word) refl (parts_induction (value ∷ words)) (parts_induction words)
    where
      parts_as : Option PartText → Option (List PartText)
      parts_as o = elim o [
        | Some part ↦ option_map (λ parts. part ∷ parts) (parts_of (value ∷ words))
        | None ↦ if is_value value then option_map (λ parts. (word, Some value) ∷ parts) (parts_of words) else None
      ]

      more : PartText → Option (List PartText) → Option (List PartText)
      more part o = option_map (λ (parts : List PartText). part ∷ parts) o

      by : (o : Option PartText) → whole_part word ≡ o → ((ps : List PartText) → parts_of (value ∷ words) ≡ Some ps → P (value ∷ words) ps)
          → ((ps : List PartText) → parts_of words ≡ Some ps → P words ps) → P (word ∷ value ∷ words) parts
      by (Some part) e behind_one behind_two = inner (parts_of (value ∷ words)) refl
        where
          inner : (o : Option (List PartText)) → parts_of (value ∷ words) ≡ o → P (word ∷ value ∷ words) parts
          inner None f = let bad : None ≡ Some parts = sym (ap (more part) f) ∙ sym (ap parts_as e) ∙ is in cc
          inner (Some ps) f =
              subst (P (word ∷ value ∷ words)) (some_is (part ∷ ps) parts (sym (ap (more part) f) ∙ sym (ap parts_as e) ∙ is))
              (one word part (value ∷ words) ps e (behind_one ps f))
      by None e behind_one behind_two = value_or (is_value value) refl
        where
          with_value : Bool → Option (List PartText)
          with_value t = if t then more (word, Some value) (parts_of words) else None

          inner : (o : Option (List PartText)) → parts_of words ≡ o → is_value value ≡ true → P (word ∷ value ∷ words) parts
          inner None f t =
              let bad : None ≡ Some parts = sym (ap (more (word, Some value)) f) ∙ sym (ap with_value t) ∙ sym (ap parts_as e) ∙ is in cc
          inner (Some ps) f t =
              subst (P (word ∷ value ∷ words))
              (some_is ((word, Some value) ∷ ps) parts (sym (ap (more (word, Some value)) f) ∙ sym (ap with_value t) ∙ sym (ap parts_as e) ∙ is))
              (two word value words ps t (behind_two ps f))

          value_or : (t : Bool) → is_value value ≡ t → P (word ∷ value ∷ words) parts
          value_or false t = let bad : None ≡ Some parts = sym (ap with_value t) ∙ sym (ap parts_as e) ∙ is in cc
          value_or true t = inner (parts_of words) refl t
