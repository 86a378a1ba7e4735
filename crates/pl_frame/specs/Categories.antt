-- Texts as codes beside a dictionary (docs/types.md, "Columns and frames").
use Rattle.std.specs.Prelude.{IsUtf8, ◌≡◌, ℕ, Bool, false, if◌then◌else◌, List, [], ◌∷◌, ◌++◌, length, map, position, slice_index_or, Option, None, Some}
use Rattle.std.specs.List.{AllByRecursion, list_any, fold}
use Rattle.std.specs.Option.{option_map, option_map_or, option_and_then}
use Rattle.std.specs.Str.{bytes_eq}

-- the texts, and one more behind them if it is none of them; a null adds nothing
abbrev pub with_text : List (List ℕ) → Option (List ℕ) → List (List ℕ)
with_text texts None = texts
with_text texts (Some text) = if list_any (bytes_eq text) texts then texts else texts ++ text ∷ []

-- the texts that occur, each once, in the order in which they first occur from the left
abbrev pub dictionary_of : List (Option (List ℕ)) → List (List ℕ)
dictionary_of values = fold with_text [] values

-- the code of a text is its place in the dictionary; a null has none
abbrev pub code_of : List (List ℕ) → Option (List ℕ) → Option ℕ
code_of dictionary value = option_and_then (λ text. position (bytes_eq text) dictionary) value

-- the texts that codes stand for
abbrev pub decoded : List (List ℕ) → List (Option ℕ) → List (Option (List ℕ))
decoded dictionary codes = map (option_map (λ code. slice_index_or dictionary code [])) codes

-- each code is that of the text for which it stands
abbrev pub AreCodes : List (List ℕ) → List (Option ℕ) → Type 0
AreCodes dictionary codes = map (code_of dictionary) (decoded dictionary codes) ≡ codes

-- codes with the dictionary of their texts
pub record HaveDictionary (dictionary : List (List ℕ)) (codes : List (Option ℕ)) : Type 0 where
  pub codes_are : AreCodes dictionary codes
  pub whole : dictionary_of (decoded dictionary codes) ≡ dictionary
  pub utf8 : AllByRecursion IsUtf8 dictionary

-- a value is this text
abbrev pub is_this : List ℕ → Option (List ℕ) → Bool
is_this text value = option_map_or (bytes_eq text) value false

-- codes follow first appearance: a text that none of the values before it is has as its code how many different texts they
-- have, whatever comes behind it
abbrev pub CodesFollowFirstAppearance : Type 0
CodesFollowFirstAppearance = (front others : List (Option (List ℕ))) (text : List ℕ) → list_any (is_this text) front ≡ false
    → code_of (dictionary_of (front ++ Some text ∷ others)) (Some text) ≡ Some (length (dictionary_of front))
