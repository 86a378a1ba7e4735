-- The shape of the words of the command line: flags and options (docs/command-line.md, "Words").
use Rattle.std.specs.Prelude.{ℕ, Bool, false, not, ◌&&◌, ◌==◌, if◌then◌else◌, List, [], ◌∷◌, map, length, codes, Option, None, Some}
use Rattle.std.specs.List.{list_all, list_any}
use Rattle.std.specs.Option.{option_map, option_map_or}
use Rattle.std.specs.Str.{bytes_eq}
use Rattle.pl_words.specs.declared.parts.Part.{Part}
use Rattle.pl_words.specs.SchemaText.{are_distinct}
use Rattle.pl_words.specs.Splitting.{cut_at}

-- a flag, or an option with its value
abbrev pub PartText : Type 0
PartText = List ℕ × Option (List ℕ)

-- what a part of the code says, without where it lies in memory
abbrev pub part_text : Part → PartText
part_text part = (part.name.now, option_map (λ value. value.now) part.value)

-- the names of flags
abbrev pub flags : List (List ℕ)
flags =
    codes "--no-header"
    ∷ codes "--lossy"
    ∷ codes "--keep-missing"
    ∷ codes "--truncate"
    ∷ codes "--ignore-errors"
    ∷ codes "--allow-empty"
    ∷ codes "--dates"
    ∷ codes "--out-no-header"
    ∷ codes "--out-bom"
    ∷ []

-- the names of options
abbrev pub options : List (List ℕ)
options =
    codes "--schema"
    ∷ codes "--overwrite"
    ∷ codes "--infer"
    ∷ codes "--sep"
    ∷ codes "--quote"
    ∷ codes "--eol"
    ∷ codes "--comment"
    ∷ codes "--skip-lines"
    ∷ codes "--skip-rows"
    ∷ codes "--skip-after"
    ∷ codes "--limit"
    ∷ codes "--columns"
    ∷ codes "--projection"
    ∷ codes "--row-index"
    ∷ codes "--row-offset"
    ∷ codes "--dtypes"
    ∷ codes "--workers"
    ∷ codes "--piece"
    ∷ codes "--null"
    ∷ codes "--nulls"
    ∷ codes "--null-of"
    ∷ codes "--out-sep"
    ∷ codes "--out-quote"
    ∷ codes "--out-null"
    ∷ codes "--out-eol"
    ∷ codes "--style"
    ∷ codes "--batch"
    ∷ codes "--make"
    ∷ []

-- the value of an option that stands in a word of its own is not empty and does not begin with a minus
abbrev pub is_value : List ℕ → Bool
is_value [] = false
is_value (x ∷ xs) = not (x == 45)

-- what one word is alone: a flag, or an option with its value
abbrev pub whole_part : List ℕ → Option PartText
whole_part word =
    if list_any (bytes_eq word) flags then Some (word, None)
    else option_map (λ cut. (cut.0, Some cut.1)) (cut_at 61 word)

-- the flags and options of words: what a word is alone, or else an option's name with the next word as its value
abbrev pub parts_of : List (List ℕ) → Option (List PartText)
parts_of [] = Some []
parts_of (word ∷ []) = option_map (λ part. part ∷ []) (whole_part word)
parts_of (word ∷ next ∷ words) = elim (whole_part word) [
  | Some part ↦ option_map (λ parts. part ∷ parts) (parts_of (next ∷ words))
  | None ↦ if is_value next then option_map (λ parts. (word, Some next) ∷ parts) (parts_of words) else None
]

-- a part is known: the name of a flag alone, or the name of an option with a value that is not empty
abbrev pub is_known : PartText → Bool
is_known (name, None) = list_any (bytes_eq name) flags
is_known (name, Some value) = list_any (bytes_eq name) options && not (length value == 0)

-- whether words are flags and options of which this holds
abbrev pub of_parts : (List PartText → Bool) → List (List ℕ) → Bool
of_parts test words = option_map_or test (parts_of words) false

-- the names of parts
abbrev pub part_names : List PartText → List (List ℕ)
part_names parts = map (λ part. part.0) parts

-- each part is known, and no name stands twice
abbrev pub are_known_once : List PartText → Bool
are_known_once parts = list_all is_known parts && are_distinct (part_names parts)

-- the value under a name, where the name is there
abbrev pub value_under : List ℕ → List PartText → Option (List ℕ)
value_under name [] = None
value_under name (part ∷ parts) = if bytes_eq name part.0 then part.1 else value_under name parts

-- the name is there
abbrev pub has_name : List ℕ → List PartText → Bool
has_name name parts = list_any (bytes_eq name) (part_names parts)

-- the name is one of these
abbrev pub is_among : List (List ℕ) → List ℕ → Bool
is_among names name = list_any (bytes_eq name) names

-- all names are among these
abbrev pub are_among : List (List ℕ) → List PartText → Bool
are_among names parts = list_all (λ part. is_among names part.0) parts
