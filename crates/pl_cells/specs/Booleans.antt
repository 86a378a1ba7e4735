-- The truth value of a text (docs/types.md, "Booleans").
use Rattle.std.specs.Prelude.{ℕ, Bool, true, false, if◌then◌else◌, List, Option, None, Some, codes}
use Rattle.std.specs.Str.{str_eq_ignore_ascii_case}

-- `true`
abbrev pub true_word : List ℕ
true_word = codes "true"

-- `false`
abbrev pub false_word : List ℕ
false_word = codes "false"

-- `true` or `false`, in any case of the letters
abbrev pub boolean_value : List ℕ → Option Bool
boolean_value text =
    if str_eq_ignore_ascii_case text true_word then Some true
    else (if str_eq_ignore_ascii_case text false_word then Some false else None)
