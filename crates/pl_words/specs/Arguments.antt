-- The words as a command of flags and options reads them (docs/command-line.md, "Words").
use Rattle.std.specs.Prelude.{◌≡◌, ℕ, Bool, true, if◌then◌else◌, List, [], ◌++◌, map, drop, codes, Option, Some, unwrap_or}
use Rattle.std.specs.List.{list_any}
use Rattle.std.specs.Option.{option_map_or, option_and_then}
use Rattle.std.specs.Str.{bytes_eq}
use Rattle.clap.specs.Lexer.{strip_byte}
use Rattle.clap.specs.Matches.{first_value, found_of, one_text}
use Rattle.clap.specs.Simple.{App, new_rule, new_shape, with_rule}
use Rattle.clap.specs.Walk.{Rule}
use Rattle.clap.specs.declared.builder.action.ArgAction.{ArgAction}
use Rattle.clap.specs.declared.builder.action.ArgAction.TheVariants.{Set, SetTrue}
use Rattle.clap.specs.declared.parser.matches.ArgMatches.{ArgMatches}
use Rattle.pl_words.specs.Parts.{PartText, flags, options, parts_of, value_under, has_name}

-- a name is that of an option
unfoldable pub is_option : List ℕ → Bool
is_option name = list_any (bytes_eq name) options

-- a name is that of a flag
unfoldable pub is_flag : List ℕ → Bool
is_flag name = list_any (bytes_eq name) flags

-- the id of a name: what follows its two hyphens
abbrev pub id_of : List ℕ → Option (List ℕ)
id_of name = option_and_then (strip_byte 45) (strip_byte 45 name)

-- the argument of an id, which does this
abbrev pub rule_named : ArgAction → List ℕ → Rule
rule_named action id = record (new_rule id) { long = Some id; action = Some action }

-- a command with one argument more
abbrev pub with_name : ArgAction → App → List ℕ → App
with_name action command name = option_map_or (λ id. with_rule command (rule_named action id)) (id_of name) command

-- the command of the words: it has the flags and the options, and no more
abbrev pub command : App
command = record {
  top = record (new_shape (codes "pl_csv")) {
    rules = map (rule_named SetTrue) (map (drop 2) flags) ++ map (rule_named Set) (map (drop 2) options);
    no_binary_name = true;
    disable_help_flag = true;
    disable_version_flag = true;
  };
  subs = [];
}

-- what the matches give for an option is its value among the parts
abbrev pub GivesValues : List PartText → ArgMatches → Type 0
GivesValues parts matches = (name : List ℕ) → is_option name ≡ true → option_and_then (first_value (found_of matches)) (id_of name) ≡ value_under name parts

-- what they give for a flag is whether it is among the parts
abbrev pub GivesFlags : List PartText → ArgMatches → Type 0
GivesFlags parts matches = (name : List ℕ) → is_flag name ≡ true
    → option_and_then (one_text (found_of matches)) (id_of name) ≡ Some (if has_name name parts then codes "true" else codes "false")

-- the parts of words that have some
abbrev pub parts_in : List (List ℕ) → List PartText
parts_in words = unwrap_or (parts_of words) []

-- the matches give what the parts say
abbrev pub Gives : List PartText → ArgMatches → Type 0
Gives parts matches = GivesValues parts matches × GivesFlags parts matches

-- the words have parts, and the matches give what they say
abbrev pub AreReadAs : List (List ℕ) → ArgMatches → Type 0
AreReadAs words matches = (parts_of words ≡ Some (parts_in words)) × Gives (parts_in words) matches
