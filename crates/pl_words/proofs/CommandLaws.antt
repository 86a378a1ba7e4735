-- The command of the words, and what it reads.
use Rattle.std.proofs.Common.{◌≡◌, Bool, true, false, not, cond, ◌&&◌, ◌||◌, List, [], ◌∷◌, ◌++◌, map, refl, sym, ◌∙◌, ap, true≢false, subst, append-nil, append_assoc}
use Rattle.std.specs.Prelude.{Option, Some, None, unwrap_or, find, is_some, if◌then◌else◌, codes}
use Rattle.std.specs.List.{fold, list_all, list_any}
use Rattle.std.specs.Option.{option_and_then, option_map_or}
use Rattle.std.specs.Str.{bytes_eq}
use Rattle.clap.proofs.WalkLemmas.{first_value-rows, one_text-rows}
use Rattle.clap.specs.Matches.{first_value, found_of, one_text}
use Rattle.clap.specs.Simple.{App, HasMatchesOf, built, filled_from, is_simple, matches_of, on_top, with_rule}
use Rattle.clap.specs.Walk.{Rule, arg_by_id, arg_by_long, first_of, has_long, one_of, rows_after, rows_of, with_default}
use Rattle.clap.specs.declared.builder.action.ArgAction.{ArgAction}
use Rattle.clap.specs.declared.builder.action.ArgAction.TheVariants.{Set, SetTrue}
use Rattle.clap.specs.declared.parser.matches.ArgMatches.{ArgMatches}
use Rattle.pl_words.specs.Arguments.{AreReadAs, Gives, GivesFlags, GivesValues, command, id_of, is_flag, is_option, parts_in, rule_named, with_name}
use Rattle.pl_words.specs.Parts.{PartText, flags, options, is_known, part_names, of_parts, parts_of, are_known_once, value_under, has_name}
use Rattle.pl_words.specs.SchemaText.{are_distinct}
use Rattle.pl_words.proofs.IdLaws.{Text, dashed, flag_ids, option_ids, and_true, same, flipped, flag_named, option_named, flag_no_option, option_no_flag, option_no_flag_id}
use Rattle.pl_words.proofs.RowLaws.{full_flag, full_option, flag_read, option_read, rows_of_parts}
use Rattle.pl_words.proofs.WalkLaws.{walk_parts}

-- ---- building

-- ---- the rules as they are built

abbrev pub rules : List Text → List Text → List Rule
rules fs os = map full_flag fs ++ map full_option os

options_filled : (ids : List Text) → filled_from 1 (map (rule_named Set) ids) ≡ map full_option ids
options_filled [] = refl
options_filled (i ∷ is) = ap (λ rs. full_option i ∷ rs) (options_filled is)

rules_filled : (fs os : List Text) → filled_from 1 (map (rule_named SetTrue) fs ++ map (rule_named Set) os) ≡ rules fs os
rules_filled [] os = options_filled os
rules_filled (i ∷ is) os = ap (λ rs. full_flag i ∷ rs) (rules_filled is os)

pub built_rules : (built command).top.rules ≡ rules flag_ids option_ids
built_rules = rules_filled flag_ids option_ids

pub command_simple : is_simple command ≡ true
command_simple = refl

-- ---- what is found

or_nothing : (t : Bool) → (t || false) ≡ t
or_nothing true = refl
or_nothing false = refl

find_named : (p : Rule → Bool) (rule : Text → Rule) (k : Text) (ids : List Text) (more : List Rule) → ((m : Text) → p (rule m) ≡ bytes_eq m k)
    → list_any (bytes_eq k) ids ≡ true → find p (map rule ids ++ more) ≡ Some (rule k)
find_named p rule k [] more test any = absurd (true≢false (sym any))
find_named p rule k (m ∷ ms) more test any = by (bytes_eq k m) refl (find_named p rule k ms more test)
  where
    by : (t : Bool) → bytes_eq k m ≡ t → (list_any (bytes_eq k) ms ≡ true → find p (map rule ms ++ more) ≡ Some (rule k))
        → cond (p (rule m)) (Some (rule m)) (find p (map rule ms ++ more)) ≡ Some (rule k)
    by true e deeper =
        ap (λ t. cond t (Some (rule m)) (find p (map rule ms ++ more))) (test m ∙ flipped k m true e) ∙ ap (λ x. Some (rule x)) (sym (same k m e))
    by false e deeper =
        ap (λ t. cond t (Some (rule m)) (find p (map rule ms ++ more))) (test m ∙ flipped k m false e)
        ∙ deeper (sym (ap (λ t. t || list_any (bytes_eq k) ms) e) ∙ any)

find_past : (p : Rule → Bool) (rule : Text → Rule) (k : Text) (ids : List Text) (more : List Rule) → ((m : Text) → p (rule m) ≡ bytes_eq m k)
    → list_any (bytes_eq k) ids ≡ false → find p (map rule ids ++ more) ≡ find p more
find_past p rule k [] more test none = refl
find_past p rule k (m ∷ ms) more test none = by (bytes_eq k m) refl (find_past p rule k ms more test)
  where
    by : (t : Bool) → bytes_eq k m ≡ t → (list_any (bytes_eq k) ms ≡ false → find p (map rule ms ++ more) ≡ find p more)
        → cond (p (rule m)) (Some (rule m)) (find p (map rule ms ++ more)) ≡ find p more
    by true e deeper = absurd (true≢false (sym (ap (λ t. t || list_any (bytes_eq k) ms) e) ∙ none))
    by false e deeper =
        ap (λ t. cond t (Some (rule m)) (find p (map rule ms ++ more))) (test m ∙ flipped k m false e)
        ∙ deeper (sym (ap (λ t. t || list_any (bytes_eq k) ms) e) ∙ none)

abbrev of_long : Text → Rule → Bool
of_long k a = not (is_some a.index) && has_long a k

pub flag_at : (fs os : List Text) (k : Text) → list_any (bytes_eq k) fs ≡ true → arg_by_long (rules fs os) k ≡ Some (full_flag k)
flag_at fs os k any = find_named (of_long k) full_flag k fs (map full_option os) (λ m. or_nothing (bytes_eq m k)) any

option_found : (p : Rule → Bool) (fs os : List Text) (k : Text) → ((m : Text) → p (full_flag m) ≡ bytes_eq m k) → ((m : Text) → p (full_option m) ≡ bytes_eq m k)
    → list_any (bytes_eq k) os ≡ true → list_any (bytes_eq k) fs ≡ false → find p (rules fs os) ≡ Some (full_option k)
option_found p fs os k flag option any none =
    find_past p full_flag k fs (map full_option os) flag none ∙ ap (find p) (sym (append-nil (map full_option os))) ∙ find_named p full_option k os [] option any

pub option_at : (fs os : List Text) (k : Text) → list_any (bytes_eq k) os ≡ true → list_any (bytes_eq k) fs ≡ false → arg_by_long (rules fs os) k ≡ Some (full_option k)
option_at fs os k any none = option_found (of_long k) fs os k (λ m. or_nothing (bytes_eq m k)) (λ m. or_nothing (bytes_eq m k)) any none

pub option_by : (fs os : List Text) (k : Text) → list_any (bytes_eq k) os ≡ true → list_any (bytes_eq k) fs ≡ false → arg_by_id (rules fs os) k ≡ Some (full_option k)
option_by fs os k any none = option_found (λ a. bytes_eq a.id k) fs os k (λ m. refl) (λ m. refl) any none

-- ---- what is read

rows_are : (words : List Text) (parts : List PartText) → parts_of words ≡ Some parts → list_all is_known parts ≡ true
    → matches_of command words ≡ rows_of_parts flag_ids option_ids parts
rows_are words parts is known =
    ap (λ rs. rows_after rs [] words) built_rules
    ∙ ap (λ rows. fold with_default rows (rules flag_ids option_ids))
    (walk_parts (rules flag_ids option_ids) (λ k any. flag_at flag_ids option_ids k any) (λ k any. option_at flag_ids option_ids k any (option_no_flag_id k any))
    (λ k any. option_by flag_ids option_ids k any (option_no_flag_id k any)) words parts is [] None known)

-- what the matches of words give is what their parts say
pub gives : (words : List Text) (parts : List PartText) (m : ArgMatches) → parts_of words ≡ Some parts → are_known_once parts ≡ true
    → HasMatchesOf command words m → Gives parts m
unfolding is_option is_flag
gives words parts m is once matches = (values, flags_are)
  where
    k : (list_all is_known parts ≡ true) × (are_distinct (part_names parts) ≡ true)
    k = and_true (list_all is_known parts) (are_distinct (part_names parts)) once

    rows : rows_of (found_of m) ≡ rows_of_parts flag_ids option_ids parts
    rows = (matches command_simple).0 ∙ rows_are words parts is k.0

    values : GivesValues parts m
    values name any =
        let d = option_named name any in
        ap (λ n. option_and_then (first_value (found_of m)) (id_of n)) d.1
        ∙ first_value-rows (found_of m) d.0 ∙ ap (first_of d.0) rows
        ∙ option_read flag_ids option_ids d.0 parts k.0 k.1 (option_no_flag_id d.0 d.2) (ap (λ n. list_any (bytes_eq n) flags) (sym d.1) ∙ option_no_flag name any)
        ∙ ap (λ n. value_under n parts) (sym d.1)

    flags_are : GivesFlags parts m
    flags_are name any =
        let d = flag_named name any in
        ap (λ n. option_and_then (one_text (found_of m)) (id_of n)) d.1
        ∙ one_text-rows (found_of m) d.0 ∙ ap (one_of d.0) rows
        ∙ flag_read flag_ids option_ids d.0 parts k.0 k.1 d.2 (ap (λ n. list_any (bytes_eq n) options) (sym d.1) ∙ flag_no_option name any)
        ∙ ap (λ n. Some (if has_name n parts then codes "true" else codes "false")) (sym d.1)

-- ---- the goals

-- words that have the shape are read as their parts
pub read_as : (words : List Text) (m : ArgMatches) → of_parts are_known_once words ≡ true → HasMatchesOf command words m → AreReadAs words m
read_as words m shape matches = by (parts_of words) refl
  where
    test : Option (List PartText) → Bool
    test o = option_map_or are_known_once o false

    by : (o : Option (List PartText)) → parts_of words ≡ o → AreReadAs words m
    by None e = absurd (true≢false (sym shape ∙ ap test e))
    by (Some parts) e =
        let same_parts : parts_in words ≡ parts = ap (λ o. unwrap_or o []) e in
        let once : are_known_once parts ≡ true = sym (ap test e) ∙ shape in
        (e ∙ ap (λ ps. Some ps) (sym same_parts), subst (λ ps. Gives ps m) (sym same_parts) (gives words parts m e once matches))

-- a flag that is read from its text
pub flag_is : (text : Option Text) (there r : Bool) → text ≡ Some (if there then codes "true" else codes "false") → (text ≡ Some (codes "true") → r ≡ true)
    → (text ≡ Some (codes "false") → r ≡ false) → r ≡ there
flag_is text true r is on off = on is
flag_is text false r is on off = off is
