-- Names of arguments, and their ids.
use Rattle.std.proofs.Common.{◌≡◌, ℕ, ◌<◌, ◌+◌, Bool, true, false, not, cond, ◌&&◌, ◌||◌, ◌==◌, List, [], ◌∷◌, ◌++◌, map, length, drop, get_or, refl, sym, ◌∙◌, ap, true≢false, arith}
use Rattle.std.specs.Prelude.{Some, None}
use Rattle.std.specs.List.{list_all, list_any, position_or_len, before_first, after_first}
use Rattle.std.specs.Str.{bytes_eq}
use Rattle.std.proofs.lemmas.Bool.Decides.{nat_tests}
use Rattle.std.proofs.lemmas.List.Folds.{list_any_at}
use Rattle.std.proofs.lemmas.List.Sums.{split_at_first, passes_at_first}
use Rattle.std.proofs.lemmas.Slice.Eq.{bytes_eq-Decides}
use Rattle.clap.proofs.CutLemmas.{Lacks}
use Rattle.clap.proofs.LexerLemmas.{name_and_value-at, name_and_value-without}
use Rattle.clap.specs.Lexer.{long_of}
use Rattle.clap.specs.Walk.{is_empty}
use Rattle.pl_words.specs.Parts.{flags, options}
use Rattle.pl_words.specs.Splitting.{is_byte}

abbrev pub Text : Type 0
Text = List ℕ

-- the name of an id
abbrev pub dashed : Text → Text
dashed id = 45 ∷ 45 ∷ id

abbrev pub flag_ids : List Text
flag_ids = map (drop 2) flags

abbrev pub option_ids : List Text
option_ids = map (drop 2) options

-- ---- tests

pub and_true : (s t : Bool) → (s && t) ≡ true → (s ≡ true) × (t ≡ true)
and_true true t e = (refl, e)
and_true false t e = absurd (true≢false (sym e))

pub or_false : (s t : Bool) → (s || t) ≡ false → (s ≡ false) × (t ≡ false)
or_false true t e = absurd (true≢false e)
or_false false t e = (refl, e)

pub or_true : (s t : Bool) → t ≡ true → (s || t) ≡ true
or_true true t e = refl
or_true false t e = e

pub not_true : (t : Bool) → not t ≡ true → t ≡ false
not_true true e = absurd (true≢false (sym e))
not_true false e = refl

pub same : (a b : Text) → bytes_eq a b ≡ true → a ≡ b
same a b e = (bytes_eq-Decides a b).0 e

pub itself : (a : Text) → bytes_eq a a ≡ true
itself a = (bytes_eq-Decides a a).1 refl

pub flipped : (a b : Text) (t : Bool) → bytes_eq a b ≡ t → bytes_eq b a ≡ t
flipped a b true e = ap (λ x. bytes_eq b x) (same a b e) ∙ itself b
flipped a b false e = by (bytes_eq b a) refl
  where
    by : (t : Bool) → bytes_eq b a ≡ t → bytes_eq b a ≡ false
    by true is = absurd (true≢false (sym (ap (λ x. bytes_eq a x) (same b a is) ∙ itself a) ∙ e))
    by false is = is

-- what holds of each name holds of one of them
pub all_at : (p : Text → Bool) (names : List Text) (name : Text) → list_all p names ≡ true → list_any (bytes_eq name) names ≡ true → p name ≡ true
all_at p [] name all any = absurd (true≢false (sym any))
all_at p (n ∷ ns) name all any = by (bytes_eq name n) refl (all_at p ns name)
  where
    parts : (p n ≡ true) × (list_all p ns ≡ true)
    parts = and_true (p n) (list_all p ns) all

    by : (t : Bool) → bytes_eq name n ≡ t → (list_all p ns ≡ true → list_any (bytes_eq name) ns ≡ true → p name ≡ true) → p name ≡ true
    by true e deeper = ap p (same name n e) ∙ parts.0
    by false e deeper = deeper parts.1 (sym (ap (λ t. t || list_any (bytes_eq name) ns) e) ∙ any)

-- ---- names

-- a name of the list is the name of an id
pub named : (ids : List Text) (name : Text) → list_any (bytes_eq name) (map dashed ids) ≡ true → (k : Text) × (name ≡ dashed k) × (list_any (bytes_eq k) ids ≡ true)
named [] name any = absurd (true≢false (sym any))
named (i ∷ is) name any = by (bytes_eq name (dashed i)) refl (named is name)
  where
    by : (t : Bool) → bytes_eq name (dashed i) ≡ t → (list_any (bytes_eq name) (map dashed is) ≡ true → (k : Text) × (name ≡ dashed k) × (list_any (bytes_eq k) is ≡ true))
        → (k : Text) × (name ≡ dashed k) × (list_any (bytes_eq k) (i ∷ is) ≡ true)
    by true e deeper = (i, same name (dashed i) e, ap (λ t. t || list_any (bytes_eq i) is) (itself i))
    by false e deeper =
        let d = deeper (sym (ap (λ t. t || list_any (bytes_eq name) (map dashed is)) e) ∙ any) in
        (d.0, d.1, or_true (bytes_eq d.0 i) (list_any (bytes_eq d.0) is) d.2)

pub flag_named : (name : Text) → list_any (bytes_eq name) flags ≡ true → (k : Text) × (name ≡ dashed k) × (list_any (bytes_eq k) flag_ids ≡ true)
flag_named name any = named flag_ids name any

pub option_named : (name : Text) → list_any (bytes_eq name) options ≡ true → (k : Text) × (name ≡ dashed k) × (list_any (bytes_eq k) option_ids ≡ true)
option_named name any = named option_ids name any

-- no option is a flag
options_apart : list_all (λ k. not (list_any (bytes_eq k) flags)) options ≡ true
options_apart = refl

flags_apart : list_all (λ k. not (list_any (bytes_eq k) options)) flags ≡ true
flags_apart = refl

pub option_no_flag : (name : Text) → list_any (bytes_eq name) options ≡ true → list_any (bytes_eq name) flags ≡ false
option_no_flag name any = not_true _ (all_at (λ k. not (list_any (bytes_eq k) flags)) options name options_apart any)

pub flag_no_option : (name : Text) → list_any (bytes_eq name) flags ≡ true → list_any (bytes_eq name) options ≡ false
flag_no_option name any = not_true _ (all_at (λ k. not (list_any (bytes_eq k) options)) flags name flags_apart any)

ids_apart : list_all (λ k. not (list_any (bytes_eq k) flag_ids)) option_ids ≡ true
ids_apart = refl

pub option_no_flag_id : (k : Text) → list_any (bytes_eq k) option_ids ≡ true → list_any (bytes_eq k) flag_ids ≡ false
option_no_flag_id k any = not_true _ (all_at (λ i. not (list_any (bytes_eq i) flag_ids)) option_ids k ids_apart any)

-- ---- words

-- an id has a byte, and no `=`
abbrev pub is_plain_id : Text → Bool
is_plain_id k = not (is_empty k) && not (list_any (is_byte 61) k)

flags_plain : list_all is_plain_id flag_ids ≡ true
flags_plain = refl

options_plain : list_all is_plain_id option_ids ≡ true
options_plain = refl

pub flag_plain : (k : Text) → list_any (bytes_eq k) flag_ids ≡ true → is_plain_id k ≡ true
flag_plain k any = all_at is_plain_id flag_ids k flags_plain any

pub option_plain : (k : Text) → list_any (bytes_eq k) option_ids ≡ true → is_plain_id k ≡ true
option_plain k any = all_at is_plain_id option_ids k options_plain any

lacks : (k : Text) → list_any (is_byte 61) k ≡ false → Lacks 61 k
lacks k none i inside at =
    let hit : (get_or k i 0 == 61) ≡ true = ap (λ x. x == 61) at in
    true≢false (sym (list_any_at (is_byte 61) k i 0 inside hit) ∙ none)

plain_lacks : (k : Text) → is_plain_id k ≡ true → Lacks 61 k
plain_lacks k plain = lacks k (not_true _ (and_true (not (is_empty k)) (not (list_any (is_byte 61) k)) plain).1)

pub no_dashes : (k : Text) → is_plain_id k ≡ true → bytes_eq (dashed k) (45 ∷ 45 ∷ []) ≡ false
no_dashes [] plain = absurd (true≢false (sym plain))
no_dashes (x ∷ xs) plain = refl

-- `--name`
pub long_alone : (k : Text) → is_plain_id k ≡ true → long_of (dashed k) ≡ Some (k, None)
long_alone [] plain = absurd (true≢false (sym plain))
long_alone (x ∷ xs) plain = ap (λ p. Some p) (name_and_value-without (x ∷ xs) (plain_lacks (x ∷ xs) plain))

-- `--name=value`
pub long_with : (k v : Text) → is_plain_id k ≡ true → long_of (dashed (k ++ 61 ∷ v)) ≡ Some (k, Some v)
long_with [] v plain = absurd (true≢false (sym plain))
long_with (x ∷ xs) v plain = ap (λ p. Some p) (name_and_value-at (x ∷ xs) v (plain_lacks (x ∷ xs) plain))

pub no_dashes_with : (k v : Text) → is_plain_id k ≡ true → bytes_eq (dashed (k ++ 61 ∷ v)) (45 ∷ 45 ∷ []) ≡ false
no_dashes_with [] v plain = absurd (true≢false (sym plain))
no_dashes_with (x ∷ xs) v plain = refl

inside : {X : Type 0} (p : X → Bool) (xs : List X) → list_any p xs ≡ true → position_or_len p xs < length xs
inside p [] any = absurd (true≢false (sym any))
inside p (x ∷ xs) any = by (p x) refl (inside p xs)
  where
    by : (t : Bool) → p x ≡ t → (list_any p xs ≡ true → position_or_len p xs < length xs) → position_or_len p (x ∷ xs) < length (x ∷ xs)
    by true is deeper =
        let at : position_or_len p (x ∷ xs) ≡ 0 = ap (λ t. cond (not t) (1 + position_or_len p xs) 0) is in omega (arith, at)
    by false is deeper =
        let at : position_or_len p (x ∷ xs) ≡ 1 + position_or_len p xs = ap (λ t. cond (not t) (1 + position_or_len p xs) 0) is in
        omega (arith, at, deeper (sym (ap (λ t. t || list_any p xs) is) ∙ any))

-- a word with `=` is what stands before it, it, and what stands behind it
pub cut_word : (word : Text) → list_any (is_byte 61) word ≡ true → word ≡ before_first (is_byte 61) word ++ 61 ∷ after_first (is_byte 61) word
cut_word word any =
    let at = inside (is_byte 61) word any in
    let hit : (get_or word (position_or_len (is_byte 61) word) 0 == 61) ≡ true = passes_at_first (is_byte 61) word 0 at in
    let is : get_or word (position_or_len (is_byte 61) word) 0 ≡ 61 = grind (arith, nat_tests) in
    split_at_first (is_byte 61) word 0 at ∙ ap (λ x. before_first (is_byte 61) word ++ x ∷ after_first (is_byte 61) word) is
