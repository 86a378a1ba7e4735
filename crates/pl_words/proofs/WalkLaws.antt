-- The walk over words that are flags and options.
use Rattle.std.proofs.Common.{◌≡◌, ℕ, Bool, true, false, not, if◌then◌else◌, ◌&&◌, ◌==◌, List, [], ◌∷◌, ◌++◌, drop, refl, sym, ◌∙◌, ap, subst, true≢false}
use Rattle.std.specs.Prelude.{Option, Some, None, nat_lt, unwrap_or}
use Rattle.std.specs.List.{fold, list_all, list_any, before_first, after_first}
use Rattle.std.specs.Option.{option_map, option_and_then}
use Rattle.std.specs.Str.{bytes_eq}
use Rattle.clap.specs.Lexer.{long_of, long_of_rest, short_of, short_of_rest, strip_byte}
use Rattle.clap.specs.Walk.{Held, Row, Rule, Step, Walk, after_flag, after_step, arg_by_id, arg_by_long, idle, long_met, long_or_other, next, option, option_word, pending_count, settled_rows, short_or_plain, trailing, used, used_by_id, walked, word_met}
use Rattle.pl_words.specs.Parts.{PartText, flags, options, is_value, is_known, parts_of, whole_part}
use Rattle.pl_words.specs.Splitting.{cut_at, is_byte}
use Rattle.pl_words.proofs.IdLaws.{Text, dashed, flag_ids, option_ids, and_true, not_true, itself, flag_named, option_named, flag_plain, option_plain, is_plain_id, no_dashes, long_alone, long_with, no_dashes_with, cut_word}
use Rattle.pl_words.proofs.PartLaws.{parts_induction}
use Rattle.pl_words.proofs.RowLaws.{applied, full_flag, full_option}

-- the walk between two parts
abbrev pub at : List Row → Option (Text × List Text) → Walk
at rows pending = record { held = record { rows = rows; pending = pending; skip = 0 }; waiting = idle; position = 1; is_trailing = false; stopped = None }

-- the walk between the name of an option and its value
abbrev pub waiting_at : List Row → Text → Walk
waiting_at rows id = record { held = record { rows = rows; pending = Some (id, []); skip = 0 }; waiting = option id; position = 1; is_trailing = false; stopped = None }

abbrev pub held_at : List Row → Option (Text × List Text) → Held
held_at rows pending = record { rows = rows; pending = pending; skip = 0 }

-- a word that is a value is no flag
first_other : (x : ℕ) → not (x == 45) ≡ true → (x == 45) ≡ false
first_other x value = not_true (x == 45) value

pub value_plain : (v : Text) → is_value v ≡ true → bytes_eq v (45 ∷ 45 ∷ []) ≡ false
value_plain [] value = absurd (true≢false (sym value))
value_plain (x ∷ xs) value = ap (λ t. t && bytes_eq xs (45 ∷ [])) (first_other x value)

pub value_long : (v : Text) → is_value v ≡ true → long_of v ≡ None
value_long [] value = absurd (true≢false (sym value))
value_long (x ∷ xs) value = ap (λ t. option_and_then long_of_rest (option_and_then (strip_byte 45) (if t then Some xs else None))) (first_other x value)

pub value_short : (v : Text) → is_value v ≡ true → short_of v ≡ None
value_short [] value = absurd (true≢false (sym value))
value_short (x ∷ xs) value = ap (λ t. option_and_then short_of_rest (if t then Some xs else None)) (first_other x value)

module _ (R : List Rule) where
  pub word_read : (word : Text) (h : Held) (p : Text × Option Text) (a : Rule) → bytes_eq word (45 ∷ 45 ∷ []) ≡ false → long_of word ≡ Some p
      → arg_by_long R p.0 ≡ Some a
      → word_met R [] false idle 1 word h ≡ after_flag R idle word (long_met R (Some a) p.1 h).0 (long_met R (Some a) p.1 h).1
  word_read word h p a plain long found =
      ap (λ t. if t then (h, trailing 1) else long_or_other R idle word (long_of word) h) plain
      ∙ ap (λ o. long_or_other R idle word o h) long
      ∙ ap (λ o. after_flag R idle word (long_met R o p.1 h).0 (long_met R o p.1 h).1) found

  -- a flag
  pub step_flag : (word k : Text) (rows : List Row) (pending : Option (Text × List Text)) → bytes_eq word (45 ∷ 45 ∷ []) ≡ false → long_of word ≡ Some (k, None)
      → arg_by_long R k ≡ Some (full_flag k) → walked R [] (at rows pending) word ≡ at (used (full_flag k) [] (settled_rows R pending rows)) None
  unfolding walked
  step_flag word k rows pending plain long found =
      ap (λ (m : Held × Step). after_step R word (at rows pending) m.0 m.1) (word_read word (held_at rows pending) (k, None) (full_flag k) plain long found)

  -- an option with its value in one word
  pub step_with : (word k v : Text) (rows : List Row) (pending : Option (Text × List Text)) → bytes_eq word (45 ∷ 45 ∷ []) ≡ false → long_of word ≡ Some (k, Some v)
      → arg_by_long R k ≡ Some (full_option k) → walked R [] (at rows pending) word ≡ at (used (full_option k) (v ∷ []) (settled_rows R pending rows)) None
  unfolding walked
  step_with word k v rows pending plain long found =
      ap (λ (m : Held × Step). after_step R word (at rows pending) m.0 m.1) (word_read word (held_at rows pending) (k, Some v) (full_option k) plain long found)

  -- the name of an option alone
  pub step_name : (word k : Text) (rows : List Row) (pending : Option (Text × List Text)) → bytes_eq word (45 ∷ 45 ∷ []) ≡ false → long_of word ≡ Some (k, None)
      → arg_by_long R k ≡ Some (full_option k) → walked R [] (at rows pending) word ≡ waiting_at (settled_rows R pending rows) k
  unfolding walked
  step_name word k rows pending plain long found =
      ap (λ (m : Held × Step). after_step R word (at rows pending) m.0 m.1) (word_read word (held_at rows pending) (k, None) (full_option k) plain long found)

  -- the value behind it
  pub value_read : (v k : Text) (rows : List Row) → is_value v ≡ true → arg_by_id R k ≡ Some (full_option k)
      → word_met R [] false (option k) 1 v (held_at rows (Some (k, []))) ≡ (held_at rows (Some (k, v ∷ [])), next idle)
  value_read v k rows value found =
      ap (λ t. if t then (h, trailing 1) else long_or_other R (option k) v (long_of v) h) (value_plain v value)
      ∙ ap (λ o. long_or_other R (option k) v o h) (value_long v value)
      ∙ ap (λ o. short_or_plain R (option k) v o h) (value_short v value)
      ∙ ap (λ o. ((option_word o k v h).0, next (option_word o k v h).1)) found
      ∙ ap (λ n. (held_at rows (Some (k, v ∷ [])), next (if nat_lt n 1 then option k else idle))) one
    where
      h : Held
      h = held_at rows (Some (k, []))

      one : pending_count (full_option k) (Some (k, v ∷ [])) ≡ 1
      one = ap (λ t. if t then 1 else 0) (itself k)

  pub step_value : (v k : Text) (rows : List Row) → is_value v ≡ true → arg_by_id R k ≡ Some (full_option k)
      → walked R [] (waiting_at rows k) v ≡ at rows (Some (k, v ∷ []))
  unfolding walked
  step_value v k rows value found = ap (λ (m : Held × Step). after_step R v (waiting_at rows k) m.0 m.1) (value_read v k rows value found)

-- the rows, with what is pending
abbrev pub settles : List Rule → Walk → List Row
settles R w = settled_rows R w.held.pending w.held.rows

some_is : {X : Type 0} (a b : X) → Some a ≡ Some b → a ≡ b
some_is a b e = ap (λ o. unwrap_or o a) e

-- the id of a part is among those of its kind
abbrev pub IsListed : PartText → Type 0
IsListed (name, None) = list_any (bytes_eq (drop 2 name)) flag_ids ≡ true
IsListed (name, Some value) = list_any (bytes_eq (drop 2 name)) option_ids ≡ true

-- how a word is cut
abbrev pub IsCutAs : Text → Text → Option Text → Type 0
IsCutAs word id value = (bytes_eq word (45 ∷ 45 ∷ []) ≡ false) × (long_of word ≡ Some (id, value))

-- a word that is the name of an id
is_cut_alone : (word k : Text) → word ≡ dashed k → is_plain_id k ≡ true → IsCutAs word (drop 2 word) None
is_cut_alone word k is plain =
    (ap (λ w. bytes_eq w (45 ∷ 45 ∷ [])) is ∙ no_dashes k plain, ap long_of is ∙ long_alone k plain ∙ ap (λ w. Some (drop 2 w, None)) (sym is))

-- a part in one word
pub whole_cut : (word : Text) (part : PartText) → whole_part word ≡ Some part → is_known part ≡ true → IsCutAs word (drop 2 part.0) part.1 × IsListed part
whole_cut word part whole known = by (list_any (bytes_eq word) flags) refl
  where
    Answer : PartText → Type 0
    Answer p = IsCutAs word (drop 2 p.0) p.1 × IsListed p

    whole_as : Bool → Option PartText
    whole_as t = if t then Some (word, None) else option_map (λ cut. (cut.0, Some cut.1)) (cut_at 61 word)

    cut_as : Bool → Option PartText
    cut_as t = option_map (λ (cut : Text × Text). (cut.0, Some cut.1))
        (if t then Some (before_first (is_byte 61) word, after_first (is_byte 61) word) else None)

    cut : (name value : Text) → before_first (is_byte 61) word ≡ name → after_first (is_byte 61) word ≡ value → list_any (is_byte 61) word ≡ true
        → is_known (name, Some value) ≡ true → Answer (name, Some value)
    cut name value name_is value_is any known =
        let d = option_named name (and_true (list_any (bytes_eq name) options) _ known).0 in
        let plain = option_plain d.0 d.2 in
        let id : d.0 ≡ drop 2 name = sym (ap (drop 2) d.1) in
        let is : word ≡ dashed (d.0 ++ 61 ∷ value) = cut_word word any ∙ (λ j. name_is j ++ 61 ∷ value_is j) ∙ ap (λ n. n ++ 61 ∷ value) d.1 in (
          (
            ap (λ w. bytes_eq w (45 ∷ 45 ∷ [])) is ∙ no_dashes_with d.0 value plain,
            ap long_of is ∙ long_with d.0 value plain ∙ ap (λ k. Some (k, Some value)) id,
          ),
          ap (λ k. list_any (bytes_eq k) option_ids) (sym id) ∙ d.2,
        )

    by : (t : Bool) → list_any (bytes_eq word) flags ≡ t → Answer part
    by true e =
        let d = flag_named word e in
        let id : d.0 ≡ drop 2 word = sym (ap (drop 2) d.1) in
        subst Answer (some_is (word, None) part (sym (ap whole_as e) ∙ whole))
        (is_cut_alone word d.0 d.1 (flag_plain d.0 d.2), ap (λ k. list_any (bytes_eq k) flag_ids) (sym id) ∙ d.2)
    by false e = inner (list_any (is_byte 61) word) refl
      where
        inner : (t : Bool) → list_any (is_byte 61) word ≡ t → Answer part
        inner false none = let bad : None ≡ Some part = sym (ap cut_as none) ∙ sym (ap whole_as e) ∙ whole in cc
        inner true any =
            let is = some_is (before_first (is_byte 61) word, Some (after_first (is_byte 61) word)) part (sym (ap cut_as any) ∙ sym (ap whole_as e) ∙ whole) in
            subst Answer is (cut (before_first (is_byte 61) word) (after_first (is_byte 61) word) refl refl any (ap is_known is ∙ known))

-- the name of an option alone
pub name_cut : (word value : Text) → is_known (word, Some value) ≡ true → IsCutAs word (drop 2 word) None × IsListed (word, Some value)
name_cut word value known =
    let d = option_named word (and_true (list_any (bytes_eq word) options) _ known).0 in
    let id : d.0 ≡ drop 2 word = sym (ap (drop 2) d.1) in
    (is_cut_alone word d.0 d.1 (option_plain d.0 d.2), ap (λ k. list_any (bytes_eq k) option_ids) (sym id) ∙ d.2)

module _ (R : List Rule) (flag_at : (k : Text) → list_any (bytes_eq k) flag_ids ≡ true → arg_by_long R k ≡ Some (full_flag k))
    (option_at : (k : Text) → list_any (bytes_eq k) option_ids ≡ true → arg_by_long R k ≡ Some (full_option k))
    (option_by : (k : Text) → list_any (bytes_eq k) option_ids ≡ true → arg_by_id R k ≡ Some (full_option k)) where
  -- a part in one word
  pub whole_step : (word : Text) (part : PartText) (rows : List Row) (pending : Option (Text × List Text)) → whole_part word ≡ Some part → is_known part ≡ true
      → walked R [] (at rows pending) word ≡ at (applied (settled_rows R pending rows) part) None
  whole_step word (name, None) rows pending whole known =
      let c = whole_cut word (name, None) whole known in
      step_flag R word (drop 2 name) rows pending c.0.0 c.0.1 (flag_at (drop 2 name) c.1)
  whole_step word (name, Some value) rows pending whole known =
      let c = whole_cut word (name, Some value) whole known in
      step_with R word (drop 2 name) value rows pending c.0.0 c.0.1 (option_at (drop 2 name) c.1)

  -- a part in two words
  pub pair_step : (word value : Text) (rows : List Row) (pending : Option (Text × List Text)) → is_value value ≡ true → is_known (word, Some value) ≡ true
      → walked R [] (walked R [] (at rows pending) word) value ≡ at (settled_rows R pending rows) (Some (drop 2 word, value ∷ []))
  pair_step word value rows pending is_val known =
      let c = name_cut word value known in
      ap (λ w. walked R [] w value) (step_name R word (drop 2 word) rows pending c.0.0 c.0.1 (option_at (drop 2 word) c.1))
      ∙ step_value R value (drop 2 word) (settled_rows R pending rows) is_val (option_by (drop 2 word) c.1)

  pub pair_settles : (word value : Text) (rows : List Row) → is_known (word, Some value) ≡ true
      → settled_rows R (Some (drop 2 word, value ∷ [])) rows ≡ applied rows (word, Some value)
  pair_settles word value rows known = ap (λ o. used_by_id o (value ∷ []) rows) (option_by (drop 2 word) (name_cut word value known).1)

  -- the walk applies the parts one after another
  pub walk_parts : (words : List Text) (parts : List PartText) → parts_of words ≡ Some parts → (rows : List Row) (pending : Option (Text × List Text))
      → list_all is_known parts ≡ true
      → settles R (fold (walked R []) (at rows pending) words) ≡ fold applied (settled_rows R pending rows) parts
  walk_parts = parts_induction Applies (λ rows pending known. refl) one two
    where
      Applies : List Text → List PartText → Type 0
      Applies words parts = (rows : List Row) (pending : Option (Text × List Text)) → list_all is_known parts ≡ true
          → settles R (fold (walked R []) (at rows pending) words) ≡ fold applied (settled_rows R pending rows) parts

      one : (word : Text) (part : PartText) (words : List Text) (parts : List PartText) → whole_part word ≡ Some part → Applies words parts → Applies (word ∷ words) (part ∷ parts)
      one word part words parts whole behind rows pending known =
          let k = and_true (is_known part) (list_all is_known parts) known in
          ap (λ w. settles R (fold (walked R []) w words)) (whole_step word part rows pending whole k.0)
          ∙ behind (applied (settled_rows R pending rows) part) None k.1

      two : (word value : Text) (words : List Text) (parts : List PartText) → is_value value ≡ true → Applies words parts
          → Applies (word ∷ value ∷ words) ((word, Some value) ∷ parts)
      two word value words parts is_val behind rows pending known =
          let k = and_true (is_known (word, Some value)) (list_all is_known parts) known in
          ap (λ w. settles R (fold (walked R []) w words)) (pair_step word value rows pending is_val k.0)
          ∙ behind (settled_rows R pending rows) (Some (drop 2 word, value ∷ [])) k.1
          ∙ ap (λ rs. fold applied rs parts) (pair_settles word value (settled_rows R pending rows) k.0)
