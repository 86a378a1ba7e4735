-- The command takes the words of the shape, so that a parse fails only for want of memory.
use Rattle.std.proofs.Common.{◌≡◌, Bool, true, false, not, ◌&&◌, ◌||◌, List, [], ◌∷◌, drop, refl, sym, ◌∙◌, ap, subst, true≢false}
use Rattle.std.specs.Prelude.{Option, Some, None, is_some}
use Rattle.std.specs.List.{fold, list_all, list_any}
use Rattle.std.specs.Option.{option_map_or}
use Rattle.std.specs.Str.{bytes_eq}
use Rattle.clap.specs.Lexer.{long_of}
use Rattle.clap.specs.Simple.{Shape, built, entered}
use Rattle.clap.specs.Takes.{bundle_passes, default_passes, entered_passes, flag_word_passes, is_given, level_passes, long_passes, other_passes, settle_passes, step_passes, takes, turn_passes, use_passes, walk_passes}
use Rattle.clap.specs.Walk.{Held, Row, Rule, Step, Walk, arg_by_id, arg_by_long, finished, has_row, nothing_held, settled_rows, walk, walked}
use Rattle.pl_words.specs.Arguments.{command}
use Rattle.pl_words.specs.Parts.{PartText, is_value, is_known, part_names, parts_of, of_parts, are_known_once, whole_part}
use Rattle.pl_words.specs.SchemaText.{are_distinct}
use Rattle.pl_words.proofs.CommandLaws.{built_rules, command_simple, flag_at, option_at, option_by, rules}
use Rattle.pl_words.proofs.IdLaws.{Text, dashed, flag_ids, option_ids, and_true, not_true, or_true, same, itself, option_no_flag_id}
use Rattle.pl_words.proofs.PartLaws.{parts_induction}
use Rattle.pl_words.proofs.RowLaws.{applied, applied-other, full_flag, full_option, has_row-is, known_name, row_under}
use Rattle.pl_words.proofs.WalkLaws.{IsCutAs, at, held_at, name_cut, pair_settles, step_name, step_value, value_long, value_plain, value_read, value_short, waiting_at, whole_cut, whole_step, word_read}

both : (s t : Bool) → s ≡ true → t ≡ true → (s && t) ≡ true
both true t e f = f
both false t e f = e

-- the rows have none for the names of the parts
abbrev AreNew : List Row → List PartText → Type 0
AreNew rows parts = (n : Text) → list_any (bytes_eq (dashed n)) (part_names parts) ≡ true → row_under n rows ≡ None

-- once a part is applied, there is none for the names behind it
still_new : (rows : List Row) (p : PartText) (ps : List PartText) → is_known p ≡ true → are_distinct (part_names (p ∷ ps)) ≡ true → AreNew rows (p ∷ ps)
    → AreNew (applied rows p) ps
still_new rows p ps known distinct new n any = applied-other n rows p known (by (bytes_eq (dashed n) p.0) refl) ∙ new n (or_true _ _ any)
  where
    by : (t : Bool) → bytes_eq (dashed n) p.0 ≡ t → bytes_eq (dashed n) p.0 ≡ false
    by true e =
        let d = not_true _ (and_true (not (list_any (bytes_eq p.0) (part_names ps))) (are_distinct (part_names ps)) distinct).0 in
        absurd (true≢false (sym any ∙ ap (λ x. list_any (bytes_eq x) (part_names ps)) (same (dashed n) p.0 e) ∙ d))
    by false e = e

new_here : (rows : List Row) (p : PartText) (ps : List PartText) (k : Text) → p.0 ≡ dashed k → AreNew rows (p ∷ ps) → has_row k rows ≡ false
new_here rows p ps k is new =
    has_row-is k rows ∙ ap is_some (new k (ap (λ x. bytes_eq (dashed k) x || list_any (bytes_eq (dashed k)) (part_names ps)) is
    ∙ ap (λ t. t || list_any (bytes_eq (dashed k)) (part_names ps)) (itself k)))

-- a use of an argument that was not used
flag_passes : (k : Text) (rows : List Row) → has_row k rows ≡ false → use_passes false (full_flag k) [] rows ≡ true
flag_passes k rows none = ap (λ t. (not t || false) && true) none

option_passes : (k v : Text) (rows : List Row) → has_row k rows ≡ false → use_passes false (full_option k) (v ∷ []) rows ≡ true
option_passes k v rows none = ap (λ t. (not t || false) && true) none

module _ (S : Shape) (again : S.args_override_self ≡ false) (flag_found : (k : Text) → list_any (bytes_eq k) flag_ids ≡ true → arg_by_long S.rules k ≡ Some (full_flag k))
    (option_found : (k : Text) → list_any (bytes_eq k) option_ids ≡ true → arg_by_long S.rules k ≡ Some (full_option k))
    (option_known : (k : Text) → list_any (bytes_eq k) option_ids ≡ true → arg_by_id S.rules k ≡ Some (full_option k)) where
  -- what is pending passes
  abbrev Settles : List Row → Option (Text × List Text) → Type 0
  Settles rows pending = settle_passes S.rules false (held_at rows pending) ≡ true

  word_passes : (word : Text) (rows : List Row) (pending : Option (Text × List Text)) (k : Text) (value : Option Text) (a : Rule) → IsCutAs word k value
      → arg_by_long S.rules k ≡ Some a → long_passes S.rules false (Some a) value (held_at rows pending) ≡ true
      → other_passes S None word (held_at rows pending) ≡ true
  word_passes word rows pending k value a cut found passes =
      ap (λ t. t || flag_word_passes S.rules S.args_override_self (long_of word) word (held_at rows pending)) cut.0
      ∙ ap (λ t. flag_word_passes S.rules t (long_of word) word (held_at rows pending)) again
      ∙ ap (λ o. flag_word_passes S.rules false o word (held_at rows pending)) cut.1
      ∙ ap (λ o. long_passes S.rules false o value (held_at rows pending)) found ∙ passes

  turn_flag : (word k : Text) (rows : List Row) (pending : Option (Text × List Text)) → IsCutAs word k None → list_any (bytes_eq k) flag_ids ≡ true → Settles rows pending
      → has_row k (settled_rows S.rules pending rows) ≡ false → turn_passes S [] (at rows pending) word ≡ true
  turn_flag word k rows pending cut any settles none =
      both _ _
      (word_passes word rows pending k None (full_flag k) cut (flag_found k any)
      (both _ _ settles (flag_passes k (settled_rows S.rules pending rows) none)))
      (ap (λ (m : Held × Step). step_passes S 1 m.0 m.1) (word_read S.rules word (held_at rows pending) (k, None) (full_flag k) cut.0 cut.1 (flag_found k any)))

  turn_with : (word k v : Text) (rows : List Row) (pending : Option (Text × List Text)) → IsCutAs word k (Some v) → list_any (bytes_eq k) option_ids ≡ true
      → Settles rows pending → has_row k (settled_rows S.rules pending rows) ≡ false → turn_passes S [] (at rows pending) word ≡ true
  turn_with word k v rows pending cut any settles none =
      both _ _
      (word_passes word rows pending k (Some v) (full_option k) cut (option_found k any)
      (both _ _ settles (option_passes k v (settled_rows S.rules pending rows) none)))
      (ap (λ (m : Held × Step). step_passes S 1 m.0 m.1) (word_read S.rules word (held_at rows pending) (k, Some v) (full_option k) cut.0 cut.1 (option_found k any)))

  turn_name : (word k : Text) (rows : List Row) (pending : Option (Text × List Text)) → IsCutAs word k None → list_any (bytes_eq k) option_ids ≡ true
      → Settles rows pending → turn_passes S [] (at rows pending) word ≡ true
  turn_name word k rows pending cut any settles =
      both _ _
      (word_passes word rows pending k None (full_option k) cut (option_found k any) settles)
      (ap (λ (m : Held × Step). step_passes S 1 m.0 m.1) (word_read S.rules word (held_at rows pending) (k, None) (full_option k) cut.0 cut.1 (option_found k any)))

  turn_value : (v k : Text) (rows : List Row) → is_value v ≡ true → list_any (bytes_eq k) option_ids ≡ true → turn_passes S [] (waiting_at rows k) v ≡ true
  turn_value v k rows value any =
      both _ _
      (ap (λ t. t || flag_word_passes S.rules S.args_override_self (long_of v) v (held_at rows (Some (k, [])))) (value_plain v value)
      ∙ ap (λ o. flag_word_passes S.rules S.args_override_self o v (held_at rows (Some (k, [])))) (value_long v value)
      ∙ ap (λ o. option_map_or (λ flags. bundle_passes S.rules S.args_override_self flags (held_at rows (Some (k, [])))) o true) (value_short v value))
      (ap (λ (m : Held × Step). step_passes S 1 m.0 m.1) (value_read S.rules v k rows value (option_known k any)))

  turn_whole : (word : Text) (part : PartText) (rows : List Row) (pending : Option (Text × List Text)) → whole_part word ≡ Some part → is_known part ≡ true
      → Settles rows pending → has_row (drop 2 part.0) (settled_rows S.rules pending rows) ≡ false → turn_passes S [] (at rows pending) word ≡ true
  turn_whole word (name, None) rows pending whole known settles none =
      let c = whole_cut word (name, None) whole known in turn_flag word (drop 2 name) rows pending c.0 c.1 settles none
  turn_whole word (name, Some value) rows pending whole known settles none =
      let c = whole_cut word (name, Some value) whole known in turn_with word (drop 2 name) value rows pending c.0 c.1 settles none

  -- the walk over words passes, and so does its end
  abbrev Ends : Walk → List Text → Type 0
  Ends w words = (walk_passes S [] w words ≡ true) × (settle_passes S.rules false (fold (walked S.rules []) w words).held ≡ true)
      × ((fold (walked S.rules []) w words).stopped ≡ None)

  abbrev Passes : List Text → List PartText → Type 0
  Passes words parts = (rows : List Row) (pending : Option (Text × List Text)) → list_all is_known parts ≡ true → are_distinct (part_names parts) ≡ true
      → AreNew (settled_rows S.rules pending rows) parts → Settles rows pending → Ends (at rows pending) words

  step_on : (w v : Walk) (word : Text) (words : List Text) → turn_passes S [] w word ≡ true → walked S.rules [] w word ≡ v → Ends v words → Ends w (word ∷ words)
  unfolding walk_passes
  step_on w v word words turn is ends = (
    both _ _ turn (ap (λ x. walk_passes S [] x words) is ∙ ends.0),
    ap (λ x. settle_passes S.rules false (fold (walked S.rules []) x words).held) is ∙ ends.1,
    ap (λ (x : Walk). (fold (walked S.rules []) x words).stopped) is ∙ ends.2,
  )

  no_words : Passes [] []
  unfolding walk_passes
  no_words rows pending known distinct new settles = (refl, settles, refl)

  one_word : (word : Text) (part : PartText) (words : List Text) (parts : List PartText) → whole_part word ≡ Some part → Passes words parts → Passes (word ∷ words) (part ∷ parts)
  one_word word part words parts whole behind rows pending known distinct new settles =
      let k = and_true (is_known part) (list_all is_known parts) known in
      let d = and_true (not (list_any (bytes_eq part.0) (part_names parts))) (are_distinct (part_names parts)) distinct in
      let name = known_name part k.0 in
      let none = new_here (settled_rows S.rules pending rows) part parts name.0 name.1 new in
      let same_id : name.0 ≡ drop 2 part.0 = sym (ap (drop 2) name.1) in
      step_on (at rows pending) (at (applied (settled_rows S.rules pending rows) part) None) word words
      (turn_whole word part rows pending whole k.0 settles (ap (λ i. has_row i (settled_rows S.rules pending rows)) (sym same_id) ∙ none))
      (whole_step S.rules flag_found option_found option_known word part rows pending whole k.0)
      (behind (applied (settled_rows S.rules pending rows) part) None k.1 d.1 (still_new (settled_rows S.rules pending rows) part parts k.0 distinct new) refl)

  two_words : (word value : Text) (words : List Text) (parts : List PartText) → is_value value ≡ true → Passes words parts
      → Passes (word ∷ value ∷ words) ((word, Some value) ∷ parts)
  two_words word value words parts is_val behind rows pending known distinct new settles =
      let part : PartText = (word, Some value) in
      let k = and_true (is_known part) (list_all is_known parts) known in
      let d = and_true (not (list_any (bytes_eq word) (part_names parts))) (are_distinct (part_names parts)) distinct in
      let name = known_name part k.0 in
      let rows1 = settled_rows S.rules pending rows in
      let same_id : name.0 ≡ drop 2 word = sym (ap (drop 2) name.1) in
      let none = ap (λ i. has_row i rows1) (sym same_id) ∙ new_here rows1 part parts name.0 name.1 new in
      let c = name_cut word value k.0 in
      step_on (at rows pending) (waiting_at rows1 (drop 2 word)) word (value ∷ words) (turn_name word (drop 2 word) rows pending c.0 c.1 settles)
      (step_name S.rules word (drop 2 word) rows pending c.0.0 c.0.1 (option_found (drop 2 word) c.1))
      (step_on (waiting_at rows1 (drop 2 word)) (at rows1 (Some (drop 2 word, value ∷ []))) value words (turn_value value (drop 2 word) rows1 is_val c.1)
      (step_value S.rules value (drop 2 word) rows1 is_val (option_known (drop 2 word) c.1))
      (behind rows1 (Some (drop 2 word, value ∷ [])) k.1 d.1
      (subst (λ rs. AreNew rs parts) (sym (pair_settles S.rules flag_found option_found option_known word value rows1 k.0)) (still_new rows1 part parts k.0 distinct new))
      (ap (λ o. option_map_or (λ a. use_passes false a (value ∷ []) rows1) o true) (option_known (drop 2 word) c.1) ∙ option_passes (drop 2 word) value rows1 none)))

  pub words_pass : (words : List Text) (parts : List PartText) → parts_of words ≡ Some parts → are_known_once parts ≡ true → Ends (at [] None) words
  words_pass words parts is once =
      let k = and_true (list_all is_known parts) (are_distinct (part_names parts)) once in
      parts_induction Passes no_words one_word two_words words parts is [] None k.0 k.1 (λ n any. refl) refl

-- ---- the whole

list_both : (p : Rule → Bool) (fs os : List Text) → ((k : Text) → p (full_flag k) ≡ true) → ((k : Text) → p (full_option k) ≡ true) → list_all p (rules fs os) ≡ true
list_both p [] [] flag option = refl
list_both p [] (o ∷ os) flag option = both _ _ (option o) (list_both p [] os flag option)
list_both p (f ∷ fs) os flag option = both _ _ (flag f) (list_both p fs os flag option)

all_pass : (p : Rule → Bool) → ((k : Text) → p (full_flag k) ≡ true) → ((k : Text) → p (full_option k) ≡ true) → list_all p (built command).top.rules ≡ true
all_pass p flag option = ap (list_all p) built_rules ∙ list_both p flag_ids option_ids flag option

pub takes_words : (words : List Text) (parts : List PartText) → parts_of words ≡ Some parts → are_known_once parts ≡ true → takes command words ≡ true
takes_words words parts is once =
    let S = (built command).top in
    let ends = words_pass S refl (λ k any. ap (λ R. arg_by_long R k) built_rules ∙ flag_at flag_ids option_ids k any)
    (λ k any. ap (λ R. arg_by_long R k) built_rules ∙ option_at flag_ids option_ids k any (option_no_flag_id k any))
    (λ k any. ap (λ R. arg_by_id R k) built_rules ∙ option_by flag_ids option_ids k any (option_no_flag_id k any)) words parts is once in
    let end = (walk S.rules [] nothing_held words).held in
    both _ _ command_simple
    (ap (λ stop. entered_passes (built command) stop && level_passes S [] nothing_held words (is_some (entered (built command) stop))) ends.2
    ∙ both _ _ ends.0 (both _ _ ends.1 (both _ _ (all_pass default_passes (λ k. refl) (λ k. refl))
    (both _ _ (all_pass (λ a. a.is_free) (λ k. refl) (λ k. refl)) (all_pass (λ a. not a.required || is_given a.id (finished S.rules end)) (λ k. refl) (λ k. refl))))))

-- words of the shape are taken
pub shape_taken : (words : List Text) → of_parts are_known_once words ≡ true → takes command words ≡ true
shape_taken words shape = by (parts_of words) refl
  where
    test : Option (List PartText) → Bool
    test o = option_map_or are_known_once o false

    by : (o : Option (List PartText)) → parts_of words ≡ o → takes command words ≡ true
    by None e = absurd (true≢false (sym shape ∙ ap test e))
    by (Some parts) e = takes_words words parts e (sym (ap test e) ∙ shape)
