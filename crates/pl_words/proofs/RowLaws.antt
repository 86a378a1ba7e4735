-- The rows of matches, by their ids.
use Rattle.std.proofs.Common.{◌≡◌, Bool, true, false, not, cond, if◌then◌else◌, ◌||◌, List, [], ◌∷◌, ◌++◌, map, drop, refl, sym, ◌∙◌, ap, true≢false}
use Rattle.std.specs.Prelude.{Option, Some, None, find, is_some, unwrap_or, codes, slice_get}
use Rattle.std.specs.List.{fold, list_all, list_any}
use Rattle.std.specs.Option.{option_map, option_and_then}
use Rattle.std.specs.Str.{bytes_eq}
use Rattle.std.proofs.lemmas.List.Sums.{fold-append}
use Rattle.clap.specs.Simple.{filled, with_index}
use Rattle.clap.specs.Walk.{Row, Rule, at_row, default_rows, first_of, has_row, more_values, one_of, reading_by, row_text, used, with_default, with_values, without}
use Rattle.clap.specs.declared.builder.action.ArgAction.TheVariants.{Set, SetTrue}
use Rattle.clap.specs.declared.builder.value_parser.Reading.{Reading}
use Rattle.clap.specs.declared.parser.matches.ValueSource.{ValueSource}
use Rattle.clap.specs.declared.parser.matches.ValueSource.TheVariants.{DefaultValue, CommandLine}
use Rattle.pl_words.specs.Arguments.{rule_named}
use Rattle.pl_words.specs.Parts.{PartText, flags, options, is_known, part_names, value_under, has_name}
use Rattle.pl_words.specs.SchemaText.{are_distinct}
use Rattle.pl_words.proofs.IdLaws.{Text, dashed, and_true, or_false, not_true, same, itself, flipped, flag_named, option_named}

-- an option and a flag, as they are built
abbrev pub full_option : Text → Rule
full_option id = with_index 1 (filled (rule_named Set id))

abbrev pub full_flag : Text → Rule
full_flag id = with_index 1 (filled (rule_named SetTrue id))

-- the row of an id
abbrev pub row_under : Text → List Row → Option Row
row_under id rows = find (λ r. bytes_eq r.id id) rows

-- ---- one row changed

at_row-other : (id n : Text) (change : Row → List Row) (missing : List Row) (rows : List Row) → bytes_eq n id ≡ false
    → ((r : Row) (rs : List Row) → bytes_eq r.id id ≡ false → row_under id (change r ++ rs) ≡ row_under id rs) → row_under id missing ≡ None
    → row_under id (at_row n change missing rows) ≡ row_under id rows
at_row-other id n change missing [] other kept none = none
at_row-other id n change missing (r ∷ rs) other kept none = by (bytes_eq r.id n) refl (at_row-other id n change missing rs other kept none)
  where
    by : (t : Bool) → bytes_eq r.id n ≡ t → row_under id (at_row n change missing rs) ≡ row_under id rs
        → row_under id (at_row n change missing (r ∷ rs)) ≡ row_under id (r ∷ rs)
    by true e deeper =
        let miss : bytes_eq r.id id ≡ false = ap (λ x. bytes_eq x id) (same r.id n e) ∙ other in
        ap (λ t. row_under id (if t then change r ++ rs else r ∷ at_row n change missing rs)) e
        ∙ kept r rs miss ∙ sym (ap (λ t. cond t (Some r) (row_under id rs)) miss)
    by false e deeper =
        ap (λ t. row_under id (if t then change r ++ rs else r ∷ at_row n change missing rs)) e
        ∙ ap (λ o. cond (bytes_eq r.id id) (Some r) o) deeper

with_values-other : (id n : Text) (how : Reading) (s : ValueSource) (vs : List Text) (rows : List Row) → bytes_eq n id ≡ false
    → row_under id (with_values n how s vs rows) ≡ row_under id rows
with_values-other id n how s vs rows other =
    at_row-other id n (more_values s vs) (record { id = n; values = vs; count = None; source = Some s; reading = how } ∷ []) rows other
    (λ r rs miss. ap (λ t. cond t (Some (record r { values = r.values ++ vs; source = Some (Rattle.clap.specs.Walk.stronger r.source s) })) (row_under id rs)) miss)
    (ap (λ t. cond t (Some (record { id = n; values = vs; count = None; source = Some s; reading = how })) None) other)

without-other : (id n : Text) (rows : List Row) → bytes_eq n id ≡ false → row_under id (without n rows) ≡ row_under id rows
without-other id n rows other = at_row-other id n (λ _. []) [] rows other (λ r rs miss. refl) refl

at_row-new : (id : Text) (change : Row → List Row) (missing : List Row) (rows : List Row) → row_under id rows ≡ None
    → row_under id (at_row id change missing rows) ≡ row_under id missing
at_row-new id change missing [] none = refl
at_row-new id change missing (r ∷ rs) none = by (bytes_eq r.id id) refl (at_row-new id change missing rs)
  where
    by : (t : Bool) → bytes_eq r.id id ≡ t → (row_under id rs ≡ None → row_under id (at_row id change missing rs) ≡ row_under id missing)
        → row_under id (at_row id change missing (r ∷ rs)) ≡ row_under id missing
    by true e deeper = let bad : Some r ≡ None = sym (ap (λ t. cond t (Some r) (row_under id rs)) e) ∙ none in cc
    by false e deeper =
        ap (λ t. row_under id (if t then change r ++ rs else r ∷ at_row id change missing rs)) e
        ∙ ap (λ t. cond t (Some r) (row_under id (at_row id change missing rs))) e
        ∙ deeper (sym (ap (λ t. cond t (Some r) (row_under id rs)) e) ∙ none)

with_values-new : (id : Text) (how : Reading) (s : ValueSource) (vs : List Text) (rows : List Row) → row_under id rows ≡ None
    → row_under id (with_values id how s vs rows) ≡ Some (record { id = id; values = vs; count = None; source = Some s; reading = how })
with_values-new id how s vs rows none =
    at_row-new id (more_values s vs) (record { id = id; values = vs; count = None; source = Some s; reading = how } ∷ []) rows none
    ∙ ap (λ t. cond t (Some (record { id = id; values = vs; count = None; source = Some s; reading = how })) None) (itself id)

without-new : (id : Text) (rows : List Row) → row_under id rows ≡ None → row_under id (without id rows) ≡ None
without-new id rows none = at_row-new id (λ _. []) [] rows none

pub has_row-is : (id : Text) (rows : List Row) → has_row id rows ≡ is_some (row_under id rows)
has_row-is id [] = refl
has_row-is id (r ∷ rs) = by (bytes_eq r.id id) (has_row-is id rs)
  where
    by : (t : Bool) → has_row id rs ≡ is_some (row_under id rs) → (t || has_row id rs) ≡ is_some (cond t (Some r) (row_under id rs))
    by true deeper = refl
    by false deeper = deeper

-- ---- the parts

-- the row of a part
abbrev pub row_of_part : PartText → Row
row_of_part (name, None) =
    record { id = drop 2 name; values = codes "true" ∷ []; count = None; source = Some CommandLine; reading = reading_by (full_flag (drop 2 name)) }
row_of_part (name, Some value) =
    record { id = drop 2 name; values = value ∷ []; count = None; source = Some CommandLine; reading = reading_by (full_option (drop 2 name)) }

-- the rows with one part more
abbrev pub applied : List Row → PartText → List Row
applied rows (name, None) = used (full_flag (drop 2 name)) [] rows
applied rows (name, Some value) = used (full_option (drop 2 name)) (value ∷ []) rows

-- the part of a name
abbrev pub part_under : Text → List PartText → Option PartText
part_under name parts = find (λ p. bytes_eq name p.0) parts

pub known_name : (p : PartText) → is_known p ≡ true → (k : Text) × (p.0 ≡ dashed k)
known_name (name, None) known = let d = flag_named name known in (d.0, d.1)
known_name (name, Some value) known =
    let d = option_named name (and_true (list_any (bytes_eq name) options) _ known).0 in (d.0, d.1)

other_id : (n name k : Text) → name ≡ dashed k → bytes_eq (dashed n) name ≡ false → bytes_eq (drop 2 name) n ≡ false
other_id n name k is e = ap (λ x. bytes_eq (drop 2 x) n) is ∙ flipped n k false (sym (ap (λ x. bytes_eq (dashed n) x) is) ∙ e)

pub applied-other : (n : Text) (rows : List Row) (p : PartText) → is_known p ≡ true → bytes_eq (dashed n) p.0 ≡ false
    → row_under n (applied rows p) ≡ row_under n rows
applied-other n rows (name, None) known e =
    let d = known_name (name, None) known in
    let other = other_id n name d.0 d.1 e in
    with_values-other n (drop 2 name) _ CommandLine (codes "true" ∷ []) (without (drop 2 name) rows) other ∙ without-other n (drop 2 name) rows other
applied-other n rows (name, Some value) known e =
    let d = known_name (name, Some value) known in
    let other = other_id n name d.0 d.1 e in
    with_values-other n (drop 2 name) _ CommandLine (value ∷ []) (without (drop 2 name) rows) other ∙ without-other n (drop 2 name) rows other

applied-own : (n : Text) (rows : List Row) (p : PartText) → n ≡ drop 2 p.0 → row_under n rows ≡ None → row_under n (applied rows p) ≡ Some (row_of_part p)
applied-own n rows (name, None) is none =
    let new = sym (ap (λ x. row_under x rows) is) ∙ none in
    ap (λ x. row_under x (applied rows (name, None))) is
    ∙ with_values-new (drop 2 name) _ CommandLine (codes "true" ∷ []) (without (drop 2 name) rows) (without-new (drop 2 name) rows new)
applied-own n rows (name, Some value) is none =
    let new = sym (ap (λ x. row_under x rows) is) ∙ none in
    ap (λ x. row_under x (applied rows (name, Some value))) is
    ∙ with_values-new (drop 2 name) _ CommandLine (value ∷ []) (without (drop 2 name) rows) (without-new (drop 2 name) rows new)

parts-kept : (n : Text) (parts : List PartText) (rows : List Row) → list_all is_known parts ≡ true → list_any (bytes_eq (dashed n)) (part_names parts) ≡ false
    → row_under n (fold applied rows parts) ≡ row_under n rows
parts-kept n [] rows known miss = refl
parts-kept n (p ∷ ps) rows known miss =
    let k = and_true (is_known p) (list_all is_known ps) known in
    let o = or_false (bytes_eq (dashed n) p.0) (list_any (bytes_eq (dashed n)) (part_names ps)) miss in
    parts-kept n ps (applied rows p) k.1 o.1 ∙ applied-other n rows p k.0 o.0

-- the row of an id is that of the part of its name
pub parts-given : (n : Text) (parts : List PartText) (rows : List Row) → list_all is_known parts ≡ true → are_distinct (part_names parts) ≡ true
    → row_under n rows ≡ None → row_under n (fold applied rows parts) ≡ option_map row_of_part (part_under (dashed n) parts)
parts-given n [] rows known distinct none = none
parts-given n (p ∷ ps) rows known distinct none = by (bytes_eq (dashed n) p.0) refl (parts-given n ps (applied rows p) k.1 d.1)
  where
    k : (is_known p ≡ true) × (list_all is_known ps ≡ true)
    k = and_true (is_known p) (list_all is_known ps) known

    d : (not (list_any (bytes_eq p.0) (part_names ps)) ≡ true) × (are_distinct (part_names ps) ≡ true)
    d = and_true (not (list_any (bytes_eq p.0) (part_names ps))) (are_distinct (part_names ps)) distinct

    by : (t : Bool) → bytes_eq (dashed n) p.0 ≡ t
        → (row_under n (applied rows p) ≡ None → row_under n (fold applied (applied rows p) ps) ≡ option_map row_of_part (part_under (dashed n) ps))
        → row_under n (fold applied (applied rows p) ps) ≡ option_map row_of_part (cond (bytes_eq (dashed n) p.0) (Some p) (part_under (dashed n) ps))
    by true e deeper =
        let is : dashed n ≡ p.0 = same (dashed n) p.0 e in
        parts-kept n ps (applied rows p) k.1 (ap (λ x. list_any (bytes_eq x) (part_names ps)) is ∙ not_true _ d.0)
        ∙ applied-own n rows p (ap (drop 2) is) none
        ∙ sym (ap (λ t. option_map row_of_part (cond t (Some p) (part_under (dashed n) ps))) e)
    by false e deeper =
        deeper (applied-other n rows p k.0 e ∙ none) ∙ sym (ap (λ t. option_map row_of_part (cond t (Some p) (part_under (dashed n) ps))) e)

-- ---- the defaults

-- the row of a flag that is not there
abbrev pub default_row : Text → Row
default_row id = record { id = id; values = codes "false" ∷ []; count = None; source = Some DefaultValue; reading = reading_by (full_flag id) }

options-keep : (ids : List Text) (rows : List Row) → fold with_default rows (map full_option ids) ≡ rows
options-keep [] rows = refl
options-keep (i ∷ is) rows = ap (λ rs. fold with_default rs (map full_option is)) (by (has_row i rows)) ∙ options-keep is rows
  where
    by : (t : Bool) → (if t then rows else rows) ≡ rows
    by true = refl
    by false = refl

flag-other : (n m : Text) (rows : List Row) → bytes_eq m n ≡ false → row_under n (with_default rows (full_flag m)) ≡ row_under n rows
flag-other n m rows other = by (has_row m rows)
  where
    by : (t : Bool) → row_under n (if t then rows else with_values m (reading_by (full_flag m)) DefaultValue (codes "false" ∷ []) rows) ≡ row_under n rows
    by true = refl
    by false = with_values-other n m _ DefaultValue (codes "false" ∷ []) rows other

flag-own : (n : Text) (rows : List Row) → row_under n (with_default rows (full_flag n)) ≡ Some (unwrap_or (row_under n rows) (default_row n))
flag-own n rows = by (row_under n rows) refl
  where
    answer : Bool → Option Row
    answer t = row_under n (if t then rows else with_values n (reading_by (full_flag n)) DefaultValue (codes "false" ∷ []) rows)

    by : (o : Option Row) → row_under n rows ≡ o → row_under n (with_default rows (full_flag n)) ≡ Some (unwrap_or (row_under n rows) (default_row n))
    by None e =
        ap answer (has_row-is n rows ∙ ap is_some e) ∙ with_values-new n _ DefaultValue (codes "false" ∷ []) rows e
        ∙ sym (ap (λ o. Some (unwrap_or o (default_row n))) e)
    by (Some r) e =
        ap answer (has_row-is n rows ∙ ap is_some e) ∙ e ∙ sym (ap (λ o. Some (unwrap_or o (default_row n))) e)

flags-keep : (ids : List Text) (n : Text) (rows : List Row) (r : Row) → row_under n rows ≡ Some r → row_under n (fold with_default rows (map full_flag ids)) ≡ Some r
flags-keep [] n rows r is = is
flags-keep (m ∷ ms) n rows r is = flags-keep ms n (with_default rows (full_flag m)) r (by (bytes_eq m n) refl)
  where
    by : (t : Bool) → bytes_eq m n ≡ t → row_under n (with_default rows (full_flag m)) ≡ Some r
    by true e =
        ap (λ x. row_under n (with_default rows (full_flag x))) (same m n e) ∙ flag-own n rows ∙ ap (λ o. Some (unwrap_or o (default_row n))) is
    by false e = flag-other n m rows e ∙ is

flags-miss : (ids : List Text) (n : Text) (rows : List Row) → list_any (bytes_eq n) ids ≡ false → row_under n (fold with_default rows (map full_flag ids)) ≡ row_under n rows
flags-miss [] n rows miss = refl
flags-miss (m ∷ ms) n rows miss =
    let o = or_false (bytes_eq n m) (list_any (bytes_eq n) ms) miss in
    flags-miss ms n (with_default rows (full_flag m)) o.1 ∙ flag-other n m rows (flipped n m false o.0)

flags-end : (ids : List Text) (n : Text) (rows : List Row) → list_any (bytes_eq n) ids ≡ true
    → row_under n (fold with_default rows (map full_flag ids)) ≡ Some (unwrap_or (row_under n rows) (default_row n))
flags-end [] n rows any = absurd (true≢false (sym any))
flags-end (m ∷ ms) n rows any = by (bytes_eq n m) refl (flags-end ms n (with_default rows (full_flag m)))
  where
    by : (t : Bool) → bytes_eq n m ≡ t
        → (list_any (bytes_eq n) ms ≡ true → row_under n (fold with_default (with_default rows (full_flag m)) (map full_flag ms))
        ≡ Some (unwrap_or (row_under n (with_default rows (full_flag m))) (default_row n)))
        → row_under n (fold with_default (with_default rows (full_flag m)) (map full_flag ms)) ≡ Some (unwrap_or (row_under n rows) (default_row n))
    by true e deeper =
        flags-keep ms n (with_default rows (full_flag m)) _
        (ap (λ x. row_under n (with_default rows (full_flag x))) (sym (same n m e)) ∙ flag-own n rows)
    by false e deeper =
        deeper (sym (ap (λ t. t || list_any (bytes_eq n) ms) e) ∙ any)
        ∙ ap (λ o. Some (unwrap_or o (default_row n))) (flag-other n m rows (flipped n m false e))

-- ---- what is read

value-found : (name : Text) (parts : List PartText) → list_all is_known parts ≡ true → list_any (bytes_eq name) flags ≡ false
    → option_and_then (λ (r : Row). slice_get r.values 0) (option_map row_of_part (part_under name parts)) ≡ value_under name parts
value-found name [] known miss = refl
value-found name (p ∷ ps) known miss = by (bytes_eq name p.0) refl p k.0 refl (value-found name ps k.1 miss)
  where
    k : (is_known p ≡ true) × (list_all is_known ps ≡ true)
    k = and_true (is_known p) (list_all is_known ps) known

    reads : Option PartText → Option Text
    reads o = option_and_then (λ (r : Row). slice_get r.values 0) (option_map row_of_part o)

    by : (t : Bool) → bytes_eq name p.0 ≡ t → (q : PartText) → is_known q ≡ true → p ≡ q → reads (part_under name ps) ≡ value_under name ps
        → reads (cond (bytes_eq name p.0) (Some p) (part_under name ps)) ≡ (if bytes_eq name p.0 then p.1 else value_under name ps)
    by true e (n, None) known is deeper =
        let flag : list_any (bytes_eq name) flags ≡ true = ap (λ x. list_any (bytes_eq x) flags) (same name p.0 e ∙ ap (λ (x : PartText). x.0) is) ∙ known in
        absurd (true≢false (sym flag ∙ miss))
    by true e (n, Some v) known is deeper =
        ap (λ t. reads (cond t (Some p) (part_under name ps))) e ∙ ap (λ x. reads (Some x)) is
        ∙ sym (ap (λ t. if t then p.1 else value_under name ps) e ∙ ap (λ (x : PartText). x.1) is)
    by false e q known is deeper =
        ap (λ t. reads (cond t (Some p) (part_under name ps))) e ∙ deeper ∙ sym (ap (λ t. if t then p.1 else value_under name ps) e)

flag-found : (n name : Text) (parts : List PartText) → list_all is_known parts ≡ true → list_any (bytes_eq name) options ≡ false
    → option_and_then row_text (Some (unwrap_or (option_map row_of_part (part_under name parts)) (default_row n)))
    ≡ Some (if has_name name parts then codes "true" else codes "false")
flag-found n name [] known miss = refl
flag-found n name (p ∷ ps) known miss = by (bytes_eq name p.0) refl p k.0 refl (flag-found n name ps k.1 miss)
  where
    k : (is_known p ≡ true) × (list_all is_known ps ≡ true)
    k = and_true (is_known p) (list_all is_known ps) known

    reads : Option PartText → Option Text
    reads o = option_and_then row_text (Some (unwrap_or (option_map row_of_part o) (default_row n)))

    answer : Bool → Option Text
    answer t = Some (if t then codes "true" else codes "false")

    by : (t : Bool) → bytes_eq name p.0 ≡ t → (q : PartText) → is_known q ≡ true → p ≡ q → reads (part_under name ps) ≡ answer (has_name name ps)
        → reads (cond (bytes_eq name p.0) (Some p) (part_under name ps)) ≡ answer (bytes_eq name p.0 || has_name name ps)
    by true e (m, Some v) known is deeper =
        let option : list_any (bytes_eq name) options ≡ true =
        ap (λ x. list_any (bytes_eq x) options) (same name p.0 e ∙ ap (λ (x : PartText). x.0) is) ∙ (and_true (list_any (bytes_eq m) options) _ known).0 in
        absurd (true≢false (sym option ∙ miss))
    by true e (m, None) known is deeper =
        ap (λ t. reads (cond t (Some p) (part_under name ps))) e ∙ ap (λ x. reads (Some x)) is
        ∙ sym (ap (λ t. answer (t || has_name name ps)) e)
    by false e q known is deeper =
        ap (λ t. reads (cond t (Some p) (part_under name ps))) e ∙ deeper ∙ sym (ap (λ t. answer (t || has_name name ps)) e)

-- the rows that the parts leave, with the defaults
abbrev pub rows_of_parts : List Text → List Text → List PartText → List Row
rows_of_parts fs os parts = fold with_default (fold applied [] parts) (map full_flag fs ++ map full_option os)

without_options : (fs os : List Text) (parts : List PartText) → rows_of_parts fs os parts ≡ fold with_default (fold applied [] parts) (map full_flag fs)
without_options fs os parts = fold-append with_default (fold applied [] parts) (map full_flag fs) (map full_option os) ∙ options-keep os _

-- what is read of an option
pub option_read : (fs os : List Text) (n : Text) (parts : List PartText) → list_all is_known parts ≡ true → are_distinct (part_names parts) ≡ true
    → list_any (bytes_eq n) fs ≡ false → list_any (bytes_eq (dashed n)) flags ≡ false
    → first_of n (rows_of_parts fs os parts) ≡ value_under (dashed n) parts
option_read fs os n parts known distinct miss none =
    ap (λ rs. first_of n rs) (without_options fs os parts)
    ∙ ap (λ o. option_and_then (λ (r : Row). slice_get r.values 0) o) (flags-miss fs n (fold applied [] parts) miss ∙ parts-given n parts [] known distinct refl)
    ∙ value-found (dashed n) parts known none

-- what is read of a flag
pub flag_read : (fs os : List Text) (n : Text) (parts : List PartText) → list_all is_known parts ≡ true → are_distinct (part_names parts) ≡ true
    → list_any (bytes_eq n) fs ≡ true → list_any (bytes_eq (dashed n)) options ≡ false
    → one_of n (rows_of_parts fs os parts) ≡ Some (if has_name (dashed n) parts then codes "true" else codes "false")
flag_read fs os n parts known distinct any none =
    ap (λ rs. one_of n rs) (without_options fs os parts)
    ∙ ap (λ o. option_and_then row_text o)
    (flags-end fs n (fold applied [] parts) any ∙ ap (λ o. Some (unwrap_or o (default_row n))) (parts-given n parts [] known distinct refl))
    ∙ flag-found n (dashed n) parts known none
