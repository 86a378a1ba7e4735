-- The settled records of what a state stands for.
use Rattle.std.proofs.Common.{◌≡◌, ℕ, zero, suc, ◌+◌, ◌<◌, ◌≤◌, Bool, true, false, cond, not, ◌&&◌, ◌==◌, List, [], ◌∷◌, ◌++◌, length, take, drop, Option, None, Some, refl, sym, ◌∙◌, ap, subst, arith, append_assoc, append-nil, length-append, nat_le, nat_lt}
use Rattle.std.specs.Prelude.{IfSome, filter, unwrap_or}
use Rattle.std.specs.List.{filter_map, prefix_len}
use Rattle.std.proofs.lemmas.Bool.Decides.{nat_tests}
use Rattle.std.proofs.lemmas.List.{take_all}
use Rattle.std.proofs.lemmas.List.Elements.{filter-append}
use Rattle.pl_frame.specs.Dialect.{Marks, IsDialect}
use Rattle.pl_options.specs.declared.parse_options.CsvParseOptions.{CsvParseOptions}
use Rattle.pl_options.specs.declared.read_options.CsvReadOptions.{CsvReadOptions}
use Rattle.pl_options.specs.Text.{marks_of, comment_of}
use Rattle.pl_read.specs.Options.{data_of}
use Rattle.pl_rows.specs.Ranges.{limited}
use Rattle.pl_scan.specs.Fields.{fields}
use Rattle.pl_scan.specs.Items.{ItemText, CommentText, RecordText, items_behind}
use Rattle.pl_scan.proofs.AppendLaws.{HaveBehind, HaveBehind-closed}
use Rattle.pl_table.specs.Rows.{Row, row_of, rows}
use Rattle.pl_stream.specs.Settled.{has_lines, is_whole, tells_head, rows_so_far, settled_rows}
use Rattle.pl_scan.specs.Start.{skip_line, cut_ends, pass_items}
use Rattle.pl_stream.specs.declared.head.Reached.{Reached}
use Rattle.pl_stream.specs.declared.place.Place.{Place}
use Rattle.pl_stream.specs.declared.place.Place.TheVariants as place
use Rattle.pl_stream.specs.Head.{IsReached, HasNoStep}
use Rattle.pl_stream.specs.Stream.{IsAtRecords, IsInHead, data_at, head_at, lines_at, head_left, behind_header, behind_items, behind_ends}
use Rattle.pl_stream.specs.Whole.{AreWholeItems, HasNoWholeItem}
use Rattle.pl_stream.proofs.SettledLaws.{broken-none, stuck-none, limited-nil}
use Rattle.pl_stream.proofs.StayLaws.{IsStuck, broken-nil, items-stuck, tail-stuck, stuck-items}
use Rattle.pl_stream.proofs.WholeItemLaws.{rows-whole, whole-nil, whole-append}

-- a line end stands behind each record of whole items
each-whole : (m : Marks) (parts : List (ItemText × List ℕ)) → HaveBehind parts → filter is_whole (filter_map (row_of m) parts) ≡ filter_map (row_of m) parts
each-whole m [] have = refl
each-whole m ((CommentText text, behind) ∷ parts) have = each-whole m parts have.1
each-whole m ((RecordText text, behind) ∷ parts) have =
    let some : 0 < length behind = have.0 in
    let none : (length behind == 0) ≡ false = grind (arith, nat_tests, some) in
    ap (λ t. filter is_whole (record { fields = fields m text; is_end = t } ∷ filter_map (row_of m) parts)) none
    ∙ ap (λ (others : List Row). record { fields = fields m text; is_end = false } ∷ others) (each-whole m parts have.1)
    ∙ ap (λ (t : Bool). record { fields = fields m text; is_end = t } ∷ filter_map (row_of m) parts) (sym none)

pub all-whole : (o : CsvParseOptions) (text : List ℕ) → IsDialect (marks_of o) (comment_of o) → AreWholeItems o text → filter is_whole (rows (marks_of o) (comment_of o) text) ≡ rows (marks_of o) (comment_of o) text
all-whole o text apart whole = each-whole (marks_of o) (items_behind (marks_of o) (comment_of o) text) (HaveBehind-closed (marks_of o) (comment_of o) text apart.distinct apart.prefix whole.ended whole.closed)

-- the whole records of whole items and of an item that is not whole behind them
pub whole-front : (o : CsvParseOptions) (text rest : List ℕ) → IsDialect (marks_of o) (comment_of o) → AreWholeItems o text → HasNoWholeItem o rest
    → filter is_whole (rows (marks_of o) (comment_of o) (text ++ rest)) ≡ rows (marks_of o) (comment_of o) text
whole-front o text rest apart whole broken =
    let m = marks_of o in
    let comment = comment_of o in
    ap (filter is_whole) (rows-whole o text rest apart whole) ∙ filter-append is_whole (rows m comment text) (rows m comment rest)
    ∙ ap (λ l. filter is_whole (rows m comment text) ++ l) (broken-none m comment rest broken) ∙ append-nil (filter is_whole (rows m comment text)) ∙ all-whole o text apart whole

few-limited : {X : Type 0} (limit : Option ℕ) (xs : List X) → IfSome limit (λ most. length xs ≤ most) → limited limit xs ≡ xs
few-limited None xs few = refl
few-limited (Some most) xs few = take_all most xs few

-- the settled records of what came are those that were counted
pub settled-are : (o : CsvReadOptions) (b kept : List ℕ) (count : ℕ) (at : IsAtRecords o b kept count) → IsDialect (marks_of o.parse_options) (comment_of o.parse_options) → tells_head o b ≡ true → HasNoWholeItem o.parse_options kept
    → IfSome o.n_rows (λ most. count ≤ most) → settled_rows o b ≡ rows (marks_of o.parse_options) (comment_of o.parse_options) at.records
settled-are o b kept count at apart told broken few =
    let m = marks_of o.parse_options in
    let comment = comment_of o.parse_options in
    let found : data_of o b ≡ Some (at.records ++ kept) = ap (data_of o) (sym (append-nil b)) ∙ at.data_is [] ∙ ap (λ l. Some (at.records ++ l)) (append-nil kept) in
    ap (λ t. cond t (limited o.n_rows (filter is_whole (rows_so_far o b))) []) told
    ∙ ap (λ given. limited o.n_rows (filter is_whole (rows m comment (unwrap_or given [])))) found
    ∙ ap (limited o.n_rows) (whole-front o.parse_options at.records kept apart at.are_whole broken)
    ∙ few-limited o.n_rows (rows m comment at.records) (by o.n_rows few)
  where
    by : (limit : Option ℕ) → IfSome limit (λ most. count ≤ most) → IfSome limit (λ most. length (rows (marks_of o.parse_options) (comment_of o.parse_options) at.records) ≤ most)
    by None h = tt
    by (Some most) h = omega (arith, h, at.count_is)

-- ---- within the head

-- more bytes bring the read on
pub head-moves : (o : CsvReadOptions) (b kept piece : List ℕ) (from : Place) (reached : Reached) → IsDialect (marks_of o.parse_options) (comment_of o.parse_options) → IsInHead o b from kept → IsReached o from (kept ++ piece) reached
    → IsInHead o (b ++ piece) reached.place (drop reached.at (kept ++ piece))
head-moves o b kept piece from reached apart old moved = record {
  data_is = λ more. ap (data_of o) (append_assoc b piece more) ∙ old.data_is (piece ++ more) ∙ ap (data_at o from) (sym (append_assoc kept piece more)) ∙ moved.stays more;
  lines_are = λ more. ap (has_lines o.parse_options.eol_char o.skip_lines) (append_assoc b piece more) ∙ old.lines_are (piece ++ more) ∙ ap (lines_at o from) (sym (append_assoc kept piece more)) ∙ moved.lines more;
  items = old.items ++ moved.items;
  whole = whole-append o.parse_options old.items moved.items apart old.whole moved.whole;
  head_is = λ more. ap (head_left o) (append_assoc b piece more) ∙ old.head_is (piece ++ more)
      ∙ ap (λ l. old.items ++ l) (ap (head_at o from) (sym (append_assoc kept piece more)) ∙ moved.head more)
      ∙ sym (append_assoc old.items moved.items (head_at o reached.place (drop reached.at (kept ++ piece) ++ more)));
}

-- a state that only has its first bytes is within the head
pub head-start : (o : CsvReadOptions) (b : List ℕ) → IsInHead o b place.Start b
head-start o b = record { data_is = λ more. refl; lines_are = λ more. refl; items = []; whole = whole-nil o.parse_options; head_is = λ more. refl }

-- lines that can't be skipped
no-lines : (e n : ℕ) (b : List ℕ) → 0 < n → has_lines e 1 b ≡ false → has_lines e n b ≡ false
no-lines e zero b some none = absurd (omega arith)
no-lines e (suc n) b some none = by (nat_lt (prefix_len (λ x. not (x == e)) b + 1) (length b)) none
  where
    by : (t : Bool) → (t && true) ≡ false → (t && has_lines e n (skip_line e b)) ≡ false
    by true h = absurd (cc)
    by false h = refl

-- where no data can be told whole, no record is settled
pub none-settled : (o : CsvReadOptions) (b : List ℕ) → IsStuck (marks_of o.parse_options) (comment_of o.parse_options) (data_of o b) → settled_rows o b ≡ []
none-settled o b stuck = by (tells_head o b)
  where
    by : (t : Bool) → cond t (limited o.n_rows (filter is_whole (rows_so_far o b))) [] ≡ []
    by true = ap (limited o.n_rows) (stuck-none o b stuck) ∙ limited-nil o.n_rows
    by false = refl

pub none-told : (o : CsvReadOptions) (b : List ℕ) → tells_head o b ≡ false → settled_rows o b ≡ []
none-told o b untold = ap (λ t. cond t (limited o.n_rows (filter is_whole (rows_so_far o b))) []) untold

-- within the head no record is settled, where bytes lead no further
pub head-none : (o : CsvReadOptions) (b kept : List ℕ) (at : Place) → IsDialect (marks_of o.parse_options) (comment_of o.parse_options) → IsInHead o b at kept → HasNoStep o at kept → (at ≡ place.Start → b ≡ kept)
    → (at ≡ place.Records → ⊥) → (at ≡ place.Full → ⊥) → settled_rows o b ≡ []
head-none o b kept place.Start apart is stops first not_records not_full =
    let short : length b < 4 = subst (λ l. length l < 4) (sym (first refl)) stops in
    let few : nat_le 4 (length b) ≡ false = grind (arith, nat_tests, short) in
    none-told o b (ap (λ t. t && has_lines o.parse_options.eol_char o.skip_lines b) few)
head-none o b kept (place.Lines n) apart is stops first not_records not_full =
    let none : has_lines o.parse_options.eol_char o.skip_lines b ≡ false =
    ap (has_lines o.parse_options.eol_char o.skip_lines) (sym (append-nil b)) ∙ is.lines_are [] ∙ ap (has_lines o.parse_options.eol_char n) (append-nil kept) ∙ no-lines o.parse_options.eol_char n kept stops.0 stops.1 in
    none-told o b (ap (λ t. nat_le 4 (length b) && t) none ∙ both-false (nat_le 4 (length b)))
  where
    both-false : (t : Bool) → (t && false) ≡ false
    both-false true = refl
    both-false false = refl
head-none o b kept place.Ends apart is stops first not_records not_full =
    let m = marks_of o.parse_options in
    let comment = comment_of o.parse_options in
    let found : data_of o b ≡ behind_items o o.skip_rows [] = ap (data_of o) (sym (append-nil b)) ∙ is.data_is [] ∙ ap (behind_ends o) (append-nil kept ∙ stops.1) ∙ ap (λ t. behind_items o o.skip_rows (cond t [] (cut_ends o.parse_options.eol_char []))) stops.0 in
    none-settled o b (subst (IsStuck m comment) (sym found) (stuck-items o apart o.skip_rows [] (broken-nil m comment apart.prefix)))
head-none o b kept (place.Rows n) apart is stops first not_records not_full =
    let found : data_of o b ≡ behind_items o n kept = ap (data_of o) (sym (append-nil b)) ∙ is.data_is [] ∙ ap (behind_items o n) (append-nil kept) in
    none-settled o b (subst (IsStuck (marks_of o.parse_options) (comment_of o.parse_options)) (sym found) (stuck-items o apart n kept stops.1))
head-none o b kept place.Header apart is stops first not_records not_full =
    let found : data_of o b ≡ behind_header o kept = ap (data_of o) (sym (append-nil b)) ∙ is.data_is [] ∙ ap (behind_header o) (append-nil kept) in
    none-settled o b (subst (IsStuck (marks_of o.parse_options) (comment_of o.parse_options)) (sym found) (tail-stuck o apart kept stops))
head-none o b kept (place.Behind n) apart is stops first not_records not_full =
    let m = marks_of o.parse_options in
    let comment = comment_of o.parse_options in
    let found : data_of o b ≡ pass_items m comment n kept = ap (data_of o) (sym (append-nil b)) ∙ is.data_is [] ∙ ap (pass_items m comment n) (append-nil kept) in
    none-settled o b (subst (IsStuck m comment) (sym found) (items-stuck m comment apart.prefix n kept stops.1))
head-none o b kept place.Records apart is stops first not_records not_full = absurd (not_records refl)
head-none o b kept place.Full apart is stops first not_records not_full = absurd (not_full refl)
