-- A range is open where it ends within a quoted field.
use Rattle.std.proofs.Common.{◌≡◌, ℕ, zero, suc, ◌+◌, ◌<◌, Bool, true, false, cond, not, ◌||◌, ◌==◌, List, [], ◌∷◌, length, take, drop, refl, sym, ◌∙◌, ap, arith, length-drop}
use Rattle.std.specs.Prelude.{Option, None, Some, take_while}
use Rattle.std.specs.List.{last_or, list_any, prefix_len}
use Rattle.std.proofs.lemmas.List.{length-take-le, drop-drop}
use Rattle.std.proofs.lemmas.List.Folds.{length-prefix_len}
use Rattle.pl_frame.specs.declared.error.FaultKind.{FaultKind}
use Rattle.pl_frame.specs.Dialect.{Marks, AreDistinct}
use Rattle.pl_scan.specs.Closing.{have_open_end, is_open_item, ends_open}
use Rattle.pl_scan.specs.Comment.{is_comment}
use Rattle.pl_scan.specs.Dialect.{marks_of, comment_of}
use Rattle.pl_scan.specs.Fields.{fields, extent}
use Rattle.pl_scan.specs.Items.{ItemText, CommentText, RecordText, text_of, items}
use Rattle.pl_scan.proofs.ItemLaws.{IsRecordAt-extent, items-nil, items-step}
use Rattle.pl_scan.proofs.RecordLaws.{fields-text, have_open_end-closed}
use Rattle.pl_rows.specs.declared.range.RangeEnd.TheVariants as end
use Rattle.pl_rows.specs.Laws.{OpenEndsWithin}
use Rattle.pl_rows.specs.Plan.{rules_of}
use Rattle.pl_rows.specs.Ranges.{limited, rows_of, judged_rows, has_unjudged, end_of}
use Rattle.pl_rows.specs.Rows.{first_faulty}
use Rattle.pl_table.specs.Rows.{Row, rows}
use Rattle.pl_rows.proofs.RangeLaws.{rows-nil, rows-step, rows-comment}

-- a row's last field is open
abbrev pub is_open_row : Marks → Row → Bool
is_open_row m row = have_open_end m row.fields

-- the item at the front, by whether a comment begins there
abbrev item_by : Bool → Marks → List ℕ → ItemText
item_by t m b = cond t (CommentText (take_while (λ x. not (x == m.line_end)) b)) (RecordText (take (extent m b) b))

-- what an item gives, and what its text's other items do
abbrev Goes : Marks → Option (List ℕ) → List ℕ → Option ItemText → Type 0
Goes m comment rest first = is_open_item m first ≡ false → is_open_item m (last_or first (items m comment rest)) ≡ list_any (is_open_row m) (rows m comment rest)

or_none : (t : Bool) → t ≡ (t || false)
or_none true = refl
or_none false = refl

open_comment : (m : Marks) (comment : Option (List ℕ)) (b : List ℕ) (before : Option ItemText) → 0 < length b → is_comment comment b ≡ true
    → ((first : Option ItemText) → Goes m comment (drop (prefix_len (λ x. not (x == m.line_end)) b + 1) b) first)
    → is_open_item m (last_or before (items m comment b)) ≡ list_any (is_open_row m) (rows m comment b)
open_comment m comment b before some is deeper =
    let first = CommentText (take_while (λ x. not (x == m.line_end)) b) in
    ap (λ l. is_open_item m (last_or before l)) (items-step m comment b some)
    ∙ ap (λ t. is_open_item m (last_or (Some (item_by t m b)) (items m comment (drop (length (text_of (item_by t m b)) + 1) b)))) is
    ∙ ap (λ k. is_open_item m (last_or (Some first) (items m comment (drop (k + 1) b)))) (length-prefix_len (λ x. not (x == m.line_end)) b)
    ∙ deeper (Some first) refl
    ∙ sym (ap (list_any (is_open_row m)) (rows-comment m comment b some is))

open_record_behind : (m : Marks) (comment : Option (List ℕ)) (b : List ℕ) → AreDistinct m → (behind : List ℕ) → drop (extent m b) b ≡ behind
    → ((first : Option ItemText) → Goes m comment (drop (extent m b + 1) b) first)
    → is_open_item m (last_or (Some (RecordText (take (extent m b) b))) (items m comment (drop (extent m b + 1) b)))
    ≡ (have_open_end m (fields m b) || list_any (is_open_row m) (rows m comment (drop (extent m b + 1) b)))
open_record_behind m comment b apart [] gone deeper =
    let none : drop (extent m b + 1) b ≡ [] = sym (drop-drop 1 (extent m b) b) ∙ ap (drop 1) gone in
    ap (λ l. is_open_item m (last_or (Some (RecordText (take (extent m b) b))) l)) (ap (items m comment) none ∙ items-nil m comment)
    ∙ ap (have_open_end m) (fields-text m b apart)
    ∙ or_none (have_open_end m (fields m b))
    ∙ ap (λ l. have_open_end m (fields m b) || list_any (is_open_row m) l) (sym (ap (rows m comment) none ∙ rows-nil m comment))
open_record_behind m comment b apart (y ∷ others) some deeper =
    let shut : have_open_end m (fields m b) ≡ false = have_open_end-closed m b y others apart some in
    deeper (Some (RecordText (take (extent m b) b))) (ap (have_open_end m) (fields-text m b apart) ∙ shut)
    ∙ ap (λ t. t || list_any (is_open_row m) (rows m comment (drop (extent m b + 1) b))) (sym shut)

open_record : (m : Marks) (comment : Option (List ℕ)) (b : List ℕ) (before : Option ItemText) → AreDistinct m → 0 < length b → is_comment comment b ≡ false
    → ((first : Option ItemText) → Goes m comment (drop (extent m b + 1) b) first)
    → is_open_item m (last_or before (items m comment b)) ≡ list_any (is_open_row m) (rows m comment b)
open_record m comment b before apart some is deeper =
    let first = RecordText (take (extent m b) b) in
    ap (λ l. is_open_item m (last_or before l)) (items-step m comment b some)
    ∙ ap (λ t. is_open_item m (last_or (Some (item_by t m b)) (items m comment (drop (length (text_of (item_by t m b)) + 1) b)))) is
    ∙ ap (λ k. is_open_item m (last_or (Some first) (items m comment (drop (k + 1) b)))) (length-take-le (extent m b) b (IsRecordAt-extent m b).fits)
    ∙ open_record_behind m comment b apart (drop (extent m b) b) refl deeper
    ∙ sym (ap (list_any (is_open_row m)) (rows-step m comment b apart some is))

-- the last item is an open record exactly where some row is open, given an item before that is none
open_within : (m : Marks) (comment : Option (List ℕ)) → AreDistinct m → (n : ℕ) (b : List ℕ) → length b < n → (before : Option ItemText) → Goes m comment b before
open_within m comment apart zero b h before closed = absurd (omega arith)
open_within m comment apart (suc n) [] h before closed =
    ap (λ l. is_open_item m (last_or before l)) (items-nil m comment) ∙ closed ∙ sym (ap (list_any (is_open_row m)) (rows-nil m comment))
open_within m comment apart (suc n) (x ∷ xs) h before closed =
    by_test (is_comment comment (x ∷ xs)) refl (λ r l first c. open_within m comment apart n r l first c)
  where
    by_test : (t : Bool) → is_comment comment (x ∷ xs) ≡ t → ((r : List ℕ) → length r < n → (first : Option ItemText) → Goes m comment r first)
        → is_open_item m (last_or before (items m comment (x ∷ xs))) ≡ list_any (is_open_row m) (rows m comment (x ∷ xs))
    by_test true is deeper =
        let size = prefix_len (λ y. not (y == m.line_end)) (x ∷ xs) in
        open_comment m comment (x ∷ xs) before (omega arith) is (deeper (drop (size + 1) (x ∷ xs)) (omega (arith, length-drop (size + 1) (x ∷ xs))))
    by_test false is deeper =
        let size = extent m (x ∷ xs) in
        open_record m comment (x ∷ xs) before apart (omega arith) is (deeper (drop (size + 1) (x ∷ xs)) (omega (arith, length-drop (size + 1) (x ∷ xs))))

-- some row is open exactly where the text ends so
pub open_rows : (m : Marks) (comment : Option (List ℕ)) (b : List ℕ) → AreDistinct m → ends_open m comment b ≡ list_any (is_open_row m) (rows m comment b)
open_rows m comment b apart = open_within m comment apart (length b + 1) b (omega arith) None refl

-- ---- where a range is open

-- a row is not judged, given whether the range is the last one
abbrev pub unjudged : Bool → Marks → Row → Bool
unjudged last m row = not (last || not (have_open_end m row.fields))

twice : (t : Bool) → not (not t) ≡ t
twice true = refl
twice false = refl

pub unjudged-last : (m : Marks) (given : List Row) → list_any (unjudged true m) given ≡ false
unjudged-last m [] = refl
unjudged-last m (row ∷ others) = unjudged-last m others

pub unjudged-open : (m : Marks) (given : List Row) → list_any (unjudged false m) given ≡ list_any (is_open_row m) given
unjudged-open m [] = refl
unjudged-open m (row ∷ others) =
    ap (λ t. t || list_any (unjudged false m) others) (twice (have_open_end m row.fields)) ∙ ap (λ t. have_open_end m row.fields || t) (unjudged-open m others)

-- an open end comes where no row has a fault and one is not judged
open_end : (first : Option (ℕ × (ℕ × FaultKind))) (u : Bool) → end_of first u ≡ end.Open → (first ≡ None) × (u ≡ true)
open_end (Some found) u e = cc
open_end None true e = (refl, refl)
open_end None false e = cc

-- the range is not the last one, and has an open row
unjudged-is : (last : Bool) (m : Marks) (given : List Row) → list_any (unjudged last m) given ≡ true → (last ≡ false) × (list_any (is_open_row m) given ≡ true)
unjudged-is true m given e = let none = unjudged-last m given in cc
unjudged-is false m given e = (refl, sym (unjudged-open m given) ∙ e)

pub open_is_unclosed : OpenEndsWithin
open_is_unclosed plan columns range apart all =
    let m = marks_of plan.dialect in
    let given = rows m (comment_of plan.dialect) range in
    let whole : rows_of plan range ≡ given = ap (λ limit. limited limit given) all in
    let some : has_unjudged plan range ≡ list_any (unjudged plan.last m) given = ap (list_any (unjudged plan.last m)) whole in
    let ends = open_rows m (comment_of plan.dialect) range apart in (
      λ is.
          let parts = open_end (first_faulty (rules_of plan) columns 0 (judged_rows plan range)) (has_unjudged plan range) is in
          let found = unjudged-is plan.last m given (sym some ∙ parts.1) in
          (found.0, ends ∙ found.1, parts.0),
      λ is.
          let found : has_unjudged plan range ≡ true = some ∙ ap (λ t. list_any (unjudged t m) given) is.0 ∙ unjudged-open m given ∙ sym ends ∙ is.1 in
          ap (λ f. end_of f (has_unjudged plan range)) is.2 ∙ ap (end_of None) found,
    )
