-- A step at the records: whole records are settled.
use Rattle.std.proofs.Common.{◌≡◌, ℕ, zero, suc, ◌+◌, ◌<◌, ◌≤◌, Bool, true, false, cond, List, [], ◌∷◌, ◌++◌, length, take, drop, Option, None, Some, refl, sym, ◌∙◌, ap, subst, arith, append_assoc, append-nil, length-append}
use Rattle.std.specs.Prelude.{IfSome}
use Rattle.std.proofs.Math.Seq.{take-append_seam}
use Rattle.std.proofs.lemmas.List.{take-append-drop, drop_at}
use Rattle.pl_frame.specs.Dialect.{IsDialect}
use Rattle.pl_frame.specs.declared.error.PolarsError.{PolarsError}
use Rattle.pl_options.specs.declared.read_options.CsvReadOptions.{CsvReadOptions}
use Rattle.pl_options.specs.FirstCause.{IsFirstCause, first_some}
use Rattle.pl_options.specs.Text.{marks_of, comment_of}
use Rattle.pl_csv.specs.Transcoding.{quote_cause}
use Rattle.pl_read.specs.Options.{data_of}
use Rattle.pl_read.specs.Refusals.{early_causes}
use Rattle.pl_read.specs.SettleGiven.{given_schema, given_causes, settled_causes}
use Rattle.pl_read.proofs.CauseLaws.{first_some-late, first_some-rest}
use Rattle.pl_rows.proofs.RangeLaws.{rows-nil}
use Rattle.pl_table.specs.Rows.{Row, rows}
use Rattle.pl_write.specs.declared.options.CsvWriterOptions.{CsvWriterOptions}
use Rattle.pl_stream.specs.Feeding.{behind_settled}
use Rattle.pl_stream.specs.Options.{option_causes, IsAccepted}
use Rattle.pl_stream.specs.Printing.{front_rows, lines_behind}
use Rattle.pl_stream.specs.Settled.{tells_head, settled_rows, settled_text, text_of_first}
use Rattle.pl_stream.specs.Stream.{IsInHead, IsAtRecords, head_left}
use Rattle.pl_stream.specs.Whole.{AreWholeItems, HasNoWholeItem, IsWholeFront}
use Rattle.pl_stream.specs.declared.place.Place.TheVariants as place
use Rattle.pl_stream.specs.declared.whole.Whole.{Whole}
use Rattle.pl_stream.proofs.SettledLaws.{settled_rows_stay}
use Rattle.pl_stream.proofs.StandLaws.{settled-are}
use Rattle.pl_stream.proofs.TextLaws.{text-more}
use Rattle.pl_stream.proofs.WholeItemLaws.{whole-nil, whole-append, rows-whole}

-- ---- the options

-- what stands against no stream stands against no read
pub accepted-given : (o : CsvReadOptions) (write : CsvWriterOptions) → IsAccepted o write → IsFirstCause (given_causes o) o.parse_options None
accepted-given o write accepted =
    let early = early_causes o accepted.sound.is_dialect in
    let others = settled_causes o (given_schema o) in
    let both = both-none early (quote_cause write ∷ others) (sym accepted.sound.is) in
    record {
      is_dialect = accepted.sound.is_dialect;
      tells = accepted.sound.tells;
      is = sym (first_some-late early others both.0 ∙ first_some-rest (quote_cause write) others both.1);
    }
  where
    both-none : (xs ys : List (Option PolarsError)) → first_some (xs ++ ys) ≡ None → (first_some xs ≡ None) × (first_some ys ≡ None)
    both-none [] ys none = (refl, none)
    both-none (None ∷ xs) ys none = both-none xs ys none
    both-none (Some x ∷ xs) ys none = absurd (cc)

-- ---- the records

-- more bytes come
pub at-piece : (o : CsvReadOptions) (b kept piece : List ℕ) (count : ℕ) → IsAtRecords o b kept count → IsAtRecords o (b ++ piece) (kept ++ piece) count
at-piece o b kept piece count at = record {
  records = at.records;
  data_is = λ more. ap (data_of o) (append_assoc b piece more) ∙ at.data_is (piece ++ more) ∙ ap (λ l. Some (at.records ++ l)) (sym (append_assoc kept piece more));
  are_whole = at.are_whole;
  count_is = at.count_is;
  items = at.items;
  whole = at.whole;
  head_is = λ more. ap (head_left o) (append_assoc b piece more) ∙ at.head_is (piece ++ more) ∙ ap (λ l. at.items ++ l) (sym (append_assoc kept piece more));
}

-- the way through the head ends there
pub at-head : (o : CsvReadOptions) (b kept : List ℕ) → IsInHead o b place.Records kept → IsAtRecords o b kept 0
at-head o b kept is = record {
  records = [];
  data_is = is.data_is;
  are_whole = whole-nil o.parse_options;
  count_is = sym (ap length (rows-nil (marks_of o.parse_options) (comment_of o.parse_options)));
  items = is.items;
  whole = is.whole;
  head_is = is.head_is;
}

-- whole items are let go
unfoldable pub at-more : (o : CsvReadOptions) (b kept : List ℕ) (count next : ℕ) (whole : Whole) → IsDialect (marks_of o.parse_options) (comment_of o.parse_options) → IsAtRecords o b kept count → IsWholeFront o.parse_options kept whole
    → next ≡ count + whole.rows → IsAtRecords o b (drop whole.end kept) next
at-more o b kept count next whole apart at front next_is =
    let m = marks_of o.parse_options in
    let comment = comment_of o.parse_options in
    let new : List ℕ = take whole.end kept in
    let all = rows-whole o.parse_options at.records new apart at.are_whole in
    record {
      records = at.records ++ new;
      data_is = λ more. at.data_is more ∙ ap (λ l. Some l) (moved at.records more);
      are_whole = whole-append o.parse_options at.records new apart at.are_whole front.items;
      count_is = next_is ∙ omega (arith, at.count_is, front.count_is, length-append (rows m comment at.records) (rows m comment new)) ∙ ap length (sym all);
      items = at.items ++ new;
      whole = whole-append o.parse_options at.items new apart at.whole front.items;
      head_is = λ more. at.head_is more ∙ moved at.items more;
    }
  where
    moved : (before more : List ℕ) → before ++ (kept ++ more) ≡ (before ++ take whole.end kept) ++ (drop whole.end kept ++ more)
    moved before more =
        ap (λ l. before ++ (l ++ more)) (sym (take-append-drop whole.end kept)) ∙ ap (λ l. before ++ l) (append_assoc (take whole.end kept) (drop whole.end kept) more)
        ∙ sym (append_assoc before (take whole.end kept) (drop whole.end kept ++ more))

-- fronts that are as long are the same
pub same-front : {X : Type 0} (a b c d : List X) → a ++ b ≡ c ++ d → length a ≡ length c → (a ≡ c) × (b ≡ d)
same-front a b c d is size = (
  sym (take-append_seam a b) ∙ ap (take (length a)) is ∙ ap (λ n. take n (c ++ d)) size ∙ take-append_seam c d,
  sym (drop_at a b (length a) refl) ∙ ap (drop (length a)) is ∙ drop_at c d (length a) (sym size),
)

-- the records that are settled now are those that were, and then the new ones
pub settled-more : (o : CsvReadOptions) (b piece kept : List ℕ) (count next : ℕ) (whole : Whole) → IsDialect (marks_of o.parse_options) (comment_of o.parse_options) → IsAtRecords o (b ++ piece) kept count → IsWholeFront o.parse_options kept whole
    → next ≡ count + whole.rows → tells_head o (b ++ piece) ≡ true → HasNoWholeItem o.parse_options (drop whole.end kept) → IfSome o.n_rows (λ most. next ≤ most) → count ≡ length (settled_rows o b)
    → settled_rows o (b ++ piece) ≡ settled_rows o b ++ front_rows o kept whole
unfolding at-more
settled-more o b piece kept count next whole apart at front next_is told broken few counted =
    let m = marks_of o.parse_options in
    let comment = comment_of o.parse_options in
    let now = at-more o (b ++ piece) kept count next whole apart at front next_is in
    let are : settled_rows o (b ++ piece) ≡ rows m comment at.records ++ front_rows o kept whole =
    settled-are o (b ++ piece) (drop whole.end kept) next now apart told broken few ∙ rows-whole o.parse_options at.records (take whole.end kept) apart at.are_whole in
    let stay = settled_rows_stay o b piece apart in
    let same = same-front (settled_rows o b) stay.0 (rows m comment at.records) (front_rows o kept whole) (sym stay.1 ∙ are) (sym counted ∙ at.count_is) in
    are ∙ ap (λ l. l ++ front_rows o kept whole) (sym same.0)

-- ---- what the settled text gains

pub gained-more : (o : CsvReadOptions) (write : CsvWriterOptions) (b now : List ℕ) (row : Row) (xs ys : List Row) → settled_rows o b ≡ row ∷ xs → settled_rows o now ≡ settled_rows o b ++ ys
    → behind_settled o write b (settled_text o write now) ≡ lines_behind o write (length (settled_rows o b)) ys
gained-more o write b now row xs ys some more =
    let text : settled_text o write now ≡ settled_text o write b ++ lines_behind o write (length (settled_rows o b)) ys =
    ap (text_of_first o write) (more ∙ ap (λ l. l ++ ys) some) ∙ text-more o write row xs ys ∙ (λ i. text_of_first o write (sym some i) ++ lines_behind o write (length (sym some i)) ys) in
    ap (drop (length (settled_text o write b))) text ∙ drop_at (settled_text o write b) (lines_behind o write (length (settled_rows o b)) ys) (length (settled_text o write b)) refl
