-- What the settled text gains by whole records.
use Rattle.std.proofs.Common.{◌≡◌, ℕ, zero, suc, ◌+◌, ◌<◌, List, [], ◌∷◌, ◌++◌, length, take, refl, sym, ◌∙◌, ap, arith, append_assoc, append-nil}
use Rattle.std.proofs.Math.Seq.{take-append_seam}
use Rattle.pl_options.specs.declared.read_options.CsvReadOptions.{CsvReadOptions}
use Rattle.pl_table.specs.Rows.{Row}
use Rattle.pl_write.specs.declared.options.CsvWriterOptions.{CsvWriterOptions}
use Rattle.pl_stream.specs.Printing.{AreRowsPrinted, AreSettled, front_rows, lines_behind, gained_text, head_once}
use Rattle.pl_stream.specs.declared.whole.Whole.{Whole}
use Rattle.pl_stream.proofs.PrintLaws.{lines-none}

-- rows are settled, where there are some, or some stand before them
pub settled-some : (o : CsvReadOptions) (write : CsvWriterOptions) (before : ℕ) (records old mid now : List ℕ) (whole : Whole) → mid ≡ old ++ head_once o write before → AreRowsPrinted o write before records mid now whole → 0 < before + whole.rows
    → AreSettled o write before records old now whole
settled-some o write before records old mid now whole head printed some = record {
  front = printed.front;
  sound = printed.sound;
  gained = printed.lines ∙ ap (λ l. l ++ lines_behind o write before given) head ∙ append_assoc old (head_once o write before) (lines_behind o write before given) ∙ ap (λ l. old ++ l) (by before given (omega (arith, some, printed.front.count_is)));
}
  where
    given : List Row
    given = front_rows o records whole

    by : (n : ℕ) (rows : List Row) → 0 < n + length rows → head_once o write n ++ lines_behind o write n rows ≡ gained_text o write n rows
    by zero [] h = absurd (omega arith)
    by (suc n) [] h = lines-none o write (suc n)
    by n (row ∷ rows) h = refl

-- and where there are none, nothing is appended
pub settled-none : (o : CsvReadOptions) (write : CsvWriterOptions) (before : ℕ) (records old mid now : List ℕ) (whole : Whole) → mid ≡ old ++ head_once o write before → AreRowsPrinted o write before records mid now whole → whole.rows ≡ 0
    → AreSettled o write before records old (take (length old) now) whole
settled-none o write before records old mid now whole head printed none =
    let given = front_rows o records whole in
    let empty : given ≡ [] = nil given (sym printed.front.count_is ∙ none) in
    record {
      front = printed.front;
      sound = printed.sound;
      gained = ap (take (length old)) (printed.lines ∙ ap (λ l. l ++ lines_behind o write before given) head ∙ append_assoc old (head_once o write before) (lines_behind o write before given))
          ∙ take-append_seam old (head_once o write before ++ lines_behind o write before given) ∙ sym (append-nil old) ∙ ap (λ l. old ++ gained_text o write before l) (sym empty);
    }
  where
    nil : (rows : List Row) → length rows ≡ 0 → rows ≡ []
    nil [] e = refl
    nil (row ∷ rows) e = absurd (omega arith)
