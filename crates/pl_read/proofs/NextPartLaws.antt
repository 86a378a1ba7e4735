-- Parts of the text of the next batches.
use Rattle.std.proofs.Common.{◌≡◌, ℕ, ◌+◌, ◌-◌, ◌<◌, ◌≤◌, List, [], ◌∷◌, ◌++◌, length, take, drop, sym, ◌∙◌, ap, append-nil, arith, length-append, inl, inr}
use Rattle.std.specs.Prelude.{◌⊎◌, Result, Ok, Err, IfOk}
use Rattle.std.specs.List.{flat_map}
use Rattle.std.proofs.lemmas.List.Concat.{flat_map-append}
use Rattle.pl_frame.specs.Dialect.{IsDialect}
use Rattle.pl_rows.proofs.RangeLaws.{rows-nil}
use Rattle.pl_table.proofs.PieceLaws.{rows-append}
use Rattle.pl_options.specs.declared.read_options.CsvReadOptions.{CsvReadOptions}
use Rattle.pl_options.specs.Text.{marks_of, comment_of}
use Rattle.pl_read.specs.Batches.{EndsAtItem, range_length}
use Rattle.pl_read.specs.NextFrames.{records_of}
use Rattle.pl_read.proofs.BatchRangeLaws.{split-take}
use Rattle.pl_read.proofs.NextTextLaws.{HasCut, HasCut-start, HasCut-next}

-- ranges that were cut: so many are left, and so many bytes stand before those
pub record AreCut (o : CsvReadOptions) (n : ℕ) (rest : List ℕ) (left end : ℕ) (texts : List (List ℕ)) : Type 0 where
  pub cut_so : HasCut o n rest left end
  pub count : length texts + left ≡ n
  pub some : 0 < end → 0 < length texts
  pub rows_are : flat_map (records_of o) texts ≡ records_of o (take end rest)

pub AreCut-start : (o : CsvReadOptions) (n : ℕ) (rest : List ℕ) (texts : List (List ℕ)) → 0 < n → texts ≡ [] → AreCut o n rest n 0 texts
AreCut-start o n rest texts asked none = record {
  cut_so = HasCut-start o n rest asked;
  count = omega (arith, ap length none);
  some = λ h. absurd (omega (arith, h));
  rows_are = ap (flat_map (records_of o)) none ∙ sym (rows-nil (marks_of o.parse_options) (comment_of o.parse_options));
}

rows-step : (o : CsvReadOptions) (n : ℕ) (rest : List ℕ) (left end k : ℕ) → IsDialect (marks_of o.parse_options) (comment_of o.parse_options) → HasCut o n rest left end → end < length rest
    → records_of o (take (end + k) rest) ≡ records_of o (take end rest) ++ records_of o (take k (drop end rest))
rows-step o n rest left end k dialect cut_so inside = elim cut_so.ends [
  | inl past ↦ absurd (omega arith)
  | inr ends ↦
      ap (records_of o) (split-take end k rest)
      ∙ rows-append (marks_of o.parse_options) (comment_of o.parse_options) (take end rest) (take k (drop end rest)) dialect.distinct dialect.prefix ends.ended ends.closed
]

flat-one : {X : Type 0} (f : List ℕ → List X) (text : List ℕ) → flat_map f (text ∷ []) ≡ f text
flat-one f text = append-nil (f text)

pub AreCut-next : (o : CsvReadOptions) (n : ℕ) (rest : List ℕ) (left end k : ℕ) (texts more : List (List ℕ)) → IsDialect (marks_of o.parse_options) (comment_of o.parse_options) → AreCut o n rest left end texts
    → 0 < left → end < length rest → k ≡ range_length o (drop end rest) → 0 < k → k ≤ length (drop end rest) → (k ≡ length (drop end rest)) ⊎ EndsAtItem o (take k (drop end rest))
    → more ≡ texts ++ take k (drop end rest) ∷ [] → AreCut o n rest (left - 1) (end + k) more
AreCut-next o n rest left end k texts more dialect are some inside is bytes fits ends more_is =
    let text = take k (drop end rest) in
    let size : length more ≡ length texts + 1 = omega (arith, ap length more_is, length-append texts (text ∷ [])) in
    record {
      cut_so = HasCut-next o n rest left end k dialect are.cut_so some inside is bytes fits ends;
      count = omega (arith, are.count, size);
      some = λ h. omega (arith, size);
      rows_are = ap (flat_map (records_of o)) more_is ∙ flat_map-append (records_of o) texts (text ∷ []) ∙ ap (λ l. flat_map (records_of o) texts ++ l) (flat-one (records_of o) text)
          ∙ ap (λ l. l ++ records_of o text) are.rows_are ∙ sym (rows-step o n rest left end k dialect are.cut_so inside);
    }

-- what an answer tells, and what follows of it
pub ok-then : {A E : Type 0} (r : Result A E) (P Q : A → Type 0) → IfOk r P → ((a : A) → P a → Q a) → IfOk r Q
ok-then (Ok a) P Q p then = then a p
ok-then (Err e) P Q p then = tt
