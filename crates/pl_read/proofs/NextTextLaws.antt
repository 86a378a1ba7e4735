-- Which text the next batches are read of.
use Rattle.std.proofs.Common.{◌≡◌, ℕ, zero, suc, ◌+◌, ◌-◌, ◌<◌, ◌≤◌, List, [], ◌∷◌, ◌++◌, length, take, drop, refl, sym, ◌∙◌, ap, subst, zero-add, arith, length-drop, ◌⊎◌, inl, inr}
use Rattle.std.specs.Prelude.{None}
use Rattle.std.specs.List.{last_or}
use Rattle.std.proofs.lemmas.List.{drop_all, drop-drop}
use Rattle.pl_frame.specs.Dialect.{IsDialect}
use Rattle.pl_options.specs.declared.read_options.CsvReadOptions.{CsvReadOptions}
use Rattle.pl_options.specs.Text.{marks_of, comment_of}
use Rattle.pl_read.specs.Batches.{EndsAtItem, range_length, ranges_length, batch_text}
use Rattle.pl_read.proofs.BatchRangeLaws.{split-take}
use Rattle.pl_rows.proofs.SoundTextLaws.{ended-append, closed-append}
use Rattle.pl_scan.specs.Closing.{is_open_item}
use Rattle.pl_scan.proofs.ItemLaws.{items-nil}

-- ---- texts that end where an item does

-- no text does
pub EndsAtItem-nil : (o : CsvReadOptions) → EndsAtItem o []
EndsAtItem-nil o = record { ended = refl; closed = ap (λ l. is_open_item (marks_of o.parse_options) (last_or None l)) (items-nil (marks_of o.parse_options) (comment_of o.parse_options)) }

-- a text that ends where an item does, behind another such text
pub EndsAtItem-append : (o : CsvReadOptions) (a b : List ℕ) → IsDialect (marks_of o.parse_options) (comment_of o.parse_options) → EndsAtItem o a → EndsAtItem o b → EndsAtItem o (a ++ b)
EndsAtItem-append o a b dialect first second = record {
  ended = ended-append o.parse_options.eol_char a b first.ended second.ended;
  closed = closed-append (marks_of o.parse_options) (comment_of o.parse_options) a b dialect.distinct dialect.prefix first.ended first.closed second.closed;
}

-- ---- the first ranges of a text

pub length-none : (o : CsvReadOptions) (n : ℕ) → ranges_length o n [] ≡ 0
length-none o zero = refl
length-none o (suc n) = refl

pub length-step : (o : CsvReadOptions) (n : ℕ) (text : List ℕ) → 0 < length text → ranges_length o (suc n) text ≡ range_length o text + ranges_length o n (drop (range_length o text) text)
length-step o n [] some = absurd (omega arith)
length-step o n (x ∷ text) some = refl

-- so many of the ranges are left, and so many bytes stand before them, which end where an item does unless they are all
pub record HasCut (o : CsvReadOptions) (n : ℕ) (rest : List ℕ) (left end : ℕ) : Type 0 where
  pub within : end ≤ length rest
  pub size : ranges_length o n rest ≡ end + ranges_length o left (drop end rest)
  pub ends : (end ≡ length rest) ⊎ EndsAtItem o (take end rest)
  pub some : 0 < left + end

pub HasCut-start : (o : CsvReadOptions) (n : ℕ) (rest : List ℕ) → 0 < n → HasCut o n rest n 0
HasCut-start o n rest some = record {
  within = omega arith;
  size = sym (zero-add (ranges_length o n rest));
  ends = inr (EndsAtItem-nil o);
  some = omega arith;
}

one_less : (left : ℕ) → 0 < left → left ≡ suc (left - 1)
one_less left some = omega arith

-- the next range
pub HasCut-next : (o : CsvReadOptions) (n : ℕ) (rest : List ℕ) (left end k : ℕ) → IsDialect (marks_of o.parse_options) (comment_of o.parse_options) → HasCut o n rest left end → 0 < left → end < length rest
    → k ≡ range_length o (drop end rest) → 0 < k → k ≤ length (drop end rest) → (k ≡ length (drop end rest)) ⊎ EndsAtItem o (take k (drop end rest)) → HasCut o n rest (left - 1) (end + k)
HasCut-next o n rest left end k dialect cut_so some inside is more fits ends =
    let b = drop end rest in
    let bytes = length-drop end rest in
    let next : drop (range_length o b) b ≡ drop (end + k) rest = ap (λ j. drop j b) (sym is) ∙ drop-drop k end rest in
    let step : ranges_length o left b ≡ range_length o b + ranges_length o (left - 1) (drop (end + k) rest) =
    ap (λ j. ranges_length o j b) (one_less left some) ∙ length-step o (left - 1) b (omega arith) ∙ ap (λ l. range_length o b + ranges_length o (left - 1) l) next in
    record {
      within = omega arith;
      size = omega (arith, cut_so.size, step, is);
      some = omega arith;
      ends = elim ends [
        | inl all ↦ inl (omega arith)
        | inr ended ↦ elim cut_so.ends [
          | inl past ↦ absurd (omega arith)
          | inr before ↦ inr (subst (EndsAtItem o) (sym (split-take end k rest)) (EndsAtItem-append o (take end rest) (take k b) dialect before ended))
        ]
      ];
    }

-- no range is left, or no text
pub HasCut-end : (o : CsvReadOptions) (n : ℕ) (rest : List ℕ) (left end : ℕ) → HasCut o n rest left end → (left ≡ 0) ⊎ (end ≡ length rest) → take end rest ≡ batch_text o n rest
HasCut-end o n rest left end cut_so over = ap (λ k. take k rest) (let none_left = none over in omega (arith, cut_so.size, none_left))
  where
    none : (left ≡ 0) ⊎ (end ≡ length rest) → ranges_length o left (drop end rest) ≡ 0
    none (inl is) = ap (λ k. ranges_length o k (drop end rest)) is
    none (inr is) = ap (ranges_length o left) (drop_all end rest (omega arith)) ∙ length-none o left
