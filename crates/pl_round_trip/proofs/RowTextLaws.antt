-- The rows of a text of lines.
use Rattle.std.proofs.Common.{◌≡◌, ℕ, ◌+◌, ◌-◌, ◌<◌, Bool, false, ◌==◌, List, [], ◌∷◌, ◌++◌, length, map, drop, None, refl, ◌∙◌, ap, inr, arith, append_assoc, length-append}
use Rattle.std.specs.Prelude.{sum_by}
use Rattle.std.specs.List.{AllByRecursion, flat_map, join_with_byte}
use Rattle.std.proofs.Math.Seq.{drop-append_seam, drop-append-add}
use Rattle.std.proofs.lemmas.Bool.Decides.{nat_tests}
use Rattle.std.proofs.lemmas.List.Sums.{sum_by-cons}
use Rattle.pl_frame.specs.Dialect.{Marks, AreDistinct}
use Rattle.pl_scan.specs.Fields.{fields, extent}
use Rattle.pl_table.specs.Rows.{Row, rows, row_at, ended_row}
use Rattle.pl_round_trip.specs.RoundTrip.{IsLine, line_of}
use Rattle.pl_round_trip.proofs.CutLaws.{line-returns}
use Rattle.pl_round_trip.proofs.StepLaws.{rows-nil, rows-step}

-- how long a line is
join-length : (s : ℕ) (texts : List (List ℕ)) → 0 < length texts → sum_by length texts + (length texts - 1) ≡ length (join_with_byte s texts)
join-length s [] some = absurd (omega (arith, some))
join-length s (text ∷ []) some = omega (arith, sum_by-cons length text [])
join-length s (text ∷ next ∷ texts) some =
    omega (arith, sum_by-cons length text (next ∷ texts), join-length s (next ∷ texts) (omega arith), length-append text (s ∷ join_with_byte s (next ∷ texts)))

module _ (m : Marks) (texts : List (List ℕ)) (more : List ℕ) (distinct : AreDistinct m) (line : IsLine m texts) where
  abbrev pub joined : List ℕ
  joined = join_with_byte m.separator texts

  abbrev pub whole : List ℕ
  whole = join_with_byte m.separator texts ++ (m.line_end ∷ more)

  has-fields : fields m whole ≡ texts
  has-fields = line-returns m texts (m.line_end ∷ more) distinct line.0 line.1 (inr (more, refl))

  pub has-extent : extent m whole ≡ length joined
  has-extent = ap (λ fs. sum_by length fs + (length fs - 1)) has-fields ∙ join-length m.separator texts line.0

  has-row : row_at m whole ≡ ended_row texts
  has-row =
      let left : drop (extent m whole) whole ≡ m.line_end ∷ more = ap (λ k. drop k whole) has-extent ∙ drop-append_seam joined (m.line_end ∷ more) in
      let some : (length (m.line_end ∷ more) == 0) ≡ false = grind (arith, nat_tests) in
      ap (λ (fs : List (List ℕ)). record { fields = fs; is_end = length (drop (extent m whole) whole) == 0 }) has-fields
      ∙ ap (λ (t : Bool). record { fields = texts; is_end = t }) (ap (λ (l : List ℕ). length l == 0) left ∙ some)

  pub has-rest : drop (extent m whole + 1) whole ≡ more
  has-rest = ap (λ k. drop (k + 1) whole) has-extent ∙ drop-append-add joined (m.line_end ∷ more) 1

pub rows-return : (m : Marks) (lines : List (List (List ℕ))) → AreDistinct m → AllByRecursion (IsLine m) lines → rows m None (flat_map (line_of m) lines) ≡ map ended_row lines
rows-return m [] distinct all = rows-nil m
rows-return m (texts ∷ lines) distinct all =
    let more = flat_map (line_of m) lines in
    let same : line_of m texts ++ more ≡ join_with_byte m.separator texts ++ (m.line_end ∷ more) = append_assoc (join_with_byte m.separator texts) (m.line_end ∷ []) more in
    ap (rows m None) same
    ∙ rows-step m (join_with_byte m.separator texts ++ (m.line_end ∷ more)) distinct (omega (arith, length-append (join_with_byte m.separator texts) (m.line_end ∷ more)))
    ∙ ap (λ (row : Row). row ∷ rows m None (drop (extent m (join_with_byte m.separator texts ++ (m.line_end ∷ more)) + 1) (join_with_byte m.separator texts ++ (m.line_end ∷ more)))) (has-row m texts more distinct all.0)
    ∙ ap (λ l. ended_row texts ∷ rows m None l) (has-rest m texts more distinct all.0)
    ∙ ap (λ l. ended_row texts ∷ l) (rows-return m lines distinct all.1)
