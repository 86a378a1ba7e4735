-- The entries of a text are the ends of its fields.
use Rattle.std.proofs.Common.{◌≡◌, ℕ, suc, ◌+◌, ◌%◌, Bool, true, false, cond, not, ◌&&◌, ◌==◌, List, [], ◌∷◌, length, refl, sym, ap, ◌∙◌, arith, add-zero}
use Rattle.std.specs.Prelude.{None}
use Rattle.pl_frame.specs.Dialect.{Marks, AreDistinct}
use Rattle.pl_scan.specs.Fields.{is_quote, cut_field, field}
use Rattle.pl_scan.proofs.Walk.{onto, walk, mark, is_even-mark}
use Rattle.pl_scan.proofs.FieldLaws.{unquoted, cut_field-is, is_quote-stop}
use Rattle.pl_table.specs.declared.block.Spot.{Spot}
use Rattle.pl_table.specs.declared.block.Spot.TheVariants.{Begin, Plain, Odd, Even}
use Rattle.pl_table.specs.Ends.{is_odd, is_stop, ends_field, spot_of, next_spot}
use Rattle.pl_table.specs.Entries.{End, end_at, entries}

abbrev even : ℕ → Bool
even n = n % 2 == 0

-- the entries from the end of a field on, with what is left behind it
abbrev pub entries_left : Marks → ℕ → List ℕ → List End
entries_left m k [] = []
entries_left m k (x ∷ t) = end_at k (x == m.line_end) ∷ entries m Begin (k + 1) t

-- in a quoted field, behind n quotes
abbrev inside : ℕ → Spot
inside n = cond (even n) Even Odd

entries-quoted : (m : Marks) (n k : ℕ) (b : List ℕ) → entries m (inside n) k b ≡ entries_left m (k + length (walk m n b).0) (walk m n b).1
entries-quoted m n k [] = refl
entries-quoted m n k (x ∷ xs) = by_tests (even n) (is_stop m x) (is_quote m.quote x) refl refl (entries-quoted m (n + mark m x) (k + 1) xs)
  where
    w : List ℕ × List ℕ
    w = walk m (n + mark m x) xs

    longer : entries_left m (k + 1 + length (walk m (n + mark m x) xs).0) (walk m (n + mark m x) xs).1 ≡ entries_left m (k + suc (length (walk m (n + mark m x) xs).0)) (walk m (n + mark m x) xs).1
    longer = ap (λ j. entries_left m j (walk m (n + mark m x) xs).1) (omega arith)

    next : (t q : Bool) → even n ≡ t → is_quote m.quote x ≡ q → cond (cond q (not t) t) Even Odd ≡ inside (n + mark m x)
    next t q e quote = sym (ap (λ (u : Bool). cond u Even Odd) (is_even-mark m n x ∙ rw (e, quote) refl))

    by_tests : (t stop q : Bool) → even n ≡ t → is_quote m.quote x ≡ q
        → entries m (inside (n + mark m x)) (k + 1) xs ≡ entries_left m (k + 1 + length (walk m (n + mark m x) xs).0) (walk m (n + mark m x) xs).1
        → cond (stop && not (is_odd (cond t Even Odd))) (end_at k (x == m.line_end) ∷ entries m (spot_of (cond t Even Odd) stop q) (k + 1) xs) (entries m (spot_of (cond t Even Odd) stop q) (k + 1) xs)
        ≡ entries_left m (k + length (cond (t && not (not stop)) ([], x ∷ xs) (onto x (walk m (n + mark m x) xs))).0) (cond (t && not (not stop)) ([], x ∷ xs) (onto x (walk m (n + mark m x) xs))).1
    by_tests true true q e quote h = ap (λ j. end_at j (x == m.line_end) ∷ entries m Begin (j + 1) xs) (sym (add-zero k))
    by_tests true false true e quote h = ap (λ (s : Spot). entries m s (k + 1) xs) (next true true e quote) ∙ h ∙ longer
    by_tests true false false e quote h = ap (λ (s : Spot). entries m s (k + 1) xs) (next true false e quote) ∙ h ∙ longer
    by_tests false true true e quote h = ap (λ (s : Spot). entries m s (k + 1) xs) (next false true e quote) ∙ h ∙ longer
    by_tests false true false e quote h = ap (λ (s : Spot). entries m s (k + 1) xs) (next false false e quote) ∙ h ∙ longer
    by_tests false false true e quote h = ap (λ (s : Spot). entries m s (k + 1) xs) (next false true e quote) ∙ h ∙ longer
    by_tests false false false e quote h = ap (λ (s : Spot). entries m s (k + 1) xs) (next false false e quote) ∙ h ∙ longer

entries-plain : (m : Marks) (k : ℕ) (b : List ℕ) → entries m Plain k b ≡ entries_left m (k + length (walk (unquoted m) 0 b).0) (walk (unquoted m) 0 b).1
entries-plain m k [] = refl
entries-plain m k (x ∷ xs) = by_test (is_stop m x) (entries-plain m (k + 1) xs)
  where
    by_test : (stop : Bool) → entries m Plain (k + 1) xs ≡ entries_left m (k + 1 + length (walk (unquoted m) 0 xs).0) (walk (unquoted m) 0 xs).1
        → cond (stop && true) (end_at k (x == m.line_end) ∷ entries m (spot_of Plain stop (is_quote m.quote x)) (k + 1) xs) (entries m (spot_of Plain stop (is_quote m.quote x)) (k + 1) xs)
        ≡ entries_left m (k + length (cond (not (not stop)) ([], x ∷ xs) (onto x (walk (unquoted m) 0 xs))).0) (cond (not (not stop)) ([], x ∷ xs) (onto x (walk (unquoted m) 0 xs))).1
    by_test true h = ap (λ j. end_at j (x == m.line_end) ∷ entries m Begin (j + 1) xs) (sym (add-zero k))
    by_test false h = h ∙ ap (λ j. entries_left m j (walk (unquoted m) 0 xs).1) (omega arith)

-- a field begins
pub entries-field : (m : Marks) (k : ℕ) (b : List ℕ) → AreDistinct m → entries m Begin k b ≡ entries_left m (k + length (field m b)) (cut_field m b).1
entries-field m k [] distinct = sym (ap (λ (c : List ℕ × List ℕ). entries_left m (k + length c.0) c.1) (cut_field-is m []))
entries-field m k (x ∷ xs) distinct =
    by_tests (is_quote m.quote x) (is_stop m x) refl refl
    ∙ sym (ap (λ (c : List ℕ × List ℕ). entries_left m (k + length c.0) c.1) (cut_field-is m (x ∷ xs)))
  where
    from : Bool → List ℕ × List ℕ
    from q = walk (record { separator = m.separator; quote = cond q m.quote None; line_end = m.line_end }) 0 (x ∷ xs)

    by_tests : (q stop : Bool) → is_quote m.quote x ≡ q → is_stop m x ≡ stop
        → cond (ends_field m Begin x) (end_at k (x == m.line_end) ∷ entries m (next_spot m Begin x) (k + 1) xs) (entries m (next_spot m Begin x) (k + 1) xs)
        ≡ entries_left m (k + length (walk (record { separator = m.separator; quote = cond q m.quote None; line_end = m.line_end }) 0 (x ∷ xs)).0) (walk (record { separator = m.separator; quote = cond q m.quote None; line_end = m.line_end }) 0 (x ∷ xs)).1
    by_tests true true quote stop = absurd (let no = is_quote-stop m.separator m.line_end m.quote x distinct.1 (ap not stop) in cc)
    by_tests true false quote stop =
        (λ j. cond (stop j && true) (end_at k (x == m.line_end) ∷ entries m (spot_of Begin (stop j) (quote j)) (k + 1) xs) (entries m (spot_of Begin (stop j) (quote j)) (k + 1) xs))
        ∙ sym (λ j. cond (stop j && true) (end_at k (x == m.line_end) ∷ entries m (spot_of Even (stop j) (quote j)) (k + 1) xs) (entries m (spot_of Even (stop j) (quote j)) (k + 1) xs))
        ∙ entries-quoted m 0 k (x ∷ xs)
    by_tests false true quote stop =
        (λ j. cond (stop j && true) (end_at k (x == m.line_end) ∷ entries m (spot_of Begin (stop j) (quote j)) (k + 1) xs) (entries m (spot_of Begin (stop j) (quote j)) (k + 1) xs))
        ∙ sym (λ j. cond (stop j && true) (end_at k (x == m.line_end) ∷ entries m (spot_of Plain (stop j) (quote j)) (k + 1) xs) (entries m (spot_of Plain (stop j) (quote j)) (k + 1) xs))
        ∙ entries-plain m k (x ∷ xs)
    by_tests false false quote stop =
        (λ j. cond (stop j && true) (end_at k (x == m.line_end) ∷ entries m (spot_of Begin (stop j) (quote j)) (k + 1) xs) (entries m (spot_of Begin (stop j) (quote j)) (k + 1) xs))
        ∙ sym (λ j. cond (stop j && true) (end_at k (x == m.line_end) ∷ entries m (spot_of Plain (stop j) (quote j)) (k + 1) xs) (entries m (spot_of Plain (stop j) (quote j)) (k + 1) xs))
        ∙ entries-plain m k (x ∷ xs)
