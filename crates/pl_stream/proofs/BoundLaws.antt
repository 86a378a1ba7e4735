-- How many bytes a state keeps.
use Rattle.std.proofs.Common.{◌≡◌, ℕ, zero, suc, ◌+◌, ◌-◌, ◌<◌, ◌≤◌, Bool, true, false, cond, not, ◌==◌, max, List, [], ◌∷◌, ◌++◌, map, length, drop, Option, None, Some, refl, sym, ◌∙◌, ap, subst, arith, inl, inr, length-drop, nat_lt}
use Rattle.std.specs.List.{fold, prefix_len}
use Rattle.std.proofs.lemmas.Bool.{cases_lt}
use Rattle.std.proofs.lemmas.Bool.Decides.{nat_tests}
use Rattle.std.proofs.lemmas.List.{map-append}
use Rattle.std.proofs.lemmas.List.Sums.{prefix_len-le-length}
use Rattle.pl_frame.specs.Dialect.{Marks, IsDialect}
use Rattle.pl_options.specs.declared.read_options.CsvReadOptions.{CsvReadOptions}
use Rattle.pl_options.specs.Text.{marks_of, comment_of}
use Rattle.pl_scan.specs.Items.{ItemText, text_of, item, items_behind}
use Rattle.pl_scan.proofs.AppendLaws.{with_behind, items_behind-append}
use Rattle.pl_scan.proofs.ItemLaws.{items_behind-step}
use Rattle.pl_stream.specs.Stream.{longest_item, most_kept, head_left}
use Rattle.pl_stream.specs.Whole.{AreWholeItems, HasNoWholeItem}
use Rattle.pl_stream.proofs.WholeLaws.{cut-item}

-- ---- the greatest of numbers

greater : (xs : List ℕ) (a b : ℕ) → a ≤ b → fold max a xs ≤ fold max b xs
greater [] a b h = h
greater (x ∷ xs) a b h = greater xs (max a x) (max b x) (omega (arith, h))

least : (xs : List ℕ) (a : ℕ) → a ≤ fold max a xs
least [] a = omega arith
least (x ∷ xs) a = omega (arith, least xs (max a x))

behind-most : (xs ys : List ℕ) (a : ℕ) → fold max 0 ys ≤ fold max a (xs ++ ys)
behind-most [] ys a = greater ys 0 a (omega arith)
behind-most (x ∷ xs) ys a = behind-most xs ys (max a x)

-- ---- the line at the front

-- a line end at a place
at-end : (e k : ℕ) (b rest : List ℕ) → drop k b ≡ e ∷ rest → prefix_len (λ x. not (x == e)) b ≤ k
at-end e zero [] rest is = absurd cc
at-end e zero (x ∷ xs) rest is =
    let same : x ≡ e = cc in
    let test : not (x == e) ≡ false = grind (arith, nat_tests) in
    rw test (omega arith)
at-end e (suc k) [] rest is = absurd cc
at-end e (suc k) (x ∷ xs) rest is = by (not (x == e)) (at-end e k xs rest is)
  where
    by : (t : Bool) → prefix_len (λ y. not (y == e)) xs ≤ k → cond t (1 + prefix_len (λ y. not (y == e)) xs) 0 ≤ suc k
    by true later = omega (arith, later)
    by false later = omega arith

-- the first item has all of the first line
line-least : (m : Marks) (comment : Option (List ℕ)) (b : List ℕ) → prefix_len (λ x. not (x == m.line_end)) b ≤ length (text_of (item m comment b))
line-least m comment b = elim (cases_lt (length (text_of (item m comment b))) (length b)) [
  | inl inside ↦ let cut = cut-item m comment b inside in at-end m.line_end (length (text_of (item m comment b))) b cut.0 cut.1
  | inr past ↦ omega (arith, past, prefix_len-le-length (λ x. not (x == m.line_end)) b)
]

-- ---- the longest item

module _ (o : CsvReadOptions) where
  abbrev m : Marks
  m = marks_of o.parse_options

  abbrev comment : Option (List ℕ)
  comment = comment_of o.parse_options

  -- its bytes, and its line end where it has one
  abbrev size_of : ItemText × List ℕ → ℕ
  size_of part = length (text_of part.0) + cond (nat_lt 0 (length part.1)) 1 0

  -- of a text behind whole items
  behind-longest : (items rest : List ℕ) → IsDialect m comment → AreWholeItems o.parse_options items → longest_item o rest ≤ longest_item o (items ++ rest)
  behind-longest items rest apart whole =
      let parts = with_behind rest (items_behind m comment items) in
      let all : longest_item o (items ++ rest) ≡ fold max 0 (map size_of parts ++ map size_of (items_behind m comment rest)) =
      ap (λ l. fold max 0 (map size_of l)) (items_behind-append m comment items rest apart.distinct apart.prefix whole.ended whole.closed) ∙ ap (fold max 0) (map-append size_of parts (items_behind m comment rest)) in
      omega (arith, all, behind-most (map size_of parts) (map size_of (items_behind m comment rest)) 0)

  -- a text that is one line has an item as long
  line-longest : (b : List ℕ) → length b ≤ prefix_len (λ x. not (x == m.line_end)) b + 1 → length b ≤ longest_item o b
  line-longest [] short = omega arith
  line-longest (x ∷ xs) short =
      let b : List ℕ = x ∷ xs in
      let size : ℕ = length (text_of (item m comment b)) in
      let first : longest_item o b ≡ fold max (max 0 (size_of (item m comment b, drop size b))) (map size_of (items_behind m comment (drop (size + 1) b))) = ap (λ l. fold max 0 (map size_of l)) (items_behind-step m comment b (omega arith)) in
      let most : max 0 (size_of (item m comment b, drop size b)) ≤ longest_item o b = omega (arith, first, least (map size_of (items_behind m comment (drop (size + 1) b))) (max 0 (size_of (item m comment b, drop size b)))) in
      omega (arith, most, by (nat_lt 0 (length (drop size b))) refl)
    where
      by : (t : Bool) → nat_lt 0 (length (drop (length (text_of (item m comment (x ∷ xs)))) (x ∷ xs))) ≡ t → length (x ∷ xs) ≤ length (text_of (item m comment (x ∷ xs))) + cond t 1 0
      by true is = omega (arith, short, line-least m comment (x ∷ xs))
      by false is =
          let none : length (drop (length (text_of (item m comment (x ∷ xs)))) (x ∷ xs)) ≤ 0 = grind (arith, nat_tests, is) in
          omega (arith, none, length-drop (length (text_of (item m comment (x ∷ xs)))) (x ∷ xs))

  -- and so has one without a whole item
  broken-longest : (b : List ℕ) → HasNoWholeItem o.parse_options b → length b ≤ longest_item o b
  broken-longest [] none = omega arith
  broken-longest (x ∷ xs) none =
      let b : List ℕ = x ∷ xs in
      let size : ℕ = length (text_of (item m comment b)) in
      let first : longest_item o b ≡ fold max (max 0 (size_of (item m comment b, drop size b))) (map size_of (items_behind m comment (drop (size + 1) b))) = ap (λ l. fold max 0 (map size_of l)) (items_behind-step m comment b (omega arith)) in
      omega (arith, none, first, least (map size_of (items_behind m comment (drop (size + 1) b))) (max 0 (size_of (item m comment b, drop size b))))

  -- so few bytes are kept: those of an item that is not whole, behind whole items
  pub few-kept : (b items kept : List ℕ) → IsDialect m comment → head_left o b ≡ items ++ kept → AreWholeItems o.parse_options items → HasNoWholeItem o.parse_options kept → length kept ≤ most_kept o b
  few-kept b items kept apart is whole none =
      omega (arith, broken-longest kept none, behind-longest items kept apart whole, ap (longest_item o) is)

  -- or those of a line
  pub few-line : (b items kept : List ℕ) → IsDialect m comment → head_left o b ≡ items ++ kept → AreWholeItems o.parse_options items → length kept ≤ prefix_len (λ x. not (x == m.line_end)) kept + 1 → length kept ≤ most_kept o b
  few-line b items kept apart is whole short =
      omega (arith, line-longest kept short, behind-longest items kept apart whole, ap (longest_item o) is)
