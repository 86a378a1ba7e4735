-- Lines, text by text.
use Rattle.std.proofs.Common.{◌≡◌, ℕ, suc, ◌+◌, ◌-◌, ◌<◌, ◌≤◌, List, [], ◌∷◌, ◌++◌, map, length, take, get_or, refl, sym, ◌∙◌, ap, append_assoc, arith}
use Rattle.std.specs.List.{flat_map, join_with_byte}
use Rattle.std.proofs.lemmas.List.{take_more, map-append, length-map, length-take-le}
use Rattle.pl_text.specs.FrameText.{WriteOptions}
use Rattle.pl_write.specs.Lines.{cell_in_line, AreLines}
use Rattle.pl_write.specs.Strips.{cell_in_strip, joined_strips, strip_line, strip_lines}
use Rattle.pl_write.specs.Writing.{separator_before}
use Rattle.pl_write.specs.declared.strips.Strip.{Strip}

join-push : (s : ℕ) (x y : List ℕ) (xs : List (List ℕ)) → join_with_byte s ((x ∷ xs) ++ y ∷ []) ≡ join_with_byte s (x ∷ xs) ++ (s ∷ y)
join-push s x y [] = refl
join-push s x y (z ∷ xs) = ap (λ l. x ++ (s ∷ l)) (join-push s z y xs) ∙ sym (append_assoc x (s ∷ join_with_byte s (z ∷ xs)) (s ∷ y))

-- one text more
pub join-more : (s : ℕ) (xs : List (List ℕ)) (y : List ℕ) → join_with_byte s (xs ++ y ∷ []) ≡ (join_with_byte s xs ++ separator_before s (length xs)) ++ y
join-more s [] y = refl
join-more s (x ∷ xs) y = join-push s x y xs ∙ sym (append_assoc (join_with_byte s (x ∷ xs)) (s ∷ []) y)

-- what a loop over the columns has written of a line
pub joined_more : {X : Type 0} (s : ℕ) (f : X → List ℕ) (xs : List X) (i : ℕ) (d : X) (old now after : List ℕ) → i < length xs
    → now ≡ old ++ join_with_byte s (map f (take i xs)) → after ≡ (now ++ separator_before s i) ++ f (get_or xs i d)
    → after ≡ old ++ join_with_byte s (map f (take (i + 1) xs))
joined_more s f xs i d old now after inside so_far next =
    let texts = map f (take i xs) in
    let one_more : map f (take (i + 1) xs) ≡ texts ++ f (get_or xs i d) ∷ [] = ap (map f) (take_more xs i d inside) ∙ map-append f (take i xs) (get_or xs i d ∷ []) in
    let count : length texts ≡ i = length-map-take f xs i inside in
    next
    ∙ ap (λ l. (l ++ separator_before s i) ++ f (get_or xs i d)) so_far
    ∙ append_assoc (old ++ join_with_byte s texts) (separator_before s i) (f (get_or xs i d))
    ∙ append_assoc old (join_with_byte s texts) (separator_before s i ++ f (get_or xs i d))
    ∙ ap (λ l. old ++ l) (sym (append_assoc (join_with_byte s texts) (separator_before s i) (f (get_or xs i d)))
    ∙ ap (λ k. (join_with_byte s texts ++ separator_before s k) ++ f (get_or xs i d)) (sym count)
    ∙ sym (join-more s texts (f (get_or xs i d)))
    ∙ ap (join_with_byte s) (sym one_more))
  where
    length-map-take : {X : Type 0} (f : X → List ℕ) (xs : List X) (i : ℕ) → i < length xs → length (map f (take i xs)) ≡ i
    length-map-take f xs i inside = simp length-map (length-take-le i xs (omega arith))

-- a column more in the line of a row
pub line-more : (o : WriteOptions) (strips : List Strip) (i : ℕ) (strip : Strip) (row : ℕ) (now after : List ℕ) → i < length strips → strip ≡ get_or strips i strip
    → now ≡ joined_strips o (take i strips) row → after ≡ now ++ (separator_before o.separator i ++ cell_in_strip o strip row) → after ≡ joined_strips o (take (i + 1) strips) row
line-more o strips i strip row now after inside is so_far next =
    let f = λ (x : Strip). cell_in_strip o x row in
    joined_more o.separator f strips i strip [] now after inside so_far
    (next ∙ sym (append_assoc now (separator_before o.separator i) (f strip)) ∙ ap (λ x. (now ++ separator_before o.separator i) ++ f x) is)

-- the cell of a row, counted from the first that the strip has
pub cell-behind : (o : WriteOptions) (strip : Strip) (place first k : ℕ) → strip.before ≤ first
    → cell_in_line o strip.column.now place (first - strip.before + k) ≡ separator_before o.separator place ++ cell_in_strip o strip (first + k)
cell-behind o strip place first k begins =
    let row : first - strip.before + k ≡ first + k - strip.before = omega (arith, begins) in
    ap (cell_in_line o strip.column.now place) row

-- lines with their ends are those of the rows
pub lines-are : (o : WriteOptions) (strips : List Strip) (first : ℕ) (lines : List (List ℕ)) → AreLines (joined_strips o strips) first lines
    → flat_map (λ line. line ++ o.terminator) lines ≡ strip_lines o strips first (length lines)
lines-are o strips first [] are = refl
lines-are o strips first (line ∷ lines) are =
    let here : line ≡ joined_strips o strips first = are 0 (omega arith) ∙ ap (joined_strips o strips) (omega arith) in
    let rest : AreLines (joined_strips o strips) (first + 1) lines = λ k h. are (suc k) (omega arith) ∙ ap (joined_strips o strips) (omega arith) in
    ap (λ l. (l ++ o.terminator) ++ flat_map (λ line. line ++ o.terminator) lines) here
    ∙ ap (λ l. strip_line o strips first ++ l) (lines-are o strips (first + 1) lines rest)
