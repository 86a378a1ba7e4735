-- Lines, cut by quote parity alone (docs/grammar.md, "Lines").
use Rattle.std.specs.Borrow.{Bor}
use Rattle.std.specs.Prelude.{ℕ, zero, suc, ◌+◌, not, ◌==◌, if◌then◌else◌, List, [], ◌∷◌, length, drop, Option, unwrap_or, find, take_while}
use Rattle.pl_scan.specs.Comment.{is_comment}
use Rattle.pl_scan.specs.Fields.{splits}
use Rattle.pl_scan.specs.LineEnds.{is_even_cut}

-- the first line: a comment up to the first line end, or the shortest prefix with an even number of quotes that a line end
-- follows, or all
abbrev pub line : Option ℕ → ℕ → Option (List ℕ) → List ℕ → List ℕ
line quote e comment b =
    if is_comment comment b then take_while (λ x. not (x == e)) b
    else (unwrap_or (find (is_even_cut quote e) (splits b)) (b, [])).0

-- the lines, as long as n lasts
abbrev pub lines_within : Option ℕ → ℕ → Option (List ℕ) → ℕ → List ℕ → List (List ℕ)
lines_within quote e comment zero b = []
lines_within quote e comment (suc n) [] = []
lines_within quote e comment (suc n) (x ∷ xs) =
    let first = line quote e comment (x ∷ xs) in
    first ∷ lines_within quote e comment n (drop (length first + 1) (x ∷ xs))

-- the lines: none of the empty list, else the first line and then, with one line end dropped, the lines of what is left;
-- the number of quotes begins anew with each line
unfoldable pub lines : Option ℕ → ℕ → Option (List ℕ) → List ℕ → List (List ℕ)
lines quote e comment b = lines_within quote e comment (length b) b

-- the bytes of a line that the iterator gives
abbrev pub line_text : Bor (List ℕ) → List ℕ
line_text item = item.now
