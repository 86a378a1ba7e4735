-- Where the data of an input begins, step by step (docs/grammar.md, "The starting point").
use Rattle.std.specs.Prelude.{ℕ, zero, suc, ◌+◌, ◌-◌, ◌<◌, Bool, true, false, not, ◌||◌, ◌==◌, nat_eq, if◌then◌else◌, List, [], ◌∷◌, length, drop, Option, None, Some}
use Rattle.std.specs.List.{prefix_len, starts_with}
use Rattle.std.specs.Option.{option_map, option_and_then}
use Rattle.pl_frame.specs.Dialect.{Marks, IsDialect}
use Rattle.pl_frame.specs.ByteOrderMark.{byte_order_mark}
use Rattle.pl_scan.specs.Comment.{is_comment}
use Rattle.pl_scan.specs.Items.{text_of, item}

-- what is skipped: lines at the head, items before the header, the header if there is one, and items behind it
pub record Skips : Type 0 where
  pub lines : ℕ
  pub rows : ℕ
  pub has_header : Bool
  pub after_header : ℕ

-- these skips
abbrev pub skips : ℕ → ℕ → Bool → ℕ → Skips
skips lines rows has_header after_header = record { lines = lines; rows = rows; has_header = has_header; after_header = after_header }

-- lines and items before the header are both to be skipped
abbrev pub SkipsTwice : Skips → Type 0
SkipsTwice o = (0 < o.lines) × (0 < o.rows)

-- these are a dialect, and lines and items before the header are not both to be skipped
abbrev pub CanStart : Skips → Marks → Option (List ℕ) → Type 0
CanStart o m comment = IsDialect m comment × (¬ SkipsTwice o)

-- all of b, where nothing is left behind
abbrev pub unless_empty : List ℕ → List ℕ → List ℕ
unless_empty b [] = b
unless_empty b (x ∷ xs) = x ∷ xs

-- through the first line end, where a byte follows it
abbrev pub skip_line : ℕ → List ℕ → List ℕ
skip_line e b = unless_empty b (drop (prefix_len (λ x. not (x == e)) b + 1) b)

-- through the first line end up to n times, each time only where a byte follows it
abbrev pub skip_lines : ℕ → ℕ → List ℕ → List ℕ
skip_lines e zero b = b
skip_lines e (suc n) b = skip_lines e n (skip_line e b)

-- without a byte order mark at the front
abbrev pub cut_mark : List ℕ → List ℕ
cut_mark b = if starts_with nat_eq b byte_order_mark then drop 3 b else b

-- without the line ends and carriage returns at the front
abbrev pub cut_ends : ℕ → List ℕ → List ℕ
cut_ends e b = drop (prefix_len (λ x. x == e || x == 13) b) b

-- what stands behind the first item and its line end
abbrev pub behind_item : Marks → Option (List ℕ) → List ℕ → List ℕ
behind_item m comment b = drop (length (text_of (item m comment b)) + 1) b

-- behind n items, where there are so many
abbrev pub pass_items : Marks → Option (List ℕ) → ℕ → List ℕ → Option (List ℕ)
pass_items m comment zero b = Some b
pass_items m comment (suc n) [] = None
pass_items m comment (suc n) (x ∷ xs) = pass_items m comment n (behind_item m comment (x ∷ xs))

-- behind the comments that come next, as long as n lasts
abbrev pub pass_comments_within : Marks → Option (List ℕ) → ℕ → List ℕ → List ℕ
pass_comments_within m comment zero b = b
pass_comments_within m comment (suc n) [] = []
pass_comments_within m comment (suc n) (x ∷ xs) =
    elim (is_comment comment (x ∷ xs)) [ true ↦ pass_comments_within m comment n (behind_item m comment (x ∷ xs)) | false ↦ x ∷ xs ]

-- behind the comments that come next
abbrev pub pass_comments : Marks → Option (List ℕ) → List ℕ → List ℕ
pass_comments m comment b = pass_comments_within m comment (length b) b

-- behind the next item, if there is one
abbrev pub pass_one : Marks → Option (List ℕ) → List ℕ → List ℕ
pass_one m comment [] = []
pass_one m comment (x ∷ xs) = behind_item m comment (x ∷ xs)

-- what is left behind the head: skipped lines, or else a byte order mark, and then, unless they are kept, leading line ends
abbrev pub cut_head : ℕ → Bool → ℕ → List ℕ → List ℕ
cut_head lines keep e b =
    let text = if lines == 0 then cut_mark b else skip_lines e lines b in
    if keep then text else cut_ends e text

-- behind the header, if there is one
abbrev pub pass_header : Bool → Marks → Option (List ℕ) → List ℕ → List ℕ
pass_header has_header m comment b = if has_header then pass_one m comment b else b

-- the data: what is left behind the head, the skipped rows, the comments, the header and the rows skipped behind it
unfoldable pub data_left : Skips → Bool → Marks → Option (List ℕ) → List ℕ → Option (List ℕ)
data_left o keep m comment b =
    option_and_then (λ rest. pass_items m comment o.after_header (pass_header o.has_header m comment (pass_comments m comment rest)))
    (pass_items m comment o.rows (cut_head o.lines keep m.line_end b))

-- the place where the data begins
abbrev pub start : Skips → Bool → Marks → Option (List ℕ) → List ℕ → Option ℕ
start o keep m comment b = option_map (λ rest. length b - length rest) (data_left o keep m comment b)
