-- Fields and records of delimited text, by prefixes and counts from the left (docs/grammar.md, "Fields" and "Records").
use Rattle.std.specs.Borrow.{Bor}
use Rattle.std.specs.Prelude.{ℕ, zero, suc, ◌+◌, ◌-◌, ◌%◌, Bool, true, false, ◌&&◌, ◌||◌, not, ◌==◌, if◌then◌else◌, List, [], ◌∷◌, map, length, take, drop, Option, None, Some, unwrap_or, find, count_by, sum_by, take_while}
use Rattle.std.specs.List.{prefix_len}
use Rattle.pl_frame.specs.Dialect.{Marks}

-- the byte is the quote
abbrev pub is_quote : Option ℕ → ℕ → Bool
is_quote None x = false
is_quote (Some q) x = x == q

-- the number of quotes
abbrev pub quotes : Marks → List ℕ → ℕ
quotes m b = count_by (is_quote m.quote) b

-- the byte is neither a separator nor a line end
abbrev pub is_plain : Marks → ℕ → Bool
is_plain m x = not (x == m.separator || x == m.line_end)

-- the list is empty, or begins with a separator or a line end
abbrev pub is_stop : Marks → List ℕ → Bool
is_stop m [] = true
is_stop m (x ∷ xs) = not (is_plain m x)

-- the list begins with a quote
abbrev pub begins_quoted : Option ℕ → List ℕ → Bool
begins_quoted quote [] = false
begins_quoted quote (x ∷ xs) = is_quote quote x

-- the ways to cut a list in two, the shortest prefix first
abbrev pub splits : List ℕ → List (List ℕ × List ℕ)
splits [] = ([], []) ∷ []
splits (x ∷ xs) = ([], x ∷ xs) ∷ map (λ cut. (x ∷ cut.0, cut.1)) (splits xs)

-- a prefix with an even number of quotes, followed by a separator, a line end or the end
abbrev pub ends_quoted : Marks → List ℕ × List ℕ → Bool
ends_quoted m cut = quotes m cut.0 % 2 == 0 && is_stop m cut.1

-- a quoted field and what is left behind it: the shortest prefix that ends so, or the whole list if there is none
-- (RFC 4180, section 2, rules 5 to 7)
unfoldable pub cut_quoted : Marks → List ℕ → List ℕ × List ℕ
cut_quoted m b = unwrap_or (find (ends_quoted m) (splits b)) (b, [])

-- any other field and what is left behind it: the longest prefix without separator and line end (RFC 4180, section 2, rule 4)
abbrev pub cut_plain : Marks → List ℕ → List ℕ × List ℕ
cut_plain m b = (take_while (is_plain m) b, drop (prefix_len (is_plain m) b) b)

-- the first field and what is left behind it: a quoted field where the list begins with the quote, else any other
unfoldable pub cut_field : Marks → List ℕ → List ℕ × List ℕ
cut_field m b = if begins_quoted m.quote b then cut_quoted m b else cut_plain m b

-- the first field
abbrev pub field : Marks → List ℕ → List ℕ
field m b = (cut_field m b).0

-- what stands behind a first byte that is s, if it is
abbrev pub behind : ℕ → List ℕ → Option (List ℕ)
behind s [] = None
behind s (x ∷ xs) = if x == s then Some xs else None

-- the fields of the first record, as long as n lasts
abbrev pub fields_within : Marks → ℕ → List ℕ → List (List ℕ)
fields_within m zero b = []
fields_within m (suc n) b =
    field m b ∷ elim (behind m.separator (cut_field m b).1) [ None ↦ [] | Some rest ↦ fields_within m n rest ]

-- the fields of the first record: the first field and, where a separator follows it, the fields of what stands behind
-- that; so one empty field stands behind a last separator, which RFC 4180 (section 2, rule 4) forbids
unfoldable pub fields : Marks → List ℕ → List (List ℕ)
fields m b = fields_within m (length b + 1) b

-- the fields, each with whether it begins with the quote
abbrev pub marked_fields : Marks → List ℕ → List (List ℕ × Bool)
marked_fields m b = map (λ f. (f, begins_quoted m.quote f)) (fields m b)

-- the fields that are left of a record, given what stands behind its last separator so far, if there was one
abbrev pub fields_left : Marks → Option (List ℕ) → List (List ℕ × Bool)
fields_left m None = []
fields_left m (Some rest) = marked_fields m rest

-- the bytes of a field, and whether it is quoted
abbrev pub field_text : Bor (List ℕ) × Bool → List ℕ × Bool
field_text item = (item.0.now, item.1)

-- the two parts of a list at a place
abbrev pub cut_at : ℕ → List ℕ → List ℕ × List ℕ
cut_at n b = (take n b, drop n b)

-- the number of bytes of the first record: of its fields and of the separators between them
abbrev pub extent : Marks → List ℕ → ℕ
extent m b = sum_by length (fields m b) + (length (fields m b) - 1)
