-- Comments and records of delimited text, from the left (docs/grammar.md, "Items"; RFC 4180, section 2, rules 1 and 2).
use Rattle.std.specs.Prelude.{ℕ, zero, suc, ◌+◌, not, ◌==◌, if◌then◌else◌, List, [], ◌∷◌, map, length, take, drop, Option, None, Some, take_while}
use Rattle.std.specs.List.{filter_map}
use Rattle.pl_frame.specs.Dialect.{Marks}
use Rattle.pl_scan.specs.declared.items.Item.{Item}
use Rattle.pl_scan.specs.declared.items.Item.TheVariants.{Comment, Record}
use Rattle.pl_scan.specs.Comment.{is_comment}
use Rattle.pl_scan.specs.Fields.{extent}

-- a comment or a record, without its line end
pub data ItemText : Type 0 where
  CommentText : List ℕ → ItemText
  RecordText : List ℕ → ItemText

-- the bytes of an item
abbrev pub text_of : ItemText → List ℕ
text_of (CommentText b) = b
text_of (RecordText b) = b

-- the first item of a list that is not empty: a comment up to the first line end where the list begins with the comment
-- prefix, else a record
abbrev pub item : Marks → Option (List ℕ) → List ℕ → ItemText
item m comment b =
    if is_comment comment b then CommentText (take_while (λ x. not (x == m.line_end)) b)
    else RecordText (take (extent m b) b)

-- the items, each with what stands behind it, as long as n lasts
abbrev pub items_behind_within : Marks → Option (List ℕ) → ℕ → List ℕ → List (ItemText × List ℕ)
items_behind_within m comment zero b = []
items_behind_within m comment (suc n) [] = []
items_behind_within m comment (suc n) (x ∷ xs) =
    let first = item m comment (x ∷ xs) in
    let size = length (text_of first) in
    (first, drop size (x ∷ xs)) ∷ items_behind_within m comment n (drop (size + 1) (x ∷ xs))

-- the items of a list, each with what stands behind it: none of the empty list, else the first item and then, with one
-- line end dropped, the items of what is left; so a blank line is a record with one empty field
unfoldable pub items_behind : Marks → Option (List ℕ) → List ℕ → List (ItemText × List ℕ)
items_behind m comment b = items_behind_within m comment (length b) b

-- the items of a list
abbrev pub items : Marks → Option (List ℕ) → List ℕ → List ItemText
items m comment b = map (λ part. part.0) (items_behind m comment b)

-- the text of an item that is a record
abbrev pub record_text : ItemText → Option (List ℕ)
record_text (CommentText b) = None
record_text (RecordText b) = Some b

-- the records of a text, comments left out
abbrev pub records : Marks → Option (List ℕ) → List ℕ → List (List ℕ)
records m comment b = filter_map record_text (items m comment b)

-- an item that the iterator gives, without where it lies in memory
abbrev pub item_text : Item → ItemText
item_text (Comment b) = CommentText (b.now)
item_text (Record b) = RecordText (b.now)
