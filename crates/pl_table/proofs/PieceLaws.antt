-- The rows of a text with more behind it.
use Rattle.std.proofs.Common.{◌≡◌, ℕ, ◌<◌, Bool, false, ◌==◌, List, [], ◌∷◌, ◌++◌, length, refl, sym, ◌∙◌, ap, arith, length-append}
use Rattle.std.specs.Prelude.{Option}
use Rattle.std.specs.List.{filter_map}
use Rattle.std.proofs.lemmas.Bool.Decides.{nat_tests}
use Rattle.std.proofs.lemmas.List.Elements.{filter_map-append}
use Rattle.pl_frame.specs.Dialect.{Marks, AreDistinct, IsCommentPrefix}
use Rattle.pl_scan.specs.Closing.{ends_open}
use Rattle.pl_scan.specs.Fields.{fields}
use Rattle.pl_scan.specs.Items.{ItemText, CommentText, RecordText, items_behind}
use Rattle.pl_scan.specs.Laws.{IsEnded}
use Rattle.pl_scan.proofs.AppendLaws.{with_behind, HaveBehind, items_behind-append, HaveBehind-closed}
use Rattle.pl_table.specs.Rows.{Row, row_of, rows}

rows-behind : (m : Marks) (rest : List ℕ) (parts : List (ItemText × List ℕ)) → HaveBehind parts → filter_map (row_of m) (with_behind rest parts) ≡ filter_map (row_of m) parts
rows-behind m rest [] have = refl
rows-behind m rest ((CommentText text, behind) ∷ parts) have = rows-behind m rest parts have.1
rows-behind m rest ((RecordText text, behind) ∷ parts) have =
    let some : 0 < length behind = have.0 in
    let now : (length behind == 0) ≡ false = grind (arith, nat_tests) in
    let more : 0 < length (behind ++ rest) = omega (arith, length-append behind rest) in
    let long : (length (behind ++ rest) == 0) ≡ false = grind (arith, nat_tests) in
    ap (λ (t : Bool). record { fields = fields m text; is_end = t } ∷ filter_map (row_of m) (with_behind rest parts)) (long ∙ sym now)
    ∙ ap (λ (others : List Row). record { fields = fields m text; is_end = length behind == 0 } ∷ others) (rows-behind m rest parts have.1)

-- Where a text is empty or ends with a line end, and does not end within a quoted field, the rows of it with more behind it are
-- its own and then those of what stands behind it, whatever that is: a line end stands behind each record of the text.
pub rows-append : (m : Marks) (comment : Option (List ℕ)) (piece rest : List ℕ) → AreDistinct m → IsCommentPrefix m.line_end comment → IsEnded m.line_end piece → ends_open m comment piece ≡ false
    → rows m comment (piece ++ rest) ≡ rows m comment piece ++ rows m comment rest
rows-append m comment piece rest distinct free ended closed =
    ap (filter_map (row_of m)) (items_behind-append m comment piece rest distinct free ended closed)
    ∙ filter_map-append (row_of m) (with_behind rest (items_behind m comment piece)) (items_behind m comment rest)
    ∙ ap (λ l. l ++ rows m comment rest) (rows-behind m rest (items_behind m comment piece) (HaveBehind-closed m comment piece distinct free ended closed))
