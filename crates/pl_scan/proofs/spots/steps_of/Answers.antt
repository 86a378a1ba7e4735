use Rattle.std.proofs.Common.{◌≡◌, false, true, cond, ◌==◌, List, [], length, get_or, replicate, sym, ap, ◌∙◌, arith}
use Rattle.std.proofs.lemmas.List.{get_or-replicate, length-replicate, length-set}
use Rattle.pl_scan.specs.Fields.{is_quote}
use Rattle.pl_scan.specs.SpotRows.{row_of}
use Rattle.pl_scan.proofs.SpotRowLaws.{put-row, stop-rows}
use Rattle.pl_scan.proofs.spots.steps_of.Goals.{in-Some, in_default}
use Rattle.pl_scan.proofs.spots.steps_of.Goals as goal

pub returns-clause-rows : goal.returns-clause-rows
returns-clause-rows c = λ x h.
    let rows = c.match-quote_char.rows in
    let quote = c.match-quote_char.quote_char in
    let others = replicate 256 (row_of false false) in
    let many = length-replicate 256 (row_of false false) in
    let is : (length rows ≡ 256) × (get_or rows x [] ≡ row_of false (is_quote quote x)) =
    elim c.match-quote_char.branch [
      | in-Some w ↦ (
        ap length w.rows-is ∙ length-set others w.in-Some.quote (row_of false true) ∙ many,
        ap (λ (r : List (List _)). get_or r x []) w.rows-is
            ∙ put-row others w.in-Some.quote x (row_of false true) (omega (arith, many))
            ∙ ap (cond (x == w.in-Some.quote) (row_of false true)) (get_or-replicate 256 x (row_of false false) [] h)
            ∙ ap (λ o. row_of false (is_quote o x)) (sym w.quote_char-is),
      )
      | in_default w ↦ (
        ap length w.rows-is ∙ many,
        ap (λ (r : List (List _)). get_or r x []) w.rows-is
            ∙ get_or-replicate 256 x (row_of false false) [] h
            ∙ ap (λ o. row_of false (is_quote o x)) (sym (w.quote_char-is ∙ w.in_default.is)),
      )
    ] in
    stop-rows rows c.args.separator c.args.eol_char x (is_quote quote x) (omega (arith, is.0)) is.1
