use Rattle.std.proofs.Common.{◌≡◌, ◌∙◌, ap, sym, ◌+◌, ◌++◌, take, drop, rules, arith, add_assoc, append_assoc, length-drop}
use Rattle.std.proofs.lemmas.List.{take-append-drop}
use Rattle.pl_frame.specs.Dialect.{marks}
use Rattle.pl_scan.specs.RowStates.{rows_behind}
use Rattle.pl_scan.proofs.row_counter.count_block.Goals as goal

pub loop-left-preserved : goal.loop-left-preserved
loop-left-preserved c =
    let m = marks c.args.separator c.args.quote_char c.args.eol_char in
    let left = c.loop-left.left.now in
    let len = c.count_front-next.result.2 in
    let fits = c.count_front-next.ensures.fits in
    let size = length-drop len left in
    let right : c.split_at.result.1.now ≡ drop len left = search rules in
    rw right record {
      few = omega (arith, c.count_front-next.ensures.few, fits, size, c.loop-left.invariant.few);
      counted = λ rest.
          let joined : take len left ++ (drop len left ++ rest) ≡ left ++ rest = sym (append_assoc (take len left) (drop len left) rest) ∙ ap (λ l. l ++ rest) (take-append-drop len left) in
          add_assoc c.loop-left.rows c.count_front-next.result.1 _
          ∙ ap (λ n. c.loop-left.rows + n) (c.count_front-next.ensures.rows (drop len left ++ rest) ∙ ap (rows_behind m c.loop-left.behind) joined)
          ∙ c.loop-left.invariant.counted rest;
    }
