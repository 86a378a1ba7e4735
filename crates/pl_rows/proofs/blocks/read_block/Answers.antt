use Rattle.std.proofs.Common.{map, length, sym, ◌∙◌, ap, refl, ◌≡◌}
use Rattle.std.proofs.lemmas.List.{length-map}
use Rattle.pl_table.specs.Rows.{table_rows, ended_row}
use Rattle.pl_table.specs.Tables.{fields_of, cut_text}
use Rattle.pl_rows.specs.Blocks.{within_limit}
use Rattle.pl_rows.proofs.BlockLaws.{judged-closed}
use Rattle.pl_rows.proofs.blocks.read_block.Goals as goal

pub returns-then-add_rows : goal.returns-then-add_rows
returns-then-add_rows c =
    let plan = c.args.plan.now in
    let text = c.args.block.now in
    let table = c.cut.new.self in
    let size : length (table_rows text table) ≡ length table = length-map (fields_of text table) ended_row ∙ length-map table (λ cuts. map (cut_text text) cuts) in
    record {
      found = table_rows text table;
      cut = c.in-Ok.ensures.rows;
      inside = c.in-Ok.ensures.fits;
      count = c.within_limit-taken.ensures.is ∙ ap (within_limit plan.limit c.args.row) (c.len-2.ensures ∙ sym size);
      judged = judged-closed plan (fields_of text table) c.in-Ok.ensures.closed;
      read = c.if-add_rows.ensures.added refl;
    }
