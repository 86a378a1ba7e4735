use Rattle.std.proofs.Common.{ap, subst}
use Rattle.pl_cells.specs.InitBuffers.{state_of}
use Rattle.pl_cells.specs.BufferValue.{Answers, reading_with}
use Rattle.pl_cells.specs.Cells.{Cell}
use Rattle.pl_cells.specs.Cells as cells
use Rattle.pl_cells.specs.NullValues.{means_null}
use Rattle.pl_rows.specs.Plan.{rules_of}
use Rattle.pl_rows.proofs.field.add_field.Goals as goal

pub returns : goal.returns
returns c =
    let rules = rules_of c.args.plan.now in
    let old = state_of c.args.buffer.now in
    let is =
    ap (λ e. cells.cell (reading_with e rules.reading.missing_is_null rules.reading.ignore_errors) (means_null rules.nulls c.args.column) rules.quote_char old.dtype c.args.field.now) c.requires.rules.1 in
    subst (λ (v : Cell). Answers old (state_of c.add_field.new.self) v c.add_field.result) is c.add_field.ensures
