use Rattle.pl_cells.specs.InitBuffers.{state_of}
use Rattle.pl_cells.proofs.BufferLaws.{quoted_inside}
use Rattle.pl_cells.proofs.buffer.Buffer.add_quoted_field.Goals as goal

pub returns-in-Some : goal.returns-in-Some
returns-in-Some c =
    quoted_inside (state_of c.args.self.now) (state_of c.add_quoted.new.self) c.args.ignore_errors c.args.quote c.args.field.now c.in-Some.text.now c.add_quoted.result
    c.in-Some.ensures.0 c.in-Some.ensures.1 c.add_quoted.ensures
