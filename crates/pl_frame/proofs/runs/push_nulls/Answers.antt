use Rattle.std.proofs.Common.{rules}
use Rattle.pl_frame.specs.Parts.{part_cells}
use Rattle.pl_frame.proofs.HeldLaws.{nulls_run}
use Rattle.pl_frame.proofs.runs.push_nulls.Goals as goal

pub returns-in-Some : goal.returns-in-Some
returns-in-Some c = nulls_run (part_cells c.args.part.now) c.args.len.now c.in-Some.more c.args.from c.args.to c.requires.held c.requires.rows.0 c.requires.rows.1 (search rules)
