use Rattle.std.proofs.Common.{◌-◌, take, drop}
use Rattle.pl_frame.specs.Parts.{part_cells}
use Rattle.pl_frame.proofs.HeldLaws.{held-run, suits-more}
use Rattle.pl_frame.proofs.gathered.Gathered.push_run.Goals as goal

pub returns-clause-suits : goal.returns-clause-suits
returns-clause-suits c =
    let type = c.args.dtype.now in
    let values = part_cells c.args.part.now in
    suits-more type c.args.self.now c.push_part.new.self (take (c.args.to - c.args.from) (drop c.args.from values)) c.in_ok-push_part.ensures.way c.requires.suits
    (held-run type values (c.args.to - c.args.from) c.args.from c.requires.held) c.in_ok-push_part.ensures.cells
