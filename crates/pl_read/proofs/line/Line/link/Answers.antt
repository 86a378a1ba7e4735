use Rattle.pl_read.proofs.line.Line.link.Goals as goal

pub link_first-requires-clause-line : goal.link_first-requires-clause-line
link_first-requires-clause-line g c = (c.requires.line.0, c.loop.invariant c.requires.line.0 c.requires.line.1)
