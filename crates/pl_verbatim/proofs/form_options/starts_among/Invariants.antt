-- The bytes with which the texts so far begin are marked.
use Rattle.std.proofs.Common.{take}
use Rattle.pl_verbatim.specs.Nulls.{AreStarts}
use Rattle.pl_verbatim.proofs.form_options.starts_among.Given as goal

abbrev pub invariant-loop-text : goal.invariant-loop-text
invariant-loop-text l = AreStarts (take l.text-index l.texts) l.starts
