use Rattle.std.proofs.Common.{◌++◌, take, ap, ◌∙◌, arith}
use Rattle.pl_verbatim.proofs.RowCopyLaws.{zeros-taken}
use Rattle.pl_verbatim.proofs.changes.put_zeros.Goals as goal

pub returns-clause-text : goal.returns-clause-text
returns-clause-text c =
    c.put_bytes.ensures.text ∙ ap (λ l. take c.args.place c.args.out.now ++ l) (zeros-taken c.args.zeros (omega (arith, c.if-zeros-eq0.false)) c.requires.few)
