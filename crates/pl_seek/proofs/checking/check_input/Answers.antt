use Rattle.std.proofs.Common.{sym, ◌∙◌, subst}
use Rattle.pl_seek.specs.Building.{IsBuildFault}
use Rattle.pl_seek.proofs.BuildLaws.{may-index, early-fault, late-fault}
use Rattle.pl_seek.proofs.checking.check_input.Goals as goal

pub returns-in-Err-clause-refused : goal.returns-in-Err-clause-refused
returns-in-Err-clause-refused c =
    subst (IsBuildFault c.args.read.now c.args.input.now) (sym c.fault_of.ensures)
    (early-fault c.args.read.now c.args.input.now (sym c.is_wrong.ensures ∙ c.if-is_wrong.false) c.in-Err.cause c.in-Err.ensures.refused)

pub returns-in-Ok-clause-sound : goal.returns-in-Ok-clause-sound
returns-in-Ok-clause-sound c =
    may-index c.args.read.now c.args.input.now (sym c.is_wrong.ensures ∙ c.if-is_wrong.false) c.in_default.ensures.passed c.in-Ok.ensures.sound

pub returns-in-Err-prepare-clause-refused : goal.returns-in-Err-prepare-clause-refused
returns-in-Err-prepare-clause-refused c =
    subst (IsBuildFault c.args.read.now c.args.input.now) (sym c.fault_of-in-Err-prepare.ensures)
    (late-fault c.args.read.now c.args.input.now (sym c.is_wrong.ensures ∙ c.if-is_wrong.false) c.in_default.ensures.passed c.in-Err-prepare.cause c.in-Err-prepare.ensures.refused)
