use Rattle.std.proofs.Common.{◌≡◌, ap, subst}
use Rattle.std.specs.Prelude.{IfOk, OnOk, IfErr, None}
use Rattle.pl_options.specs.FirstCause.{IsFault}
use Rattle.pl_read.specs.Options.{settled}
use Rattle.pl_read.proofs.SettlingLaws.{settling-early, settling-late}
use Rattle.pl_read.proofs.settling.settled_schema.Goals as goal

pub returns-in-Ok : goal.returns-in-Ok
returns-in-Ok c =
    let result = c.with_given_types.result in
    let same = settling-late c.args.options.now c.args.input.now c.in-Ok.schema c.in-Ok.ensures.schema c.in-Ok.ensures.sound in
    record {
      settled = subst (λ is. IfOk result (λ schema. schema ≡ is)) (ap (settled c.args.options.now) c.in-Ok.ensures.schema) c.with_given_types.ensures.settled;
      sound = subst (λ is. OnOk result (is ≡ None)) same c.with_given_types.ensures.sound;
      refused = subst (λ is. IfErr result (IsFault is)) same c.with_given_types.ensures.refused;
    }

pub returns-in-Err-clause-refused : goal.returns-in-Err-clause-refused
returns-in-Err-clause-refused c = settling-early c.args.options.now c.args.input.now c.in-Err.fault c.in-Err.ensures.refused
