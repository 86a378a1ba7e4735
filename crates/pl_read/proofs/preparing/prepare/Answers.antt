use Rattle.std.proofs.Common.{◌≡◌, false, sym, ◌∙◌, subst}
use Rattle.std.specs.Prelude.{IfOk, OnOk, IfErr, None}
use Rattle.pl_frame.specs.Compression.{is_compressed}
use Rattle.pl_options.specs.FirstCause.{IsFault}
use Rattle.pl_read.specs.Preparing.{IsPrepared}
use Rattle.pl_read.proofs.SettlingLaws.{opening-early, opening-settled}
use Rattle.pl_read.proofs.preparing.prepare.Goals as goal

pub returns-in-Ok : goal.returns-in-Ok
returns-in-Ok c =
    let o = c.args.options.now in
    let input = c.args.input.now in
    let result = c.prepare_settled.result in
    let plain : is_compressed input ≡ false = sym c.is_compressed.ensures ∙ c.if-is_compressed.false in
    let same = opening-settled o input c.in-Ok.schema c.in-Ok.ensures.settled plain c.in-Ok.ensures.sound in
    record {
      prepared = subst (λ schema. IfOk result (IsPrepared o schema input)) c.in-Ok.ensures.settled c.prepare_settled.ensures.prepared;
      sound = subst (λ is. OnOk result (is ≡ None)) same c.prepare_settled.ensures.sound;
      refused = subst (λ is. IfErr result (IsFault is)) same c.prepare_settled.ensures.refused;
    }

pub returns-in-Err-clause-refused : goal.returns-in-Err-clause-refused
returns-in-Err-clause-refused c =
    opening-early c.args.options.now c.args.input.now c.in-Err.fault (sym c.is_compressed.ensures ∙ c.if-is_compressed.false) c.in-Err.ensures.refused
