use Rattle.std.proofs.Common.{◌≡◌, sym, ◌∙◌, ap, subst}
use Rattle.std.specs.Prelude.{ℕ, List, Option, IfOk, OnOk, IfErr, None, drop, unwrap_or, []}
use Rattle.pl_frame.specs.Schema.{Entry}
use Rattle.pl_csv_c.specs.Views.{IsFrameKept}
use Rattle.pl_options.specs.FirstCause.{IsFault}
use Rattle.pl_read.specs.Options.{settled_schema}
use Rattle.pl_read.specs.Reading.{frame_of}
use Rattle.pl_read.specs.Rows.{data_frame}
use Rattle.pl_read.specs.Steps.{late_cause, data_cause}
use Rattle.pl_read.proofs.PreparingLaws.{IsPrepared-own}
use Rattle.pl_read.proofs.SettlingLaws.{late-opening, late-data}
use Rattle.pl_csv_c.proofs.alone.read_checked.Goals as goal

pub read_prepared-requires-clause-prepared : goal.read_prepared-requires-clause-prepared
read_prepared-requires-clause-prepared c = IsPrepared-own c.args.options.now (settled_schema c.args.options.now c.args.input.now) c.args.input.now c.in-Ok.prepared c.in-Ok.ensures.prepared

pub returns-in-Ok : goal.returns-in-Ok
returns-in-Ok c =
    let o = c.args.options.now in
    let input = c.args.input.now in
    let schema = settled_schema o input in
    let prepared = c.in-Ok.prepared in
    let is = c.in-Ok.ensures.prepared in
    let result = c.read_prepared.result in
    let records = drop prepared.start input in
    let frame : data_frame o prepared.schema records ≡ frame_of o schema input =
    ap (λ (s : List Entry). data_frame o s records) is.schema_is ∙ ap (λ (some : Option (List ℕ)). data_frame o schema (unwrap_or some [])) (sym is.data_is) in
    let cause : data_cause o prepared.schema records ≡ late_cause o schema input =
    ap (λ (s : List Entry). data_cause o s records) is.schema_is ∙ sym (late-data o schema input records c.in-Ok.ensures.sound is.data_is) in
    record {
      kept = subst (λ is. IfOk result (IsFrameKept is)) frame c.read_prepared.ensures.kept;
      sound = subst (λ is. OnOk result (is ≡ None)) cause c.read_prepared.ensures.sound;
      refused = subst (λ is. IfErr result (IsFault is)) cause c.read_prepared.ensures.refused;
    }

pub returns-in-Err-clause-refused : goal.returns-in-Err-clause-refused
returns-in-Err-clause-refused c =
    late-opening c.args.options.now (settled_schema c.args.options.now c.args.input.now) c.args.input.now c.in-Err.fault c.in-Err.ensures.refused
