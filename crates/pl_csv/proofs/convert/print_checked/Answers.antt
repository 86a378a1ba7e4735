use Rattle.std.proofs.Common.{◌≡◌, ℕ, List, [], unwrap_or, drop, sym, ◌∙◌, ap, subst}
use Rattle.std.specs.Prelude.{Option, IfOk, OnOk, IfErr, None}
use Rattle.pl_frame.specs.Frame.{ColumnValue}
use Rattle.pl_frame.specs.Schema.{Entry}
use Rattle.pl_options.specs.FirstCause.{IsFault}
use Rattle.pl_read.specs.Options.{settled_schema}
use Rattle.pl_read.specs.Reading.{frame_of}
use Rattle.pl_read.specs.Rows.{data_frame}
use Rattle.pl_read.specs.Steps.{late_cause, data_cause}
use Rattle.pl_csv.specs.Converting.{HasTextOf}
use Rattle.pl_read.proofs.SettlingLaws.{late-opening, late-data}
use Rattle.pl_csv.proofs.convert.print_checked.Goals as goal

pub returns-in-Ok-clause-text : goal.returns-in-Ok-clause-text
returns-in-Ok-clause-text g c =
    let o = c.args.read.now in
    let input = c.args.input.now in
    let schema = settled_schema o input in
    let prepared = c.in-Ok.prepared in
    let is = c.in-Ok.ensures.prepared in
    let records = drop prepared.start input in
    let frame : data_frame o prepared.schema records ≡ frame_of o schema input =
    ap (λ (s : List Entry). data_frame o s records) is.schema_is ∙ ap (λ (some : Option (List ℕ)). data_frame o schema (unwrap_or some [])) (sym is.data_is) in
    subst (λ (f : List ColumnValue). IfOk c.print_prepared-printed.result (λ printed. HasTextOf c.args.write.now printed f)) frame c.print_prepared-printed.ensures.text

pub returns-in-Ok-clause-sound : goal.returns-in-Ok-clause-sound
returns-in-Ok-clause-sound g c =
    let o = c.args.read.now in
    let input = c.args.input.now in
    let schema = settled_schema o input in
    let prepared = c.in-Ok.prepared in
    let is = c.in-Ok.ensures.prepared in
    let records = drop prepared.start input in
    let cause : data_cause o prepared.schema records ≡ late_cause o schema input =
    ap (λ (s : List Entry). data_cause o s records) is.schema_is ∙ sym (late-data o schema input records c.in-Ok.ensures.sound is.data_is) in
    subst (λ is. OnOk c.print_prepared-printed.result (is ≡ None)) cause c.print_prepared-printed.ensures.sound

pub returns-in-Ok-clause-refused : goal.returns-in-Ok-clause-refused
returns-in-Ok-clause-refused g c =
    let o = c.args.read.now in
    let input = c.args.input.now in
    let schema = settled_schema o input in
    let prepared = c.in-Ok.prepared in
    let is = c.in-Ok.ensures.prepared in
    let records = drop prepared.start input in
    let cause : data_cause o prepared.schema records ≡ late_cause o schema input =
    ap (λ (s : List Entry). data_cause o s records) is.schema_is ∙ sym (late-data o schema input records c.in-Ok.ensures.sound is.data_is) in
    subst (λ is. IfErr c.print_prepared-printed.result (IsFault is)) cause c.print_prepared-printed.ensures.refused

pub returns-in-Err-clause-refused : goal.returns-in-Err-clause-refused
returns-in-Err-clause-refused g c =
    late-opening c.args.read.now (settled_schema c.args.read.now c.args.input.now) c.args.input.now c.in-Err.fault c.in-Err.ensures.refused
