use Rattle.std.proofs.Common.{◌≡◌, sym, ◌∙◌, ap, subst, inl}
use Rattle.std.specs.Prelude.{IfOk, OnOk, IfErr, None}
use Rattle.std.specs.Option.{option_copied}
use Rattle.pl_frame.specs.Frame.{IsFrame, height_of}
use Rattle.pl_options.specs.FirstCause.{IsFault}
use Rattle.pl_read.specs.Refusals.{index_past}
use Rattle.pl_read.specs.Rows.{with_index, data_frame}
use Rattle.pl_read.specs.Steps.{data_cause}
use Rattle.pl_read.proofs.DataLaws.{faulty-cause, columns-are, IsFrame-indexed, data_cause-index, data_frame-is}
use Rattle.pl_csv_c.proofs.alone.frame_of_range.Goals as goal

pub returns-in-Fault-clause-refused : goal.returns-in-Fault-clause-refused
returns-in-Fault-clause-refused c = λ plan schema records is.
    inl (faulty-cause plan c.args.options.now schema records c.args.read c.in-Fault.row c.in-Fault.column c.in-Fault.kind is.can.plan_is is.is c.in-Fault.is)

pub with_index-requires : goal.with_index-requires
with_index-requires c =
    let o = c.args.options.now in
    let plan = c.requires.0 in
    let schema = c.requires.1 in
    let records = c.requires.2 in
    let is = c.requires.3 in
    let items = c.args.read.columns.items in
    let columns = columns-are plan o schema records c.args.read is.can.plan_is is.is c.in-Closed.is in
    subst (λ index. IsFrame (with_index index (height_of items) items)) (sym c.as_ref.ensures.value)
    (subst (λ given. IsFrame (with_index o.row_index (height_of given) given)) (sym columns) (IsFrame-indexed o schema records is.can.distinct is.can.free))

pub returns-in-Closed : goal.returns-in-Closed
returns-in-Closed c =
    let o = c.args.options.now in
    let items = c.args.read.columns.items in
    let result = c.with_index.result in
    record {
      frame = λ plan schema records is.
          let frame : with_index (option_copied c.as_ref.result) (height_of items) items ≡ data_frame o schema records =
          ap (λ index. with_index index (height_of items) items) c.as_ref.ensures.value ∙ data_frame-is plan o schema records c.args.read is.can.plan_is is.is c.in-Closed.is is.can.some in
          subst (λ is. IfOk result (λ frame. frame ≡ is)) frame c.with_index.ensures.frame;
      sound = λ plan schema records is.
          let cause : index_past (option_copied c.as_ref.result) (height_of items) items ≡ data_cause o schema records =
          ap (λ index. index_past index (height_of items) items) c.as_ref.ensures.value ∙ data_cause-index plan o schema records c.args.read is.can.plan_is is.is c.in-Closed.is is.can.some in
          subst (λ is. OnOk result (is ≡ None)) cause c.with_index.ensures.sound;
      refused = λ plan schema records is.
          let cause : index_past (option_copied c.as_ref.result) (height_of items) items ≡ data_cause o schema records =
          ap (λ index. index_past index (height_of items) items) c.as_ref.ensures.value ∙ data_cause-index plan o schema records c.args.read is.can.plan_is is.is c.in-Closed.is is.can.some in
          subst (λ is. IfErr result (IsFault is)) cause c.with_index.ensures.refused;
    }
