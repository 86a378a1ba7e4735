use Rattle.std.proofs.Common.{◌≡◌, List, drop, subst, inr}
use Rattle.std.specs.Prelude.{IfOk, OnOk, IfErr, IsOkUnless, None, Option, Result, Ok, Err}
use Rattle.pl_frame.specs.Frame.{ColumnValue}
use Rattle.pl_frame.specs.declared.error.PolarsError.{PolarsError}
use Rattle.pl_frame.specs.declared.error.PolarsError.TheVariants as error
use Rattle.pl_options.specs.FirstCause.{IsFault}
use Rattle.pl_read.proofs.SourceReadLaws.{input-answer}
use Rattle.pl_read.proofs.ahead.frame_of_input.Goals as goal

pub frame_of_range-requires : goal.frame_of_range-requires
frame_of_range-requires c =
    let input = c.requires.read.0 in
    let rows = c.requires.read.1 in
    (rows.plan, rows.prepared.schema, drop rows.prepared.start input, rows.data_is)

-- a frame of a cause that does not hold, which is refused for want of memory alone
kept : (result : Result (List ColumnValue) PolarsError) (cause : Option PolarsError) → cause ≡ None → OnOk result (cause ≡ None)
kept (Ok frame) cause none = none
kept (Err fault) cause none = tt

wanting : (result : Result (List ColumnValue) PolarsError) (cause : Option PolarsError) → IsOkUnless result error.OutOfMemory → IfErr result (IsFault cause)
wanting (Ok frame) cause refused = tt
wanting (Err fault) cause refused = inr refused

pub returns-in-Ok : goal.returns-in-Ok
returns-in-Ok c = λ input rows.
    let schema = rows.prepared.schema in
    let records = drop rows.prepared.start input in
    let result = c.rechunked.result in
    input-answer c.args.options.now input c.args.read result c.requires.allowed rows
    (subst (λ f. IfOk result (λ frame. frame ≡ f)) (c.in-Ok.ensures.frame rows.plan schema records rows.data_is) c.rechunked.ensures.same)
    (kept result _ (c.in-Ok.ensures.sound rows.plan schema records rows.data_is))
    (wanting result _ c.rechunked.ensures.refused)

pub returns-in-Err : goal.returns-in-Err
returns-in-Err c = λ input rows.
    input-answer c.args.options.now input c.args.read (Err c.in-Err.fault) c.requires.allowed rows tt tt
    (c.in-Err.ensures.refused rows.plan rows.prepared.schema (drop rows.prepared.start input) rows.data_is)
