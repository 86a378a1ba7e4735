use Rattle.std.proofs.Common.{rules, ◌≡◌, List, ℕ, drop, refl, sym, subst, arith, inr}
use Rattle.std.specs.Prelude.{IfOk, OnOk, IfErr, IsOkUnless, None, Option, Result, Ok, Err}
use Rattle.pl_frame.specs.Frame.{ColumnValue}
use Rattle.pl_frame.specs.declared.error.PolarsError.{PolarsError}
use Rattle.pl_frame.specs.declared.error.PolarsError.TheVariants as error
use Rattle.pl_options.specs.FirstCause.{IsFault}
use Rattle.pl_read.specs.Rows.{data_frame}
use Rattle.pl_read.specs.Steps.{data_cause, CanReadData}
use Rattle.pl_read.proofs.BatchStepLaws.{rest-is}
use Rattle.pl_read.proofs.PreparingLaws.{can-read}
use Rattle.pl_read.proofs.reading.read_prepared.Goals as goal

pub read_data-requires : goal.read_data-requires
read_data-requires g c =
    let o = c.args.options.now in
    let input = c.args.input.now in
    let prepared = c.args.prepared.now in (
      search rules,
      (
        search rules,
        subst (CanReadData c.plan_of-plan.result o prepared.schema) (sym (rest-is prepared.start input input refl))
            (can-read o input (drop prepared.start input) prepared c.plan_of-plan.result c.requires.allowed c.requires.prepared c.plan_of-plan.ensures.plan c.plan_of-plan.ensures.nulls c.plan_of-plan.ensures.distinct (omega arith)),
      ),
    )

-- a frame of a cause that does not hold, which is refused for want of memory alone
kept : (result : Result (List ColumnValue) PolarsError) (cause : Option PolarsError) → cause ≡ None → OnOk result (cause ≡ None)
kept (Ok frame) cause none = none
kept (Err fault) cause none = tt

wanting : (result : Result (List ColumnValue) PolarsError) (cause : Option PolarsError) → IsOkUnless result error.OutOfMemory → IfErr result (IsFault cause)
wanting (Ok frame) cause refused = tt
wanting (Err fault) cause refused = inr refused

pub returns-in-Ok : goal.returns-in-Ok
returns-in-Ok g c =
    let o = c.args.options.now in
    let schema = c.args.prepared.now.schema in
    let rest = rest-is c.args.prepared.now.start c.args.input.now c.args.input.now refl in
    let result = c.rechunked.result in
    record {
      frame = subst (λ (l : List ℕ). IfOk result (λ frame. frame ≡ data_frame o schema l)) rest (subst (λ is. IfOk result (λ frame. frame ≡ is)) c.in-Ok.ensures.frame c.rechunked.ensures.same);
      sound = kept result _ (subst (λ (l : List ℕ). data_cause o schema l ≡ None) rest c.in-Ok.ensures.sound);
      refused = wanting result _ c.rechunked.ensures.refused;
    }

pub returns-in-Err-clause-refused : goal.returns-in-Err-clause-refused
returns-in-Err-clause-refused g c =
    subst (λ (l : List ℕ). IsFault (data_cause c.args.options.now c.args.prepared.now.schema l) c.in-Err.fault) (rest-is c.args.prepared.now.start c.args.input.now c.args.input.now refl) c.in-Err.ensures.refused
