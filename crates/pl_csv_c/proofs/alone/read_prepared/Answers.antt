use Rattle.std.proofs.Common.{◌≡◌, List, ℕ, drop, refl, sym, subst, arith}
use Rattle.std.specs.Prelude.{IfOk, OnOk, IfErr, None}
use Rattle.pl_csv_c.specs.Views.{IsFrameKept}
use Rattle.pl_options.specs.FirstCause.{IsFault}
use Rattle.pl_read.specs.Rows.{data_frame}
use Rattle.pl_read.specs.Steps.{data_cause, CanReadData}
use Rattle.pl_read.proofs.BatchStepLaws.{rest-is}
use Rattle.pl_read.proofs.PreparingLaws.{can-read}
use Rattle.pl_csv_c.proofs.alone.read_prepared.Goals as goal

pub read_data-requires : goal.read_data-requires
read_data-requires c =
    let o = c.args.options.now in
    let input = c.args.input.now in
    let prepared = c.args.prepared.now in
    subst (CanReadData c.plan_of-plan.result o prepared.schema) (sym (rest-is prepared.start input input refl))
    (can-read o input (drop prepared.start input) prepared c.plan_of-plan.result c.requires.allowed c.requires.prepared c.plan_of-plan.ensures.plan c.plan_of-plan.ensures.nulls c.plan_of-plan.ensures.distinct (omega arith))

pub returns : goal.returns
returns c =
    let o = c.args.options.now in
    let schema = c.args.prepared.now.schema in
    let rest = rest-is c.args.prepared.now.start c.args.input.now c.args.input.now refl in
    let result = c.read_data.result in
    record {
      kept = subst (λ (l : List ℕ). IfOk result (IsFrameKept (data_frame o schema l))) rest c.read_data.ensures.kept;
      sound = subst (λ (l : List ℕ). OnOk result (data_cause o schema l ≡ None)) rest c.read_data.ensures.sound;
      refused = subst (λ (l : List ℕ). IfErr result (IsFault (data_cause o schema l))) rest c.read_data.ensures.refused;
    }
