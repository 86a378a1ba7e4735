use Rattle.std.proofs.Common.{◌≡◌, List, length, sym, ◌∙◌, ap, arith, inl}
use Rattle.std.specs.Prelude.{Some}
use Rattle.std.specs.Option.{option_map}
use Rattle.pl_frame.specs.declared.data_type.DataType.{DataType}
use Rattle.pl_frame.specs.declared.error.PolarsError.TheVariants as error
use Rattle.pl_frame.specs.declared.error.OpFault.TheVariants as op_fault
use Rattle.pl_frame.specs.declared.error.ComputeFault.TheVariants as compute_fault
use Rattle.pl_infer.specs.Schemas.{unreadable}
use Rattle.pl_read.specs.Options.{with_types, settled}
use Rattle.pl_read.proofs.SettlingLaws.{types-overrides, types-few}
use Rattle.pl_read.proofs.settling.with_given_types.Goals as goal

pub returns-then-types-len-clause-refused : goal.returns-then-types-len-clause-refused
returns-then-types-len-clause-refused c =
    let given = c.args.given in
    inl (types-overrides c.args.options.now given (omega (arith, c.if-types-len.true, c.len.ensures.len, ap length c.given_types-types.ensures))
    ∙ ap (λ (types : List DataType). Some (error.InvalidOperation (op_fault.Overrides (length types) (length given)))) (sym c.given_types-types.ensures)
    ∙ ap (λ n. Some (error.InvalidOperation (op_fault.Overrides (length c.given_types-types.result.now) n))) (sym c.len-columns.ensures.len))

pub returns-in-Some-clause-refused : goal.returns-in-Some-clause-refused
returns-in-Some-clause-refused c =
    let o = c.args.options.now in
    let given = c.args.given in
    let same : c.put_types.new.schema ≡ settled o given =
    c.in_ok-put_types.ensures.put ∙ ap (λ types. with_types types given) c.given_types-types.ensures in
    inl (types-few o given (omega (arith, c.if-types-len.false, c.len.ensures.len, ap length c.given_types-types.ensures))
    ∙ ap unreadable (sym same)
    ∙ ap (option_map (λ column. error.ComputeError (compute_fault.Dtype column))) (sym c.find_unreadable.ensures ∙ c.in-Some.is))

pub returns-in-None-clause-sound : goal.returns-in-None-clause-sound
returns-in-None-clause-sound c =
    let o = c.args.options.now in
    let given = c.args.given in
    let same : c.put_types.new.schema ≡ settled o given =
    c.in_ok-put_types.ensures.put ∙ ap (λ types. with_types types given) c.given_types-types.ensures in
    types-few o given (omega (arith, c.if-types-len.false, c.len.ensures.len, ap length c.given_types-types.ensures))
    ∙ ap unreadable (sym same)
    ∙ ap (option_map (λ column. error.ComputeError (compute_fault.Dtype column))) (sym c.find_unreadable.ensures ∙ c.in-None.is)
