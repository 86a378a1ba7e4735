use Rattle.std.proofs.Common.{◌<◌, Some, length, sym, ◌∙◌, ap, arith}
use Rattle.pl_frame.specs.Schema.{place_of}
use Rattle.pl_infer.specs.Schemas.{unknown_name}
use Rattle.pl_infer.proofs.SchemaLaws.{known-more, unknown-here, name-fault}
use Rattle.pl_infer.proofs.schemas.check_names.Goals as goal

pub loop-place-preserved : goal.loop-place-preserved
loop-place-preserved c =
    let other = c.args.other.now in
    let schema = c.args.schema.now in
    let within : c.loop-place.place < length other = omega (arith, c.len-place-end.ensures.len) in
    known-more other schema c.loop-place.place (c.entry.result.0.now, c.entry.result.1.now) c.entry.ensures within c.loop-place.invariant c.in_default.field-0
    (ap (λ name. place_of name schema) (sym c.as_str.ensures) ∙ c.in_default.ensures.found)

pub returns-in-Err-clause-refused : goal.returns-in-Err-clause-refused
returns-in-Err-clause-refused c =
    let other = c.args.other.now in
    let schema = c.args.schema.now in
    let within : c.loop-place.place < length other = omega (arith, c.len-place-end.ensures.len) in
    let first = unknown-here other schema c.loop-place.place (c.entry.result.0.now, c.entry.result.1.now) c.entry.ensures within c.loop-place.invariant
    (ap (λ name. place_of name schema) (sym c.as_str.ensures) ∙ c.in-Err.ensures.missing) in
    name-fault (unknown_name other schema) c.as_str.result.now c.in-Err.fault (first ∙ ap Some (sym c.as_str.ensures)) c.in-Err.ensures.refused
