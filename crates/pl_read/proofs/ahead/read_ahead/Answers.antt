use Rattle.std.proofs.Common.{◌≡◌, List, ◌++◌, [], length, drop, sym, ◌∙◌, ap, arith, length-drop}
use Rattle.std.specs.Option.{option_map}
use Rattle.pl_frame.specs.Schema.{Entry}
use Rattle.pl_cells.specs.NullValues.{compiled_for}
use Rattle.pl_intake.proofs.IntakeLaws.{ok-holds}
use Rattle.pl_read.specs.Projection.{projected}
use Rattle.pl_read.proofs.SourceReadLaws.{can-take, can-ahead, rows-ahead, unread-behind, wanting-behind, read-behind}
use Rattle.pl_read.proofs.ahead.read_ahead.Goals as goal

pub returns-then-is_err-clause-answer : goal.returns-then-is_err-clause-answer
returns-then-is_err-clause-answer g c = wanting-behind _ _ _ _ _ _

pub plan_of-plan-requires-clause-places : goal.plan_of-plan-requires-clause-places
plan_of-plan-requires-clause-places g c =
    let by = c.requires.ahead.is [] in
    by.is.places_are ∙ ap (projected c.args.options.now) (sym by.is.schema_is)

pub plan_of-plan-requires-clause-nulls : goal.plan_of-plan-requires-clause-nulls
plan_of-plan-requires-clause-nulls g c =
    let by = c.requires.ahead.is [] in
    by.is.nulls_are ∙ ap (λ (s : List Entry). option_map (λ values. compiled_for values s) c.args.options.now.parse_options.null_values) (sym by.is.schema_is)

pub read_arriving-requires-clause-can : goal.read_arriving-requires-clause-can
read_arriving-requires-clause-can g c κs within =
    let o = c.args.options.now in
    let prepared = c.args.prepared.now in
    let input = c.args.intake.now.rest.items ++ [] in
    let plan = c.plan_of-plan.result in
    can-take plan o prepared.schema (drop prepared.start input)
    (can-ahead o input prepared plan c.requires.allowed.allowed (c.requires.ahead.is []) c.plan_of-plan.ensures.plan c.plan_of-plan.ensures.nulls c.plan_of-plan.ensures.distinct)

pub read_arriving-requires-clause-held : goal.read_arriving-requires-clause-held
read_arriving-requires-clause-held g c κs within =
    let rest = c.args.intake.now.rest.items in
    let prepared = c.args.prepared.now in
    let kept_is = ok-holds c.skip.result (c.skip.new.self.rest.items ≡ drop prepared.start rest) c.if-is_err.ensures.negation c.skip.ensures.rest in
    omega (arith, ap length kept_is, length-drop prepared.start rest, c.skip.ensures.size, c.requires.size)

pub frame_of_input-requires-clause-read : goal.frame_of_input-requires-clause-read
frame_of_input-requires-clause-read g c =
    let rest = c.args.intake.now.rest.items in
    let prepared = c.args.prepared.now in
    let kept = c.skip.new.self.rest.items in
    let arrived = c.in-Ok.ensures.arrived in
    let kept_is = ok-holds c.skip.result (kept ≡ drop prepared.start rest) c.if-is_err.ensures.negation c.skip.ensures.rest in (
      rest ++ arrived.bytes,
      rows-ahead c.args.options.now rest kept arrived.bytes prepared c.plan_of-plan.result c.in-Ok.read c.requires.allowed.allowed c.requires.ahead
          c.plan_of-plan.ensures.plan c.plan_of-plan.ensures.nulls c.plan_of-plan.ensures.distinct kept_is arrived.is,
    )

pub returns-in-Ok-clause-answer : goal.returns-in-Ok-clause-answer
returns-in-Ok-clause-answer g c =
    let rest = c.args.intake.now.rest.items in
    let prepared = c.args.prepared.now in
    let kept = c.skip.new.self.rest.items in
    let arrived = c.in-Ok.ensures.arrived in
    let kept_is = ok-holds c.skip.result (kept ≡ drop prepared.start rest) c.if-is_err.ensures.negation c.skip.ensures.rest in
    let rows = rows-ahead c.args.options.now rest kept arrived.bytes prepared c.plan_of-plan.result c.in-Ok.read c.requires.allowed.allowed c.requires.ahead
    c.plan_of-plan.ensures.plan c.plan_of-plan.ensures.nulls c.plan_of-plan.ensures.distinct kept_is arrived.is in
    read-behind c.args.options.now rest arrived.bytes _ _ _ _ c.frame_of_input.result arrived.came arrived.end (c.frame_of_input.ensures (rest ++ arrived.bytes) rows)

pub returns-in-Err-clause-answer : goal.returns-in-Err-clause-answer
returns-in-Err-clause-answer g c = unread-behind _ _ _ _ _ _ c.in-Err.fault _ c.in-Err.ensures.cause c.unread.ensures
