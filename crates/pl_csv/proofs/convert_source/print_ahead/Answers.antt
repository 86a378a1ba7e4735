use Rattle.std.proofs.Common.{◌≡◌, List, ◌++◌, ◌+◌, ◌≤◌, ◌^◌, [], length, drop, refl, sym, ◌∙◌, ap, subst, inr, arith, length-append, length-drop, ℕ}
use Rattle.std.specs.Prelude.{Ok, Err}
use Rattle.std.specs.Option.{option_map}
use Rattle.pl_frame.specs.Schema.{Entry}
use Rattle.pl_cells.specs.NullValues.{compiled_for}
use Rattle.pl_read.specs.Projection.{projected}
use Rattle.pl_csv.specs.Sources.{IsUnprinted}
use Rattle.pl_csv.specs.Views.{source_view}
use Rattle.pl_csv.proofs.ConvertLaws.{can-print}
use Rattle.pl_intake.proofs.IntakeLaws.{ok-holds}
use Rattle.pl_csv.proofs.SourceLaws.{stopped, come-ahead, records-ahead, can-ahead, printed-ahead, read-or-unread}
use Rattle.pl_csv.proofs.convert_source.print_ahead.Goals as goal

-- what was kept and what came are no more than before bytes were skipped
few-come : (rest kept bytes : List ℕ) (start : ℕ) → kept ≡ drop start rest → length rest + length bytes ≤ 2 ^ 36 → length (kept ++ bytes) ≤ 2 ^ 36
few-come rest kept bytes start is small = omega (arith, ap length is, length-drop start rest, length-append kept bytes, small)

pub plan_of-plan-requires-clause-places : goal.plan_of-plan-requires-clause-places
plan_of-plan-requires-clause-places g c =
    let by = c.requires.ahead.is [] in
    by.is.places_are ∙ ap (projected c.args.read.now) (sym by.is.schema_is)

pub plan_of-plan-requires-clause-nulls : goal.plan_of-plan-requires-clause-nulls
plan_of-plan-requires-clause-nulls g c =
    let by = c.requires.ahead.is [] in
    by.is.nulls_are ∙ ap (λ (s : List Entry). option_map (λ values. compiled_for values s) c.args.read.now.parse_options.null_values) (sym by.is.schema_is)

pub print_arriving-requires-clause-can : goal.print_arriving-requires-clause-can
print_arriving-requires-clause-can g c κs within =
    let read = c.args.read.now in
    let write = c.args.write.now in
    let prepared = c.args.prepared.now in
    let input = c.args.intake.now.rest.items ++ [] in
    let plan = c.plan_of-plan.result in
    let by = c.requires.ahead.is [] in
    can-print plan read prepared.schema (drop prepared.start input)
    (can-ahead read write input prepared plan c.requires.allowed.allowed by c.plan_of-plan.ensures.plan c.plan_of-plan.ensures.nulls c.plan_of-plan.ensures.distinct)

pub returns-in-Err-clause-refused : goal.returns-in-Err-clause-refused
returns-in-Err-clause-refused g c = λ before kept.
    let read = c.args.read.now in
    let write = c.args.write.now in
    let now = source_view (g.So.Source.left c.args.source.now) (g.So.Source.faults c.args.source.now) in
    let end = source_view (g.So.Source.left c.print_arriving.new.source) (g.So.Source.faults c.print_arriving.new.source) in
    let why = stopped read write before now end c.args.intake.now.rest.items c.skip.new.self.size (2 ^ 36) c.in-Err.fault kept (c.skip.ensures.size ∙ c.requires.size) refl
    c.in-Err.ensures.too_long c.in-Err.ensures.failed c.in-Err.ensures.cause in
    subst (IsUnprinted read write before end) (sym c.unread.ensures) why

pub print_arriving-requires-clause-last : goal.print_arriving-requires-clause-last
print_arriving-requires-clause-last g c κs within = c.plan_of-plan.ensures.plan.is_last

pub print_arriving-requires-clause-held : goal.print_arriving-requires-clause-held
print_arriving-requires-clause-held g c κs within =
    let rest = c.args.intake.now.rest.items in
    let prepared = c.args.prepared.now in
    let kept_is = ok-holds c.skip.result (c.skip.new.self.rest.items ≡ drop prepared.start rest) c.if-is_err.ensures.negation c.skip.ensures.rest in
    omega (arith, ap length kept_is, length-drop prepared.start rest, c.skip.ensures.size, c.requires.size)

pub read_printed-requires : goal.read_printed-requires
read_printed-requires g c =
    let rest = c.args.intake.now.rest.items in
    let prepared = c.args.prepared.now in
    let kept = c.skip.new.self.rest.items in
    let arrived = c.in-Ok.ensures.arrived in
    let kept_is = ok-holds c.skip.result (kept ≡ drop prepared.start rest) c.if-is_err.ensures.negation c.skip.ensures.rest in
    let few : length (kept ++ arrived.bytes) ≤ 2 ^ 36 = few-come rest kept arrived.bytes prepared.start kept_is (omega (arith, arrived.within, c.skip.ensures.size, c.requires.size)) in
    record {
      printed = (
        kept ++ arrived.bytes,
        printed-ahead c.args.read.now c.args.write.now rest kept arrived.bytes prepared c.plan_of-plan.result c.in-Ok.rows c.requires.allowed.allowed c.requires.ahead
            c.plan_of-plan.ensures.plan c.plan_of-plan.ensures.nulls c.plan_of-plan.ensures.distinct kept_is few arrived.is,
      );
    }

pub returns-in-Ok-read_printed-clause-printed : goal.returns-in-Ok-read_printed-clause-printed
returns-in-Ok-read_printed-clause-printed g c = λ before came.
    let read = c.args.read.now in
    let write = c.args.write.now in
    let rest = c.args.intake.now.rest.items in
    let prepared = c.args.prepared.now in
    let kept = c.skip.new.self.rest.items in
    let arrived = c.in-Ok.ensures.arrived in
    let now = source_view (g.So.Source.left c.args.source.now) (g.So.Source.faults c.args.source.now) in
    let end = source_view (g.So.Source.left c.print_arriving.new.source) (g.So.Source.faults c.print_arriving.new.source) in
    let kept_is = ok-holds c.skip.result (kept ≡ drop prepared.start rest) c.if-is_err.ensures.negation c.skip.ensures.rest in
    let small : length rest + length arrived.bytes ≤ 2 ^ 36 = omega (arith, arrived.within, c.skip.ensures.size, c.requires.size) in
    let records = kept ++ arrived.bytes in
    let few : length records ≤ 2 ^ 36 = few-come rest kept arrived.bytes prepared.start kept_is small in
    let is = printed-ahead read write rest kept arrived.bytes prepared c.plan_of-plan.result c.in-Ok.rows c.requires.allowed.allowed c.requires.ahead
    c.plan_of-plan.ensures.plan c.plan_of-plan.ensures.nulls c.plan_of-plan.ensures.distinct kept_is few arrived.is in
    let input = rest ++ arrived.bytes in (
      input,
      come-ahead before now end rest arrived.bytes (length rest) (2 ^ 36) came refl refl arrived.came arrived.end small,
      read-or-unread read write input records prepared (Ok c.in-Ok-read_printed.printed) c.requires.allowed (c.requires.ahead.is arrived.bytes)
          (records-ahead prepared.start rest arrived.bytes kept c.requires.ahead.within kept_is) (c.in-Ok-read_printed.ensures.text records is) (c.in-Ok-read_printed.ensures.sound records is) tt,
    )

pub returns-in-Err-read_printed-clause-refused : goal.returns-in-Err-read_printed-clause-refused
returns-in-Err-read_printed-clause-refused g c = λ before came.
    let read = c.args.read.now in
    let write = c.args.write.now in
    let rest = c.args.intake.now.rest.items in
    let prepared = c.args.prepared.now in
    let kept = c.skip.new.self.rest.items in
    let arrived = c.in-Ok.ensures.arrived in
    let now = source_view (g.So.Source.left c.args.source.now) (g.So.Source.faults c.args.source.now) in
    let end = source_view (g.So.Source.left c.print_arriving.new.source) (g.So.Source.faults c.print_arriving.new.source) in
    let kept_is = ok-holds c.skip.result (kept ≡ drop prepared.start rest) c.if-is_err.ensures.negation c.skip.ensures.rest in
    let small : length rest + length arrived.bytes ≤ 2 ^ 36 = omega (arith, arrived.within, c.skip.ensures.size, c.requires.size) in
    let records = kept ++ arrived.bytes in
    let few : length records ≤ 2 ^ 36 = few-come rest kept arrived.bytes prepared.start kept_is small in
    let is = printed-ahead read write rest kept arrived.bytes prepared c.plan_of-plan.result c.in-Ok.rows c.requires.allowed.allowed c.requires.ahead
    c.plan_of-plan.ensures.plan c.plan_of-plan.ensures.nulls c.plan_of-plan.ensures.distinct kept_is few arrived.is in
    let input = rest ++ arrived.bytes in
    inr (
      input,
      come-ahead before now end rest arrived.bytes (length rest) (2 ^ 36) came refl refl arrived.came arrived.end small,
      read-or-unread read write input records prepared (Err c.in-Err-read_printed.fault) c.requires.allowed (c.requires.ahead.is arrived.bytes)
          (records-ahead prepared.start rest arrived.bytes kept c.requires.ahead.within kept_is) tt tt (c.in-Err-read_printed.ensures.refused records is),
    )
