use Rattle.std.proofs.Common.{rules, sym, ◌∙◌, ap, not, subst, Vec, Global}
use Rattle.std.specs.Prelude.{All}
use Rattle.std.specs.List.{concat}
use Rattle.std.proofs.lemmas.List.Elements.{All-push}
use Rattle.pl_write.specs.Options.{cell_options}
use Rattle.pl_intake.specs.Intake.{HasGiven}
use Rattle.pl_intake.proofs.TextLaws.{values_of, HasGiven-first}
use Rattle.pl_intake.proofs.IntakeLaws.{IsTooLong-behind, HasStopped-behind}
use Rattle.pl_regions.specs.Arriving.{IsTaken}
use Rattle.pl_regions.specs.declared.taken.Taken.{Taken}
use Rattle.pl_regions.proofs.RegionLaws.{ok-holds}
use Rattle.pl_regions.proofs.beside.read_and_print.Goals as goal

pub start_and_read-requires-clause-within : goal.start_and_read-requires-clause-within
start_and_read-requires-clause-within g c κs within =
    let left = g.So.Source.left in
    let first : HasGiven (left c.args.source.now) (left c.read_texts.new.source) c.args.limit c.args.intake.now c.read_texts.new.intake (concat (values_of c.read_texts.new.tokens.items)) =
    HasGiven-first _ _ _ _ _ c.new.result.items c.read_texts.new.tokens.items c.new.ensures.items c.requires.within c.requires.ended c.in_ok-read_texts.ensures.given in
    first.gained.within

pub start_and_read-requires-clause-ended : goal.start_and_read-requires-clause-ended
start_and_read-requires-clause-ended g c κs within =
    let left = g.So.Source.left in
    let first : HasGiven (left c.args.source.now) (left c.read_texts.new.source) c.args.limit c.args.intake.now c.read_texts.new.intake (concat (values_of c.read_texts.new.tokens.items)) =
    HasGiven-first _ _ _ _ _ c.new.result.items c.read_texts.new.tokens.items c.new.ensures.items c.requires.within c.requires.ended c.in_ok-read_texts.ensures.given in
    first.gained.ended

pub returns-in_err-start_and_read-clause-too_long : goal.returns-in_err-start_and_read-clause-too_long
returns-in_err-start_and_read-clause-too_long g c = λ fault.
    let left = g.So.Source.left in
    let first : HasGiven (left c.args.source.now) (left c.read_texts.new.source) c.args.limit c.args.intake.now c.read_texts.new.intake (concat (values_of c.read_texts.new.tokens.items)) =
    HasGiven-first _ _ _ _ _ c.new.result.items c.read_texts.new.tokens.items c.new.ensures.items c.requires.within c.requires.ended c.in_ok-read_texts.ensures.given in
    IsTooLong-behind _ _ _ _ _ _ _ first (c.in_err-start_and_read.ensures.too_long (search rules))

pub returns-in_err-start_and_read-clause-failed : goal.returns-in_err-start_and_read-clause-failed
returns-in_err-start_and_read-clause-failed g c = λ fault.
    let left = g.So.Source.left in
    let first : HasGiven (left c.args.source.now) (left c.read_texts.new.source) c.args.limit c.args.intake.now c.read_texts.new.intake (concat (values_of c.read_texts.new.tokens.items)) =
    HasGiven-first _ _ _ _ _ c.new.result.items c.read_texts.new.tokens.items c.new.ensures.items c.requires.within c.requires.ended c.in_ok-read_texts.ensures.given in
    HasStopped-behind _ _ _ _ _ _ _ first (c.in_err-start_and_read.ensures.failed (search rules))

pub returns-clause-given : goal.returns-clause-given
returns-clause-given g c =
    let left = g.So.Source.left in
    let first : HasGiven (left c.args.source.now) (left c.read_texts.new.source) c.args.limit c.args.intake.now c.read_texts.new.intake (concat (values_of c.read_texts.new.tokens.items)) =
    HasGiven-first _ _ _ _ _ c.new.result.items c.read_texts.new.tokens.items c.new.ensures.items c.requires.within c.requires.ended c.in_ok-read_texts.ensures.given in
    c.in_ok-start_and_read.ensures.given (left c.args.source.now) c.args.intake.now first

pub returns-clause-taken : goal.returns-clause-taken
returns-clause-taken g c =
    let P = λ (taken : Vec Taken Global). All (IsTaken c.args.plan.now c.args.schema.now (cell_options c.args.options.now) c.args.cells.now) taken.items in
    let pushed = ok-holds c.push.result _ (c.is_err.ensures.negation ∙ ap not c.if-is_err.false) c.push.ensures.pushed in
    subst (All P) (sym pushed) (All-push P _ _ c.in_ok-start_and_read.ensures.others c.in_ok-start_and_read.ensures.own)
