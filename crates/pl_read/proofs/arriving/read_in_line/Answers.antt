use Rattle.std.proofs.Common.{◌++◌, List, ℕ, sym, subst}
use Rattle.std.specs.List.{concat}
use Rattle.pl_intake.proofs.IntakeLaws.{IsReadOn-behind}
use Rattle.pl_read.specs.Arriving.{IsLinkedUpTo}
use Rattle.pl_read.proofs.ArrivingLaws.{IsLinkedUpTo-handed, HasInLine-linked, HasInLine-handed}
use Rattle.pl_read.proofs.arriving.read_in_line.Goals as goal

pub start_and_read-requires-clause-line : goal.start_and_read-requires-clause-line
start_and_read-requires-clause-line g c κs within =
    let line = c.args.line in
    let handed = c.in_ok-hand_next.ensures.handed in
    let old = c.requires.line in
    (old.0 ++ concat handed.more, IsLinkedUpTo-handed c.args.plan.now c.args.schema.now old.0 line.left.items line.pending handed.more c.hand_next.new.pending line.linked old.1 handed.are)

pub returns-in_err-start_and_read-clause-read_on : goal.returns-in_err-start_and_read-clause-read_on
returns-in_err-start_and_read-clause-read_on g c = IsReadOn-behind _ _ _ _ c.in_ok-hand_next.ensures.read_on.1 c.in_err-start_and_read.ensures.read_on

pub link-requires-clause-line : goal.link-requires-clause-line
link-requires-clause-line g c =
    let line = c.start_and_read.new.reading.line in
    let some = c.in_ok-start_and_read.ensures.some in
    (some.0, subst (λ (pending : List (List ℕ)). IsLinkedUpTo c.args.plan.now c.args.schema.now some.0 (line.left.items ++ concat pending) line.linked) (sym c.keep.ensures) some.1)

pub returns-in-Ok-clause-line : goal.returns-in-Ok-clause-line
returns-in-Ok-clause-line g c = λ before first has.
    let left = g.So.Source.left in
    let plan = c.args.plan.now in
    let schema = c.args.schema.now in
    let old = c.args.line in
    let line = c.start_and_read.new.reading.line in
    let last = c.link.new.self in
    let first_handed = HasInLine-handed plan schema before (left c.args.source.now) (left c.hand_next.new.source) first c.args.intake.now c.hand_next.new.intake old.linked old.left.items old.pending c.hand_next.new.pending has
    c.in_ok-hand_next.ensures.handed in
    HasInLine-linked plan schema before (left c.start_and_read.new.source) first c.start_and_read.new.intake line.linked last.linked line.left.items last.left.items line.pending last.pending
    (c.in_ok-start_and_read.ensures.line before first first_handed)
    (λ text up. c.in-Ok.ensures text (subst (λ (pending : List (List ℕ)). IsLinkedUpTo plan schema text (line.left.items ++ concat pending) line.linked) (sym c.keep.ensures) up))

pub returns-in-Ok-clause-read_on : goal.returns-in-Ok-clause-read_on
returns-in-Ok-clause-read_on g c = IsReadOn-behind _ _ _ _ c.in_ok-hand_next.ensures.read_on.1 c.in_ok-start_and_read.ensures.read_on

pub returns-clause-read_on : goal.returns-clause-read_on
returns-clause-read_on g c = IsReadOn-behind _ _ _ _ c.in_ok-hand_next.ensures.read_on.1 c.in_ok-start_and_read.ensures.read_on
