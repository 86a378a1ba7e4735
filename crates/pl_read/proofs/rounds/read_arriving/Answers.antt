use Rattle.std.proofs.Common.{◌++◌, ◌-◌, ◌<◌, ◌^◌, length, sym, arith}
use Rattle.std.proofs.lemmas.List.{drop_at}
use Rattle.pl_intake.proofs.IntakeLaws.{IsReadOn-behind}
use Rattle.pl_intake.proofs.TextLaws.{came-small}
use Rattle.pl_rows.proofs.TextLinkLaws.{IsFrontLinked-longer, IsLeftRead-of}
use Rattle.pl_read.proofs.ArrivingLaws.{HasArrived-read}
use Rattle.pl_read.proofs.rounds.read_arriving.Goals as goal

pub returns-in_err-read_on-clause-read_on : goal.returns-in_err-read_on-clause-read_on
returns-in_err-read_on-clause-read_on g c = IsReadOn-behind _ _ _ _ c.in_ok-linked.ensures.linked.given.gained.came c.in_err-read_on.ensures.read_on

pub returns-in_default-clause-read_on : goal.returns-in_default-clause-read_on
returns-in_default-clause-read_on g c = IsReadOn-behind _ _ _ _ c.in_ok-linked.ensures.linked.given.gained.came c.in_ok-read_on.ensures.read_on

pub returns-in-Ok-link_left-clause-read_on : goal.returns-in-Ok-link_left-clause-read_on
returns-in-Ok-link_left-clause-read_on g c = IsReadOn-behind _ _ _ _ c.in_ok-linked.ensures.linked.given.gained.came c.in_ok-read_on.ensures.read_on

pub returns-in-Err-clause-read_on : goal.returns-in-Err-clause-read_on
returns-in-Err-clause-read_on g c = IsReadOn-behind _ _ _ _ c.in_ok-linked.ensures.linked.given.gained.came c.in_ok-read_on.ensures.read_on

pub link_left-requires-clause-left : goal.link_left-requires-clause-left
link_left-requires-clause-left g c =
    let left = g.So.Source.left in
    let plan = c.args.plan.now in
    let schema = c.args.schema.now in
    let has = c.in_ok-linked.ensures.linked in
    let linked = c.in_ok-linked.linked in
    let rest = c.rest-rest.result.now in
    let small : length (has.text ++ rest) < 2 ^ 64 =
    omega (arith, came-small (left c.args.source.now) (left c.link_source.new.source) (left c.read_on.new.source) (2 ^ 64 - 1) c.args.intake.now c.link_source.new.intake c.read_on.new.self has.text rest has.given c.in_ok-read_on.ensures.all c.rest-rest.ensures c.requires.held) in (
      has.text ++ rest,
      IsLeftRead-of plan c.plan_behind-last.result schema (has.text ++ rest) rest linked.stacks.items linked.front c.in-Ok.left small
          (IsFrontLinked-longer plan schema has.text rest linked.stacks.items linked.front.rows linked.front.end has.is.linked) c.plan_behind-last.ensures (sym (drop_at has.text rest linked.front.end (sym has.is.end_is)))
          c.in-Ok.ensures,
    )

pub returns-in-Ok-link_left-clause-arrived : goal.returns-in-Ok-link_left-clause-arrived
returns-in-Ok-link_left-clause-arrived g c =
    let left = g.So.Source.left in
    let plan = c.args.plan.now in
    let schema = c.args.schema.now in
    let has = c.in_ok-linked.ensures.linked in
    let linked = c.in_ok-linked.linked in
    let rest = c.rest-rest.result.now in
    let small : length (has.text ++ rest) < 2 ^ 64 =
    omega (arith, came-small (left c.args.source.now) (left c.link_source.new.source) (left c.read_on.new.source) (2 ^ 64 - 1) c.args.intake.now c.link_source.new.intake c.read_on.new.self has.text rest has.given c.in_ok-read_on.ensures.all c.rest-rest.ensures c.requires.held) in
    let is =
    IsLeftRead-of plan c.plan_behind-last.result schema (has.text ++ rest) rest linked.stacks.items linked.front c.in-Ok.left small
    (IsFrontLinked-longer plan schema has.text rest linked.stacks.items linked.front.rows linked.front.end has.is.linked) c.plan_behind-last.ensures (sym (drop_at has.text rest linked.front.end (sym has.is.end_is)))
    c.in-Ok.ensures in
    HasArrived-read plan schema (left c.args.source.now) (left c.link_source.new.source) (left c.read_on.new.source) (2 ^ 64 - 1) c.args.intake.now c.link_source.new.intake c.read_on.new.self has.text rest c.in-Ok-link_left.read
    has.given c.in_ok-read_on.ensures.all c.rest-rest.ensures (c.in-Ok-link_left.ensures (has.text ++ rest) is)
