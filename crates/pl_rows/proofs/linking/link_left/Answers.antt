use Rattle.std.proofs.Common.{◌≡◌, drop, refl, sym, ◌∙◌, ap, subst, arith}
use Rattle.pl_frame.specs.FrameParts.{stacked}
use Rattle.pl_rows.specs.Pieces.{plan_behind}
use Rattle.pl_rows.specs.WholePieces.{IsFrontLinked}
use Rattle.pl_rows.proofs.FrameLaws.{written_back}
use Rattle.pl_rows.proofs.LinkLaws.{rest-columns, rest-fits, rest-linked}
use Rattle.pl_rows.proofs.linking.link_left.Goals as goal

pub end_behind-end-requires : goal.end_behind-end-requires
end_behind-end-requires c =
    let plan = c.args.plan.now in
    let front = c.args.front in
    let range = c.requires.left.0 in
    let is = c.requires.left.1 in
    rest-fits plan (plan_behind plan front.rows plan.last) c.args.schema.now range (drop front.end range) c.args.stacks.items front.rows front.end c.args.left c.requires.dialect is.linked refl refl is.read is.small

pub push_columns-requires : goal.push_columns-requires
push_columns-requires c =
    let plan = c.args.plan.now in
    let schema = c.args.schema.now in
    let front = c.args.front in
    let range = c.requires.left.0 in
    let is = c.requires.left.1 in
    rest-columns plan (plan_behind plan front.rows plan.last) schema range (drop front.end range) c.deref_mut.result.now front.rows front.end c.args.left
    (subst (λ s. IsFrontLinked plan schema range s front.rows front.end) (sym c.deref_mut.ensures.value) is.linked) refl is.read

pub returns : goal.returns
returns c = λ range is.
    let plan = c.args.plan.now in
    let front = c.args.front in
    let left = c.args.left in
    let after = c.push_columns.new.stacks in
    let back = written_back c.args.stacks.items after c.args.stacks.len (omega (arith, c.args.stacks.ok, c.deref_mut.ensures.len)) (omega (arith, c.push_columns.auto.stacks, c.deref_mut.ensures.len, c.args.stacks.ok)) in
    rest-linked plan (plan_behind plan front.rows plan.last) c.args.schema.now range (drop front.end range) c.args.stacks.items front.rows front.end left _ c.requires.dialect is.linked refl refl is.read
    (c.in_ok-columns.ensures ∙ back ∙ c.in_ok-push_columns.ensures ∙ ap (λ s. stacked s left.columns.items) c.deref_mut.ensures.value) c.end_behind-end.ensures
