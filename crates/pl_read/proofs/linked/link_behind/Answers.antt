use Rattle.std.proofs.Common.{◌++◌, List, ℕ, Bor, map, sym, subst, arith, length-append}
use Rattle.std.specs.List.{concat}
use Rattle.pl_rows.proofs.FrameLaws.{written_back}
use Rattle.pl_rows.specs.Texts.{AllLinked}
use Rattle.pl_rows.specs.WholePieces.{IsFrontLinked}
use Rattle.pl_read.proofs.ArrivingLaws.{IsLinkedUpTo-front}
use Rattle.pl_read.proofs.linked.link_behind.Goals as goal

pub left_behind-requires : goal.left_behind-requires
left_behind-requires c =
    let before = c.requires.linked.0 in
    let front = c.in_ok-front.ensures.linked before (subst (λ s. AllLinked c.args.plan.now c.args.schema.now before s c.args.linked.now.front) (sym c.deref_mut.ensures.value) c.requires.linked.1) in
    let texts = concat (map (λ (text : Bor (List ℕ)). text.now) c.args.texts.now) in
    omega (arith, front.within, c.in_ok-front.ensures.after, c.requires.linked.1.end_is, length-append before texts)

pub returns : goal.returns
returns c = λ before linked.
    let plan = c.args.plan.now in
    let schema = c.args.schema.now in
    let old = c.args.linked.now.stacks in
    let after = c.link_texts.new.stacks in
    let front = c.in_ok-front.front in
    let texts = concat (map (λ (text : Bor (List ℕ)). text.now) c.args.texts.now) in
    let back = written_back old.items after old.len (omega (arith, old.ok, c.deref_mut.ensures.len)) (omega (arith, c.link_texts.auto.stacks, c.deref_mut.ensures.len, old.ok)) in
    let is : IsFrontLinked plan schema (before ++ texts) _ front.rows front.end = subst (λ s. IsFrontLinked plan schema (before ++ texts) s front.rows front.end) (sym back)
    (c.in_ok-front.ensures.linked before (subst (λ s. AllLinked plan schema before s c.args.linked.now.front) (sym c.deref_mut.ensures.value) linked)) in
    IsLinkedUpTo-front plan schema before texts c.in_ok-left.left.items c.args.linked.now.front.end _ is linked.end_is c.in_ok-front.ensures.after c.in_ok-left.ensures
