use Rattle.std.proofs.Common.{◌≡◌, [], ◌<◌, ◌+◌, ◌-◌, length, take, drop, subst, sym, ◌∙◌, eqb-true, arith}
use Rattle.std.proofs.lemmas.Bool.Decides.{nat_tests}
use Rattle.std.proofs.lemmas.List.{take_rest}
use Rattle.pl_scan.specs.Items.{item_text}
use Rattle.pl_infer.specs.SampleSteps.{sample_in}
use Rattle.pl_scan.specs.Dialect.{marks_of, comment_of}
use Rattle.pl_scan.specs.Items.{items}
use Rattle.pl_infer.proofs.SampleLaws.{HasSampled, HasSampled-more, HasSampled-past, sampled-past, sample-nil}
use Rattle.pl_infer.proofs.sample.add_items.Goals as goal
use Rattle.pl_infer.proofs.sample.add_items.Goals.{then-loop-behind-test+else-may_go_on, else-loop-behind-test}

pub loop-behind-preserved : goal.loop-behind-preserved
loop-behind-preserved c =
    let left = c.loop-behind.rest.now in
    let some : 0 < length left = grind (arith, nat_tests, c.is_empty.ensures, c.loop-behind-test.true) in
    let n = c.item_len.result in
    subst (λ o. HasSampled c.args.rules.now c.args.limit c.args.bytes.now c.args.columns.now c.add_item.new.columns o (c.loop-behind.items + 1) (take (length left - n) (drop n left)) c.behind_line_end-rest.result.now)
    (sym c.one_less-left.ensures)
    (HasSampled-more c.args.rules.now c.args.limit c.args.bytes.now c.args.columns.now c.loop-behind.columns c.add_item.new.columns c.loop-behind.left c.loop-behind.items c.loop-behind.behind.now left
    (item_text c.first_item-item.result) n c.behind_line_end-rest.result.now _
    c.loop-behind.invariant some (sym c.may_go_on.ensures ∙ c.if-may_go_on.true) c.first_item-item.ensures c.item_len.ensures c.add_item.ensures (take_rest left n) c.behind_line_end-rest.ensures)

pub returns-clause-columns : goal.returns-clause-columns
returns-clause-columns c =
    let rules = c.args.rules.now in
    let left = c.loop-behind.rest.now in
    let none : sample_in rules c.loop-behind.left left ≡ [] = elim c.loop-behind-test.branch [
      | then-loop-behind-test+else-may_go_on w ↦ sampled-past c.loop-behind.left (items (marks_of rules.dialect) (comment_of rules.dialect) left) (sym w.may_go_on.ensures ∙ w.if-may_go_on.false)
      | else-loop-behind-test w ↦ sample-nil rules c.loop-behind.left left (eqb-true _ _ (sym c.is_empty.ensures ∙ w.loop-behind-test.false))
    ] in
    (HasSampled-past rules c.args.limit c.args.bytes.now c.args.columns.now c.loop-behind.columns c.loop-behind.left c.loop-behind.items c.loop-behind.behind.now left c.loop-behind.invariant none).0

pub returns-clause-items : goal.returns-clause-items
returns-clause-items c =
    let rules = c.args.rules.now in
    let left = c.loop-behind.rest.now in
    let none : sample_in rules c.loop-behind.left left ≡ [] = elim c.loop-behind-test.branch [
      | then-loop-behind-test+else-may_go_on w ↦ sampled-past c.loop-behind.left (items (marks_of rules.dialect) (comment_of rules.dialect) left) (sym w.may_go_on.ensures ∙ w.if-may_go_on.false)
      | else-loop-behind-test w ↦ sample-nil rules c.loop-behind.left left (eqb-true _ _ (sym c.is_empty.ensures ∙ w.loop-behind-test.false))
    ] in
    (HasSampled-past rules c.args.limit c.args.bytes.now c.args.columns.now c.loop-behind.columns c.loop-behind.left c.loop-behind.items c.loop-behind.behind.now left c.loop-behind.invariant none).1

pub returns-clause-bytes : goal.returns-clause-bytes
returns-clause-bytes c =
    let rules = c.args.rules.now in
    let left = c.loop-behind.rest.now in
    let none : sample_in rules c.loop-behind.left left ≡ [] = elim c.loop-behind-test.branch [
      | then-loop-behind-test+else-may_go_on w ↦ sampled-past c.loop-behind.left (items (marks_of rules.dialect) (comment_of rules.dialect) left) (sym w.may_go_on.ensures ∙ w.if-may_go_on.false)
      | else-loop-behind-test w ↦ sample-nil rules c.loop-behind.left left (eqb-true _ _ (sym c.is_empty.ensures ∙ w.loop-behind-test.false))
    ] in
    (HasSampled-past rules c.args.limit c.args.bytes.now c.args.columns.now c.loop-behind.columns c.loop-behind.left c.loop-behind.items c.loop-behind.behind.now left c.loop-behind.invariant none).2
