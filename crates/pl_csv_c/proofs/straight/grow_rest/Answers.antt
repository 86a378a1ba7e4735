use Rattle.std.proofs.Common.{◌≡◌, ℕ, ◌-◌, List, length, take, drop, sym, ◌∙◌, arith, length-drop}
use Rattle.std.proofs.lemmas.List.{take_all}
use Rattle.pl_csv_c.proofs.GrowingLaws.{AreGrown-length}
use Rattle.pl_csv_c.proofs.StraightLaws.{same-length, rest-grown}
use Rattle.pl_rows.specs.WholePieces.{text_frame}
use Rattle.pl_rows.proofs.LinkLaws.{rest-columns, rest-fits}
use Rattle.pl_csv_c.proofs.straight.grow_rest.Goals as goal

-- what is left
rest_is : (range : List ℕ) (end : ℕ) → take (length range - end) (drop end range) ≡ drop end range
rest_is range end = take_all _ _ (omega (arith, length-drop end range))

pub grow_all-requires : goal.grow_all-requires
grow_all-requires c =
    let plan = c.args.plan.now in
    let schema = c.args.schema.now in
    let range = c.args.range.now in
    let end = c.args.front.end in
    let front = text_frame plan schema (take end range) in
    sym (AreGrown-length front c.args.all.now c.requires.front.grown)
    ∙ same-length front c.in_ok-left.left.columns.items
    (rest-columns plan c.plan_behind-last.result schema range _ front c.args.front.rows end c.in_ok-left.left c.requires.front.linked c.plan_behind-last.ensures c.in_ok-left.ensures)

pub end_behind-requires : goal.end_behind-requires
end_behind-requires c =
    let plan = c.args.plan.now in
    let range = c.args.range.now in
    rest-fits plan c.plan_behind-last.result c.args.schema.now range _ _ c.args.front.rows c.args.front.end c.in_ok-left.left c.requires.dialect c.requires.front.linked c.plan_behind-last.ensures
    (rest_is range c.args.front.end) c.in_ok-left.ensures (omega arith)

pub returns : goal.returns
returns c =
    let plan = c.args.plan.now in
    let schema = c.args.schema.now in
    let range = c.args.range.now in
    let end = c.args.front.end in
    rest-grown plan c.plan_behind-last.result schema range _ c.args.all.now c.grow_all.new.all c.args.front.rows end c.in_ok-left.left _ c.requires.dialect c.requires.front c.plan_behind-last.ensures (rest_is range end) c.in_ok-left.ensures
    (c.in_ok-grow_all.ensures (text_frame plan schema (take end range)) c.requires.front.grown) c.end_behind.ensures
