use Rattle.std.proofs.Common.{◌≡◌, ℕ, ◌-◌, List, length, take, drop, arith, length-drop}
use Rattle.std.proofs.lemmas.List.{take_all}
use Rattle.pl_rows.proofs.TextLinkLaws.{IsLeftRead-of}
use Rattle.pl_csv_c.proofs.pieces.link_rest.Goals as goal

-- what is left
rest_is : (range : List ℕ) (end : ℕ) → take (length range - end) (drop end range) ≡ drop end range
rest_is range end = take_all _ _ (omega (arith, length-drop end range))

pub link_left-requires-clause-left : goal.link_left-requires-clause-left
link_left-requires-clause-left c =
    let range = c.args.range.now in (
      range,
      IsLeftRead-of c.args.plan.now c.plan_behind-last.result c.args.schema.now range _ c.args.stacks.items c.args.front c.in_ok-left.left (omega arith) c.requires.front c.plan_behind-last.ensures
          (rest_is range c.args.front.end) c.in_ok-left.ensures,
    )

pub returns : goal.returns
returns c =
    let range = c.args.range.now in
    c.link_left.ensures range (IsLeftRead-of c.args.plan.now c.plan_behind-last.result c.args.schema.now range _ c.args.stacks.items c.args.front c.in_ok-left.left (omega arith) c.requires.front c.plan_behind-last.ensures
    (rest_is range c.args.front.end) c.in_ok-left.ensures)
