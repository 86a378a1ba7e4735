use Rattle.std.proofs.Common.{◌≡◌, suc, ◌+◌, ◌-◌, sym, ◌∙◌, arith, length, take, drop, length-drop, ap}
use Rattle.std.proofs.lemmas.List.{take_all}
use Rattle.pl_cells.proofs.DecimalLaws.{before_point-at, behind_point-at, before_point-none, behind_point-none}
use Rattle.pl_cells.proofs.decimals.split_point.Goals as goal

pub returns-in-Some-clause-before : goal.returns-in-Some-clause-before
returns-in-Some-clause-before c =
    let found = c.in-Some.ensures in
    sym (before_point-at c.args.text.now c.in-Some.at found.0.before (omega (arith, found.0.high)) found.1)

pub returns-in-Some-clause-behind : goal.returns-in-Some-clause-behind
returns-in-Some-clause-behind c =
    let found = c.in-Some.ensures in
    let n = c.in-Some.at in
    let text = c.args.text.now in
    let place : n + 1 ≡ suc n = omega arith in
    let all : take (length text - (n + 1)) (drop (n + 1) text) ≡ drop (n + 1) text = take_all (length text - (n + 1)) (drop (n + 1) text) (omega (arith, length-drop (n + 1) text)) in
    all ∙ ap (λ k. drop k text) place ∙ sym (behind_point-at text n found.0.before (omega (arith, found.0.high)) found.1)

pub returns-in-None-clause-before : goal.returns-in-None-clause-before
returns-in-None-clause-before c = sym (before_point-none c.args.text.now c.in-None.ensures)

pub returns-in-None-clause-behind : goal.returns-in-None-clause-behind
returns-in-None-clause-behind c = sym (behind_point-none c.args.text.now c.in-None.ensures)
