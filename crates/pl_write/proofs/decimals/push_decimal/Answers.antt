use Rattle.std.proofs.Common.{◌≡◌, ◌++◌, ◌∙◌, ap, arith}
use Rattle.std.specs.Int.{w128}
use Rattle.std.proofs.lemmas.Grind.{common_steps}
use Rattle.std.proofs.lemmas.Int.{to_z-of_z}
use Rattle.std.proofs.lemmas.Result.{on_ok_weaker}
use Rattle.pl_text.specs.ValueText.{decimal_text}
use Rattle.pl_write.proofs.decimals.push_decimal.Goals as goal

pub returns-in-Some-clause-text : goal.returns-in-Some-clause-text
returns-in-Some-clause-text c =
    let put = simp (to_z-of_z w128 c.args.number c.ranges.number) at c.in-Some.ensures.text in
    grind (arith, common_steps, put)

pub returns-in-None-clause-text : goal.returns-in-None-clause-text
returns-in-None-clause-text c =
    let given = to_z-of_z w128 c.args.number c.ranges.number in
    let back : c.truncate-in-None.new.self.items ≡ c.args.block.now.items = grind (arith, common_steps) in
    on_ok_weaker c.push_wide_decimal.result
    (λ e. e ∙ (ap (λ n. c.truncate-in-None.new.self.items ++ decimal_text c.args.scale n) given ∙ ap (λ l. l ++ decimal_text c.args.scale c.args.number) back))
    c.push_wide_decimal.ensures.text
