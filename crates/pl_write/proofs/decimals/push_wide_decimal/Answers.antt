use Rattle.std.proofs.Common.{◌≡◌, ◌+◌, if◌then◌else◌, [], ◌∷◌, ◌++◌, unsigned_abs, ap}
use Rattle.std.proofs.lemmas.Int.{to_z-of_z}
use Rattle.std.specs.Int.{is_negative, w128}
use Rattle.pl_text.specs.ValueText.{padded, point_text, decimal_text}
use Rattle.pl_write.proofs.BlockLaws.{two_parts}
use Rattle.pl_write.proofs.decimals.push_wide_decimal.Goals as goal

pub returns-clause-text : goal.returns-clause-text
returns-clause-text c =
    let given = to_z-of_z w128 c.args.number c.ranges.number in
    let size : c.unsigned_abs.result ≡ unsigned_abs c.args.number = simp given at c.unsigned_abs.ensures.value in
    let sign = simp given at c.in_ok-push_sign.ensures.text in
    let scale = c.args.scale in
    two_parts c.push_wide_scaled.result c.args.block.now.items c.push_sign.new.block.items c.push_wide_scaled.new.block.items
    (if is_negative c.args.number then 45 ∷ [] else []) (point_text scale (padded (scale + 1) c.unsigned_abs.result)) (decimal_text scale c.args.number)
    sign
    (ap (λ n. (if is_negative c.args.number then 45 ∷ [] else []) ++ point_text scale (padded (scale + 1) n)) size)
    c.push_wide_scaled.ensures.text
