use Rattle.std.proofs.Common.{arith}
use Rattle.std.specs.Int.{w128}
use Rattle.std.proofs.lemmas.Grind.{common_steps}
use Rattle.std.proofs.lemmas.Int.{to_z-of_z}
use Rattle.pl_text.specs.ValueText.{datetime_text}
use Rattle.pl_write.proofs.KeptLaws.{front-is}
use Rattle.pl_write.proofs.times.push_datetime.Goals as goal

pub returns-clause-text : goal.returns-clause-text
returns-clause-text c =
    let put = simp (to_z-of_z w128 c.args.count c.ranges.count) at c.put_datetime-end.ensures.text in
    grind (arith, common_steps, put)

pub returns-clause-kept : goal.returns-clause-kept
returns-clause-kept c =
    let put = simp (to_z-of_z w128 c.args.count c.ranges.count) at c.put_datetime-end.ensures.text in
    front-is c.args.block.now.items (datetime_text c.args.unit c.args.count) c.truncate.new.self.items (grind (arith, common_steps, put))
