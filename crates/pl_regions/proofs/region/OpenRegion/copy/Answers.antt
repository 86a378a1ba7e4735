use Rattle.std.proofs.Common.{arith}
use Rattle.pl_write.specs.Options.{cell_options}
use Rattle.pl_regions.proofs.RegionLaws.{copied, few-printed}
use Rattle.pl_regions.proofs.region.OpenRegion.copy.Goals as goal

pub overflow_add-self : goal.overflow_add-self
overflow_add-self c =
    let plan = c.args.plan.now in
    let schema = c.args.schema.now in
    let o = cell_options c.args.options.now in
    let region = c.args.self.now in
    let all =
    copied plan schema o c.args.verbatim.now region c.args.to c.copy-copied.result.end c.copy-copied.result.rows c.copy-copied.new.lines.items c.requires.can c.requires.verbatim c.requires.printed c.requires.within
    c.copy-copied.ensures in
    record { fits = omega (arith, few-printed plan schema o region.text.now c.copy-copied.result.end _ _ c.requires.can.dialect all) }

pub returns-clause-printed : goal.returns-clause-printed
returns-clause-printed c =
    copied c.args.plan.now c.args.schema.now (cell_options c.args.options.now) c.args.verbatim.now c.args.self.now c.args.to c.copy-copied.result.end c.copy-copied.result.rows c.copy-copied.new.lines.items
    c.requires.can c.requires.verbatim c.requires.printed c.requires.within c.copy-copied.ensures
