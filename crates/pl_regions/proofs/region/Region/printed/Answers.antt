use Rattle.pl_write.specs.Options.{cell_options}
use Rattle.pl_regions.specs.Regions.{lines_so_far}
use Rattle.pl_regions.proofs.RegionLaws.{unread}
use Rattle.pl_regions.proofs.region.Region.printed.Goals as goal

pub find_and_copy-requires-clause-printed : goal.find_and_copy-requires-clause-printed
find_and_copy-requires-clause-printed c =
    let region = c.new-region.result in
    unread c.args.plan.now c.args.schema.now (cell_options c.args.options.now) region.text.now region.end region.rows (lines_so_far region) c.new-region.ensures.end c.new-region.ensures.rows c.new-region.ensures.lines
