use Rattle.std.proofs.Common.{map, ap}
use Rattle.std.specs.Cow.{cow_slice_items}
use Rattle.std.specs.List.{concat}
use Rattle.std.specs.declared.borrow.CowSlice.{CowSlice}
use Rattle.std.proofs.Common.{Global, List, ℕ}
use Rattle.pl_write.specs.Options.{cell_options}
use Rattle.pl_regions.proofs.RegionLaws.{unread}
use Rattle.pl_regions.proofs.printing.guess_front.Goals as goal

pub returns-in_default : goal.returns-in_default
returns-in_default g c =
    unread c.args.plan.now c.args.schema.now (cell_options c.args.options.now) c.args.records.now c.new.result.end c.new.result.rows _ c.new.ensures.end c.new.ensures.rows
    (ap (λ (l : List (CowSlice ℕ Global)). concat (map cow_slice_items l)) c.new.ensures.lines)
