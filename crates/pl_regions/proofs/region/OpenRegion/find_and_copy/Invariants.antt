use Rattle.std.proofs.Common.{◌≡◌, ◌≤◌, length, ◌-◌}
use Rattle.pl_write.specs.Options.{cell_options}
use Rattle.pl_regions.specs.Regions.{IsOpenPrinted}
use Rattle.pl_regions.proofs.region.OpenRegion.find_and_copy.Given as goal

abbrev pub invariant-loop-self : goal.invariant-loop-self
invariant-loop-self l = record {
  after : l.fn.self.end ≤ l.self.end;
  text : l.self.text.now ≡ l.fn.self.text.now;
  printed : IsOpenPrinted l.plan l.schema (cell_options l.options) l.self;
}

abbrev pub decreases-loop-self : goal.decreases-loop-self
decreases-loop-self l = length l.self.text.now - l.self.end
