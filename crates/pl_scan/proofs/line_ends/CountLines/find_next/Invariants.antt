use Rattle.std.proofs.Common.{◌≡◌, ◌<◌, ◌-◌, length}
use Rattle.pl_scan.specs.LineEnds.{cut_size}
use Rattle.pl_scan.proofs.line_ends.CountLines.find_next.Given as goal

abbrev pub invariant-loop-chunk_size : goal.invariant-loop-chunk_size
invariant-loop-chunk_size l = record {
  some : 0 < l.chunk_size;
  size : cut_size l.self.quote l.self.line_end l.bytes l.chunk_size ≡ cut_size l.self.quote l.self.line_end l.bytes l.fn.chunk_size;
}

abbrev pub decreases-loop-chunk_size : goal.decreases-loop-chunk_size
decreases-loop-chunk_size l = length l.bytes - l.chunk_size
