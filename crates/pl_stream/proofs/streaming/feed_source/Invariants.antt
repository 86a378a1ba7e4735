use Rattle.std.proofs.Common.{◌≡◌, ◌≤◌, ◌-◌, ◌^◌, length}
use Rattle.pl_stream.proofs.StreamingLaws.{IsFeeding}
use Rattle.pl_stream.specs.Streaming.{IsOpenState, most_bytes}
use Rattle.pl_stream.proofs.streaming.feed_source.Given as goal

abbrev pub invariant-loop-count : goal.invariant-loop-count
invariant-loop-count g l = record {
  open_state : IsOpenState l.state;
  room_is : length l.room ≡ length l.fn.room;
  within : l.size ≤ most_bytes;
  fed : IsFeeding l.fn.state l.state l.size (g.So.Source.left l.fn.source) (g.So.Source.left l.source) (g.Si.Sink.received l.fn.sink) (g.Si.Sink.received l.sink);
  source_later : g.So.Source.faults l.fn.source ≤ g.So.Source.faults l.source;
  later : g.Si.Sink.faults l.fn.sink ≤ g.Si.Sink.faults l.sink;
  wants_later : g.Si.Sink.wants l.fn.sink ≤ g.Si.Sink.wants l.sink;
}

abbrev pub decreases-loop-count : goal.decreases-loop-count
decreases-loop-count g l = most_bytes - l.size
