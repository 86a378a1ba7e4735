use Rattle.std.proofs.Common.{◌≡◌, ◌<◌, ◌≤◌, ◌+◌, ◌++◌, ℕ, List, [], ap, sym, subst, ◌∙◌, take, length, arith, length-append, append-nil}
use Rattle.std.specs.Io.KnownBytes.{Consumes, IsAtEnd}
use Rattle.pl_csv.specs.Views.{sink_view, source_view}
use Rattle.pl_stream.specs.Streaming.{most_bytes}
use Rattle.pl_stream.proofs.StreamingLaws.{on_ok, if_err, accepted-dialect, feeding-ended, feeding-unended, feeding-unfed, feeding-more, feeding-late, IsFeeding}
use Rattle.pl_stream.proofs.streaming.feed_source.Goals as goal

pub returns-then-count-eq0-clause-done : goal.returns-then-count-eq0-clause-done
returns-then-count-eq0-clause-done g c =
    let left = g.So.Source.left in
    let none : take c.in-Ok.count c.read.new.buf ≡ [] = ap (λ n. take n c.read.new.buf) c.if-count-eq0.true in
    let came : Consumes (left c.loop-count.source) (left c.read.new.self) [] = subst (Consumes (left c.loop-count.source) (left c.read.new.self)) none c.in-Ok.ensures.bytes.0 in
    let end : IsAtEnd (left c.read.new.self) = c.in-Ok.ensures.bytes.1 c.if-count-eq0.true (omega (arith, c.requires.room, c.loop-count.invariant.room_is, c.read.auto.buf)) in
    on_ok c.end_input.result (feeding-ended c.args.state.now c.loop-count.state c.loop-count.size (source_view (g.So.Source.left c.args.source.now) (g.So.Source.faults c.args.source.now)) (source_view (g.So.Source.left c.loop-count.source) (g.So.Source.faults c.loop-count.source)) (source_view (g.So.Source.left c.read.new.self) (g.So.Source.faults c.read.new.self)) (sink_view (g.Si.Sink.received c.args.sink.now) (g.Si.Sink.faults c.args.sink.now) (g.Si.Sink.wants c.args.sink.now)) (sink_view (g.Si.Sink.received c.loop-count.sink) (g.Si.Sink.faults c.loop-count.sink) (g.Si.Sink.wants c.loop-count.sink)) (sink_view (g.Si.Sink.received c.end_input.new.sink) (g.Si.Sink.faults c.end_input.new.sink) (g.Si.Sink.wants c.end_input.new.sink))
    (accepted-dialect c.args.state.now.read c.args.state.now.write c.requires.accepted) c.loop-count.invariant.fed c.loop-count.invariant.later came end) (c.end_input.ensures.ended c.loop-count.invariant.fed.fed c.loop-count.invariant.fed.stands)

pub returns-then-count-eq0-clause-refused : goal.returns-then-count-eq0-clause-refused
returns-then-count-eq0-clause-refused g c =
    let left = g.So.Source.left in
    let none : take c.in-Ok.count c.read.new.buf ≡ [] = ap (λ n. take n c.read.new.buf) c.if-count-eq0.true in
    let came : Consumes (left c.loop-count.source) (left c.read.new.self) [] = subst (Consumes (left c.loop-count.source) (left c.read.new.self)) none c.in-Ok.ensures.bytes.0 in
    let end : IsAtEnd (left c.read.new.self) = c.in-Ok.ensures.bytes.1 c.if-count-eq0.true (omega (arith, c.requires.room, c.loop-count.invariant.room_is, c.read.auto.buf)) in
    if_err c.end_input.result (feeding-unended c.args.state.now c.loop-count.state c.loop-count.size (source_view (g.So.Source.left c.args.source.now) (g.So.Source.faults c.args.source.now)) (source_view (g.So.Source.left c.loop-count.source) (g.So.Source.faults c.loop-count.source)) (source_view (g.So.Source.left c.read.new.self) (g.So.Source.faults c.read.new.self)) (sink_view (g.Si.Sink.received c.args.sink.now) (g.Si.Sink.faults c.args.sink.now) (g.Si.Sink.wants c.args.sink.now)) (sink_view (g.Si.Sink.received c.loop-count.sink) (g.Si.Sink.faults c.loop-count.sink) (g.Si.Sink.wants c.loop-count.sink)) (sink_view (g.Si.Sink.received c.end_input.new.sink) (g.Si.Sink.faults c.end_input.new.sink) (g.Si.Sink.wants c.end_input.new.sink))
    (accepted-dialect c.args.state.now.read c.args.state.now.write c.requires.accepted) c.loop-count.invariant.fed c.loop-count.invariant.later came end) (c.end_input.ensures.refused c.loop-count.invariant.fed.fed c.loop-count.invariant.fed.stands)

pub returns-then-count-size-clause-refused : goal.returns-then-count-size-clause-refused
returns-then-count-size-clause-refused g c =
    let left = g.So.Source.left in
    let received = g.Si.Sink.received in
    feeding-late c.args.state.now c.loop-count.state c.loop-count.size (take c.in-Ok.count c.read.new.buf) (left c.args.source.now) (left c.loop-count.source) (left c.read.new.self) (received c.args.sink.now) (received c.loop-count.sink)
    c.loop-count.invariant.fed c.in-Ok.ensures.bytes.0 (omega (arith, c.if-count-size.true, c.in-Ok.ensures.bound.1))

pub returns-in-Err-clause-refused : goal.returns-in-Err-clause-refused
returns-in-Err-clause-refused g c =
    let piece = take c.in-Ok.count c.read.new.buf in
    feeding-unfed c.args.state.now c.loop-count.state c.loop-count.size (source_view (g.So.Source.left c.args.source.now) (g.So.Source.faults c.args.source.now)) (source_view (g.So.Source.left c.loop-count.source) (g.So.Source.faults c.loop-count.source)) (source_view (g.So.Source.left c.read.new.self) (g.So.Source.faults c.read.new.self)) (sink_view (g.Si.Sink.received c.args.sink.now) (g.Si.Sink.faults c.args.sink.now) (g.Si.Sink.wants c.args.sink.now)) (sink_view (g.Si.Sink.received c.loop-count.sink) (g.Si.Sink.faults c.loop-count.sink) (g.Si.Sink.wants c.loop-count.sink)) (sink_view (g.Si.Sink.received c.feed_piece.new.sink) (g.Si.Sink.faults c.feed_piece.new.sink) (g.Si.Sink.wants c.feed_piece.new.sink))
    (accepted-dialect c.args.state.now.read c.args.state.now.write c.requires.accepted) c.loop-count.invariant.fed c.loop-count.invariant.later piece c.in-Ok.ensures.bytes.0 (omega (arith, c.if-count-size.false, c.in-Ok.ensures.bound.1, c.loop-count.invariant.within)) c.in-Err.fault
    (c.in-Err.ensures.refused c.loop-count.invariant.fed.fed c.loop-count.invariant.fed.stands (omega (arith, length-append c.loop-count.invariant.fed.fed piece, c.loop-count.invariant.fed.size_is, c.if-count-size.false, c.in-Ok.ensures.bound.1, c.loop-count.invariant.within)))

pub loop-count-preserved : goal.loop-count-preserved
loop-count-preserved g c =
    let left = g.So.Source.left in
    let received = g.Si.Sink.received in
    let before = c.loop-count.invariant in
    let piece = take c.in-Ok.count c.read.new.buf in
    let count : c.in-Ok.count ≡ length piece = c.in-Ok.ensures.bound.1 in
    let within : c.loop-count.size + length piece ≤ most_bytes = omega (arith, c.if-count-size.false, count, before.within) in
    let on = c.in_default-feed_piece.ensures.fed before.fed.fed before.fed.stands (omega (arith, length-append before.fed.fed piece, before.fed.size_is, within)) in record {
      open_state = on.is_open;
      room_is = omega (arith, before.room_is, c.read.auto.buf);
      within = omega (arith, count, within);
      fed = subst (λ (n : ℕ). IsFeeding c.args.state.now c.feed_piece.new.state (c.loop-count.size + n) (left c.args.source.now) (left c.read.new.self) (received c.args.sink.now) (received c.feed_piece.new.sink)) (sym count)
          (feeding-more c.args.state.now c.loop-count.state c.feed_piece.new.state c.loop-count.size piece (left c.args.source.now) (left c.loop-count.source) (left c.read.new.self) (received c.args.sink.now) (received c.loop-count.sink)
          (received c.feed_piece.new.sink) (accepted-dialect c.args.state.now.read c.args.state.now.write c.requires.accepted) before.fed on c.in-Ok.ensures.bytes.0 within);
      source_later = omega (arith, before.source_later, c.read.ensures.cause.later);
      later = omega (arith, before.later, c.feed_piece.ensures.later);
      wants_later = omega (arith, before.wants_later, c.feed_piece.ensures.wants_later);
    }
