use Rattle.std.proofs.Common.{ap, arith}
use Rattle.std.proofs.lemmas.List.{length_push}
use Rattle.std.proofs.lemmas.List.Elements.{All-push}
use Rattle.pl_board.specs.Seats.{Tally, IsSeat}
use Rattle.pl_board.proofs.SeatLaws.{sum_more}
use Rattle.pl_board.proofs.pool.Pool.gather_all.Goals as goal

pub loop-seat-preserved : goal.loop-seat-preserved
loop-seat-preserved g c =
    let done = c.loop-seat.yielded in
    let seat = c.in-Some.seat in
    let sums = c.loop-seat.invariant in
    let more = c.gather.ensures.tally in
    record {
      parts = omega (arith, c.gather.ensures.parts, sums.parts, length_push done seat);
      handed_out = sum_more (λ (t : Tally). t.handed_out) done seat _ _ (ap (λ (t : Tally). t.handed_out) more) sums.handed_out;
      posts = sum_more (λ (t : Tally). t.posts) done seat _ _ (ap (λ (t : Tally). t.posts) more) sums.posts;
      seats = sum_more (λ (t : Tally). t.seats) done seat _ _ (ap (λ (t : Tally). t.seats) more) sums.seats;
      running = sum_more (λ (t : Tally). t.running) done seat _ _ (ap (λ (t : Tally). t.running) more) sums.running;
      clean = sum_more (λ (t : Tally). t.clean) done seat _ _ (ap (λ (t : Tally). t.clean) more) sums.clean;
      are_seats = All-push IsSeat done seat sums.are_seats c.gather.ensures.seat;
    }
