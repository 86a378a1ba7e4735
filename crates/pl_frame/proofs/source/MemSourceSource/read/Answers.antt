use Rattle.std.proofs.Common.{arith, ◌≤◌, ◌-◌, ◌+◌, length, drop, length-append, length-drop}
use Rattle.std.proofs.lemmas.List.{drop_all, take_rest}
use Rattle.pl_frame.proofs.Known.{read_front}
use Rattle.pl_frame.proofs.source.MemSourceSource.read.Goals as goal

pub returns-clause-bytes : goal.returns-clause-bytes
returns-clause-bytes c =
    let b = c.self.inside.bytes.now in
    let r = c.self.inside.place in
    let n = c.min-count.result in
    let front = c.copy_from_slice.new.self in
    let fits : r ≤ length b = c.self.invariant in
    let rest = take_rest b r in
    let count = rw rest at c.min-count.ensures in
    let least : n ≤ length b - r = omega (arith, count, length-drop r b) in
    let is = rw rest at c.copy_from_slice.ensures.after in (
      rw (← c.self.view_is) (read_front b c.args.buf.now front r n fits least is),
      λ none some. drop_all (r + n) b (omega (arith, count, length-drop r b, c.copy_from_slice.ensures.len, length-append front (drop n c.args.buf.now), length-drop n c.args.buf.now)),
    )
