use Rattle.std.proofs.Common.{◌≡◌, ℕ, ◌-◌, List, take, drop, length, subst, ap, arith, length-drop}
use Rattle.std.proofs.lemmas.List.{take_all}
use Rattle.pl_stream.specs.Head.{IsReached, rank}
use Rattle.pl_stream.proofs.HeadLaws.{reach_on}
use Rattle.pl_stream.proofs.head.advance.Goals as goal

-- what is left, as the loop sees it
rest-is : (k : ℕ) (b : List ℕ) → take (length b - k) (drop k b) ≡ drop k b
rest-is k b = take_all (length b - k) (drop k b) (omega (arith, length-drop k b))

pub loop-next-preserved : goal.loop-next-preserved
loop-next-preserved c =
    let o = c.args.options.now in
    let b = c.args.bytes.now in
    let reached = c.loop-next.reached in
    let next = c.in-Some.next in (
      reach_on o c.args.place b reached next c.requires c.loop-next.invariant.0 (subst (λ l. IsReached o reached.place l next) (rest-is reached.at b) c.in-Some.ensures.reached),
      λ start. absurd (omega (arith, c.in-Some.ensures.past, ap rank start)),
    )
