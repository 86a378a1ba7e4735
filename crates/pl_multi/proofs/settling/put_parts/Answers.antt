use Rattle.std.proofs.Common.{◌≡◌, ◌<◌, All, arith, length, subst, sym, ◌∙◌}
use Rattle.pl_multi.specs.Groups.{IsTakenOf}
use Rattle.pl_multi.specs.declared.settling.TakenPart.{TakenPart}
use Rattle.pl_multi.proofs.GroupLaws.{bytes_of, bytes-put, printed-put, all-gone, next-of}
use Rattle.pl_multi.proofs.settling.put_parts.Goals as goal

pub loop-one-preserved : goal.loop-one-preserved
loop-one-preserved c =
    let l = c.loop-one.invariant in
    let group = c.loop-one.group in
    let one = c.in-Some.one in
    let part = c.put.new.self in
    let d = c.index-group-place.result in
    let inside : one.place < length c.args.group.now = next-of (λ (it : TakenPart). it.place < length c.args.group.now) c.args.taken.items c.into_iter-one-iterator.result c.loop-one.yielded c.loop-one.one-iterator one c.next.new.self
    c.requires c.into_iter-one-iterator.ensures.into_iter_gives.0 c.loop-one.yielded_by c.in-Some.ensures.steps.0 in
    record {
      same = bytes-put group one.place part d (omega (arith, inside, c.loop-one.auto.group)) c.put.ensures.bytes ∙ l.same;
      printed = λ read write. printed-put read write c.args.group.now group c.loop-one.yielded one part d l.same c.put.ensures.bytes c.put.ensures.printed (l.printed read write);
    }

pub returns-clause-printed : goal.returns-clause-printed
returns-clause-printed c = λ read write taken.
    let all : c.args.taken.items ≡ c.loop-one.yielded =
    all-gone c.args.taken.items c.into_iter-one-iterator.result c.loop-one.yielded c.loop-one.one-iterator c.into_iter-one-iterator.ensures.into_iter_gives.0 c.loop-one.yielded_by (sym c.loop-one.one-iterator.rest.ok.0 ∙ c.in-None.ensures.steps.0) in
    c.loop-one.invariant.printed read write (subst (All (IsTakenOf read write (bytes_of c.args.group.now))) all taken)
