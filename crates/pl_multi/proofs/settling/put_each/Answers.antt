use Rattle.std.proofs.Common.{◌≡◌, All, IfOk, Vec, Global, subst, sym, ◌∙◌}
use Rattle.std.specs.Prelude.{Result}
use Rattle.std.specs.declared.alloc.AllocError.{AllocError}
use Rattle.pl_multi.specs.Groups.{IsTakenOf}
use Rattle.pl_multi.specs.declared.settling.TakenPart.{TakenPart}
use Rattle.pl_multi.proofs.GroupLaws.{bytes_of, taken-put, all-gone}
use Rattle.pl_multi.proofs.settling.put_each.Goals as goal

pub loop-taken-preserved : goal.loop-taken-preserved
loop-taken-preserved c =
    let l = c.loop-taken.invariant in
    record {
      same = c.put_parts.ensures.same ∙ l.same;
      printed = λ read write. taken-put read write c.args.group.now c.loop-taken.group c.put_parts.new.group c.loop-taken.yielded c.in-Some.taken l.same (l.printed read write) (c.put_parts.ensures.printed read write);
    }

pub returns-clause-printed : goal.returns-clause-printed
returns-clause-printed c = λ read write taken.
    let P = λ (it : Vec TakenPart Global). All (IsTakenOf read write (bytes_of c.args.group.now)) it.items in
    let items = c.in-Ok.all.items in
    let held : All P items = subst (λ (r : Result (Vec (Vec TakenPart Global) Global) AllocError). IfOk r (λ all. All P all.items)) c.in-Ok.is taken in
    let all : items ≡ c.loop-taken.yielded =
    all-gone items c.into_iter-taken-iterator.result c.loop-taken.yielded c.loop-taken.taken-iterator c.into_iter-taken-iterator.ensures.into_iter_gives.0 c.loop-taken.yielded_by
    (sym c.loop-taken.taken-iterator.rest.ok.0 ∙ c.in-None.ensures.steps.0) in
    c.loop-taken.invariant.printed read write (subst (All P) all held)
