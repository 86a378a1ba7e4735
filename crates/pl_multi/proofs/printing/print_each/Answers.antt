use Rattle.std.proofs.Common.{◌≡◌, [], ◌++◌, ◌+◌, ◌<◌, None, ℕ, List, length, refl, ◌∙◌, sym, subst, arith, rules}
use Rattle.pl_multi.specs.Groups.{IsUnread, texts_of}
use Rattle.pl_multi.specs.Printing.{ArePrinted}
use Rattle.pl_multi.proofs.GroupLaws.{came_of, count-came, printed-from, group-printed, group-fault, unread-behind}
use Rattle.pl_multi.proofs.PrintingLaws.{printed-none}
use Rattle.pl_multi.proofs.printing.print_each.Goals as goal

pub loop-place-init : goal.loop-place-init
loop-place-init g c =
    let holds = g.O.Opener.holds c.args.opener.now in
    let read = c.args.read.now in
    let write = c.args.write.now in
    let parts = c.args.parts.now in
    let none : c.new-lines.result.items ≡ [] = search rules in
    record {
      printed = subst (λ (lines : List (List ℕ)). ArePrinted holds read write parts 0 lines) (sym none) (printed-none holds read write parts c.requires.empty);
      within = omega arith;
      later = omega arith;
      stays = λ other. refl;
    }

pub returns-in-Err-clause-refused : goal.returns-in-Err-clause-refused
returns-in-Err-clause-refused g c =
    let l = c.loop-place.invariant in
    let holds = g.O.Opener.holds c.args.opener.now in
    let later_holds = g.O.Opener.holds c.loop-place.opener in
    let read = c.args.read.now in
    let write = c.args.write.now in
    let parts = c.args.parts.now in
    let place = c.loop-place.place in
    let next = c.print_next-all_read in
    let new = next.new.group.items in
    let came = printed-from later_holds read write parts place new next.ensures.printed next.ensures.read in
    group-fault holds later_holds l.stays read write parts c.requires.sound c.requires.plain place c.loop-place.lines.items (came_of new) l.printed came
    (g.O.Opener.faults c.args.opener.now) (g.O.Opener.faults c.loop-place.opener) (g.O.Opener.faults next.new.opener) c.in-Err.fault l.later c.in-Err.ensures.refused

pub loop-place-preserved : goal.loop-place-preserved
loop-place-preserved g c =
    let l = c.loop-place.invariant in
    let holds = g.O.Opener.holds c.args.opener.now in
    let later_holds = g.O.Opener.holds c.loop-place.opener in
    let read = c.args.read.now in
    let write = c.args.write.now in
    let parts = c.args.parts.now in
    let place = c.loop-place.place in
    let lines = c.loop-place.lines.items in
    let next = c.print_next-all_read in
    let new = next.new.group.items in
    let came = printed-from later_holds read write parts place new next.ensures.printed next.ensures.read in
    let count : length (came_of new) ≡ c.len-count.result = omega (arith, count-came new, c.len-count.ensures) in
    let more = group-printed holds later_holds l.stays read write parts c.requires.sound c.requires.plain place lines (came_of new) l.printed came c.in-Ok.ensures.sound in
    record {
      printed = subst (λ (all : List (List ℕ)). ArePrinted holds read write parts (place + c.len-count.result) all) (sym c.in-Ok.ensures.lines)
          (subst (λ n. ArePrinted holds read write parts (place + n) (lines ++ texts_of (came_of new))) count more);
      within = omega (arith, next.ensures.within, c.len-count.ensures);
      later = omega (arith, l.later, next.ensures.later);
      stays = λ other. next.ensures.stays other ∙ l.stays other;
    }

pub returns-in-Err-all_read-clause-refused : goal.returns-in-Err-all_read-clause-refused
returns-in-Err-all_read-clause-refused g c =
    let l = c.loop-place.invariant in
    let holds = g.O.Opener.holds c.args.opener.now in
    let later_holds = g.O.Opener.holds c.loop-place.opener in
    let read = c.args.read.now in
    let write = c.args.write.now in
    let parts = c.args.parts.now in
    let place = c.loop-place.place in
    let lines = c.loop-place.lines.items in
    let next = c.print_next-all_read in
    let new = next.new.group.items in
    let came = printed-from later_holds read write parts place new next.ensures.printed next.ensures.read in
    let more = group-printed holds later_holds l.stays read write parts c.requires.sound c.requires.plain place lines (came_of new) l.printed came c.in-Ok.ensures.sound in
    let count : length new ≡ length (came_of new) = omega (arith, count-came new) in
    let behind : place + length (came_of new) < length parts = omega (arith, count, c.in-Err-all_read.ensures.behind) in
    let before = g.O.Opener.faults c.loop-place.opener in
    let now = g.O.Opener.faults next.new.opener in
    let unread = subst (λ n. IsUnread before now (place + n) c.in-Err-all_read.fault) count c.in-Err-all_read.ensures.refused in
    unread-behind holds later_holds l.stays read write parts c.requires.sound c.requires.plain (place + length (came_of new)) (lines ++ texts_of (came_of new)) behind more
    (g.O.Opener.faults c.args.opener.now) before now c.in-Err-all_read.fault l.later unread
