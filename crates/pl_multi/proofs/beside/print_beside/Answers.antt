use Rattle.std.proofs.Common.{◌≡◌, ◌≤◌, ◌<◌, ◌+◌, ℕ, List, Vec, Global, All, Err, IfOk, IfErr, OnOk, length, sym, ◌∙◌, ap, subst, arith}
use Rattle.std.proofs.lemmas.List.{with_items_is}
use Rattle.pl_frame.specs.declared.error.PolarsError.TheVariants as error
use Rattle.pl_multi.specs.Groups.{IsTakenOf, ArePrintedOf, IsUnread}
use Rattle.pl_multi.specs.declared.settling.TakenPart.{TakenPart}
use Rattle.pl_multi.specs.declared.groups.PartLines.{PartLines}
use Rattle.pl_multi.proofs.CellLaws.{as-many}
use Rattle.pl_multi.proofs.GroupLaws.{bytes_of, unprinted-are}
use Rattle.pl_multi.proofs.beside.print_beside.Goals as goal

pub returns-clause-printed : goal.returns-clause-printed
returns-clause-printed g c =
    let read = c.args.read.now in
    let write = c.args.write.now in
    let new = c.put_each.new.group in
    let given = c.deref_mut.ensures.value in
    let same = with_items_is c.in-Ok-own_parts.owned new (omega (arith, c.put_each.auto.group, c.deref_mut.ensures.len)) in
    let settled = subst (λ (texts : List (List ℕ)). IfOk c.print_cells-printed.result.settled (λ all. All (λ (taken : Vec TakenPart Global). All (IsTakenOf read write texts) taken.items) all.items))
    (sym (ap bytes_of given ∙ c.in-Ok-own_parts.ensures.bytes)) c.print_cells-printed.ensures.settled in
    let none = subst (All (λ (one : PartLines). one.printed ≡ Err error.OutOfMemory)) (sym given) c.in-Ok-own_parts.ensures.unprinted in
    subst (ArePrintedOf read write) (sym same) (c.put_each.ensures.printed read write settled (unprinted-are read write c.deref_mut.result.now none))

pub returns-clause-some : goal.returns-clause-some
returns-clause-some g c =
    let new = c.put_each.new.group in
    let same = with_items_is c.in-Ok-own_parts.owned new (omega (arith, c.put_each.auto.group, c.deref_mut.ensures.len)) in
    let count = ap length same ∙ as-many new c.print_cells-printed.result.held.items (c.put_each.ensures.same ∙ ap bytes_of c.deref_mut.ensures.value ∙ c.in-Ok-own_parts.ensures.bytes) in
    subst (λ n. OnOk c.print_cells-printed.result.read (0 < n)) (sym count) c.print_cells-printed.ensures.some

pub returns-clause-within : goal.returns-clause-within
returns-clause-within g c =
    let new = c.put_each.new.group in
    let same = with_items_is c.in-Ok-own_parts.owned new (omega (arith, c.put_each.auto.group, c.deref_mut.ensures.len)) in
    let count = ap length same ∙ as-many new c.print_cells-printed.result.held.items (c.put_each.ensures.same ∙ ap bytes_of c.deref_mut.ensures.value ∙ c.in-Ok-own_parts.ensures.bytes) in
    subst (λ n. c.args.first + n ≤ length c.args.parts.now) (sym count) c.print_cells-printed.ensures.within

pub returns-clause-refused : goal.returns-clause-refused
returns-clause-refused g c =
    let new = c.put_each.new.group in
    let same = with_items_is c.in-Ok-own_parts.owned new (omega (arith, c.put_each.auto.group, c.deref_mut.ensures.len)) in
    let count = ap length same ∙ as-many new c.print_cells-printed.result.held.items (c.put_each.ensures.same ∙ ap bytes_of c.deref_mut.ensures.value ∙ c.in-Ok-own_parts.ensures.bytes) in
    let before = g.O.Opener.faults c.args.opener.now in
    let now = g.O.Opener.faults c.print_cells-printed.new.opener in
    subst (λ n. IfErr c.print_cells-printed.result.read (IsUnread before now (c.args.first + n))) (sym count) c.print_cells-printed.ensures.refused

pub returns-clause-behind : goal.returns-clause-behind
returns-clause-behind g c =
    let new = c.put_each.new.group in
    let same = with_items_is c.in-Ok-own_parts.owned new (omega (arith, c.put_each.auto.group, c.deref_mut.ensures.len)) in
    let count = ap length same ∙ as-many new c.print_cells-printed.result.held.items (c.put_each.ensures.same ∙ ap bytes_of c.deref_mut.ensures.value ∙ c.in-Ok-own_parts.ensures.bytes) in
    subst (λ n. IfErr c.print_cells-printed.result.read (λ _. c.args.first + n < length c.args.parts.now)) (sym count) c.print_cells-printed.ensures.behind
