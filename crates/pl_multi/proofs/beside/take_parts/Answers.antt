use Rattle.std.proofs.Common.{◌≡◌, ◌++◌, [], ◌∷◌, List, ℕ, Vec, Global, not, sym, ◌∙◌, ap, subst}
use Rattle.std.specs.Prelude.{All}
use Rattle.std.proofs.lemmas.List.Elements.{All-push}
use Rattle.pl_multi.specs.Cells.{IsTakenCell, cell_bytes}
use Rattle.pl_multi.specs.Groups.{IsPrintedOf}
use Rattle.pl_multi.specs.declared.settling.TakenCell.{TakenCell}
use Rattle.pl_multi.proofs.GroupLaws.{ok-holds}
use Rattle.pl_multi.proofs.beside.take_parts.Goals as goal

pub loop-preserved : goal.loop-preserved
loop-preserved g c =
    let read = c.args.read.now in
    let write = c.args.write.now in
    let P = IsTakenCell read write c.args.cells.now in
    let token = c.in-Some.field-0.token in
    let printed = c.print_part-printed.result in
    let one : TakenCell = record { place = c.in-Some.field-0.place; token = token; printed = printed } in
    let taken = c.loop.taken.items in
    let pushed = c.is_err.ensures.negation ∙ ap not c.if-is_err.false in
    let items : c.push.new.items.items ≡ taken ++ one ∷ [] = ok-holds c.push.result (c.push.new.items.items ≡ taken ++ one ∷ []) pushed c.push.ensures.pushed in
    let text = c.deref.ensures.value ∙ ap (λ (bytes : Vec ℕ Global). bytes.items) c.as_ref.ensures ∙ ap cell_bytes (sym c.in-Some-value.is ∙ c.value.ensures) in
    let own : P one = record {
      of = c.in-Some.ensures.of;
      printed = subst (λ (bytes : List ℕ). IsPrintedOf read write bytes printed) text c.print_part-printed.ensures;
    } in
    subst (All P) (sym items) (All-push P taken one c.loop.invariant own)
