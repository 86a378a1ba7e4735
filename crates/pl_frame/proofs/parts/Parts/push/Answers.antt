use Rattle.std.proofs.Common.{◌≡◌, ◌+◌, ◌∷◌, [], ◌++◌, ◌∙◌, ap, sym, length, arith}
use Rattle.pl_frame.specs.Parts.{part_cells, parts_cells, ends_from}
use Rattle.pl_frame.proofs.PartsLaws.{ends-more}
use Rattle.pl_frame.proofs.parts.Parts.push.Goals as goal

pub invariant_of-self-2 : goal.invariant_of-self-2
invariant_of-self-2 c =
    let parts = c.self.inside.parts.items in
    let rows : length c.args.self.now ≡ length (parts_cells parts) = ap length (sym c.self.view_is) in
    let end : c.in-Some.end ≡ length (parts_cells parts) + length (part_cells c.args.part) = omega (arith, c.in-Some.ensures, c.len.ensures, c.len-2.ensures, rows) in
    c.push_reserved.ensures.items ∙ ap (λ es. es ++ c.in-Some.end ∷ []) c.in_ok-reserve.ensures.items
    ∙ ends-more parts c.args.part c.self.inside.ends.items c.in-Some.end c.self.invariant end
    ∙ sym (ap (ends_from 0) (c.push_reserved-2.ensures.items ∙ ap (λ ps. ps ++ c.args.part ∷ []) c.in_ok-reserve-2.ensures.items))
