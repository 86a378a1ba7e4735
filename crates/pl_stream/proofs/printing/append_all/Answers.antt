use Rattle.std.proofs.Common.{◌≡◌, ◌+◌, ℕ, ◌<◌, List, [], ◌∷◌, ◌++◌, map, take, length, get_or, refl, sym, ◌∙◌, ap, append_assoc, append-nil, arith, Global}
use Rattle.std.specs.Cow.{cow_slice_items}
use Rattle.std.specs.List.{concat}
use Rattle.std.specs.declared.borrow.CowSlice.{CowSlice}
use Rattle.std.proofs.lemmas.List.{map-append, take_more}
use Rattle.std.proofs.lemmas.List.Folds.{concat-append}
use Rattle.pl_stream.proofs.printing.append_all.Goals as goal

-- one text more
more : (lines : List (CowSlice ℕ Global)) (k : ℕ) (part : CowSlice ℕ Global) (before old new : List ℕ) → k < length lines → part ≡ get_or lines k part → old ≡ before ++ concat (map cow_slice_items (take k lines)) → new ≡ old ++ cow_slice_items part
    → new ≡ before ++ concat (map cow_slice_items (take (k + 1) lines))
more lines k part before old new inside is so_far now =
    let front = concat (map cow_slice_items (take k lines)) in
    let next : concat (map cow_slice_items (take (k + 1) lines)) ≡ front ++ cow_slice_items part =
    ap (λ l. concat (map cow_slice_items l)) (take_more lines k part inside ∙ ap (λ x. take k lines ++ x ∷ []) (sym is))
    ∙ ap concat (map-append cow_slice_items (take k lines) (part ∷ []))
    ∙ concat-append (map cow_slice_items (take k lines)) (cow_slice_items part ∷ [])
    ∙ ap (λ l. front ++ l) (append-nil (cow_slice_items part)) in
    now ∙ ap (λ l. l ++ cow_slice_items part) so_far ∙ append_assoc before front (cow_slice_items part) ∙ ap (λ l. before ++ l) (sym next)

pub loop-part-preserved : goal.loop-part-preserved
loop-part-preserved c =
    more c.args.lines.now c.loop-part.part-index c.part-item.result c.args.text.now.items c.loop-part.text.items c.extend_from_slice.new.self.items c.loop-part-test.true c.part-item.is c.loop-part.invariant
    (c.in_ok-extend_from_slice.ensures.items ∙ ap (λ l. c.loop-part.text.items ++ l) c.deref.ensures.value)
