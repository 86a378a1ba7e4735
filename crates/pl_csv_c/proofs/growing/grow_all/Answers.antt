use Rattle.std.proofs.Common.{◌≡◌, ◌<◌, ◌∷◌, ◌++◌, length, set, get_or, refl, sym, ◌∙◌, ap, subst, arith, length-append}
use Rattle.std.proofs.lemmas.List.{length_push, length-set, append-nil}
use Rattle.std.specs.Vec.Iter.{into_iter_items}
use Rattle.pl_cells.proofs.CastWorkerLaws.{taken_front}
use Rattle.pl_csv_c.specs.Growing.{AreGrown}
use Rattle.pl_csv_c.proofs.GrowingLaws.{AreGrown-length, AreGrown-at, AreGrown-set, front_stacked-even}
use Rattle.pl_rows.proofs.StackLaws.{front_stacked, front_stacked-none, front_stacked-more, length-front_stacked, no-more}
use Rattle.pl_csv_c.proofs.growing.grow_all.Goals as goal

pub loop-column-init : goal.loop-column-init
loop-column-init c = record {
  place_is = refl;
  as_many = refl;
  grown = λ before are. subst (λ l. AreGrown l c.args.all.now) (front_stacked-none before) are;
}

pub loop-column-preserved : goal.loop-column-preserved
loop-column-preserved c =
    let done = c.loop-column.yielded in
    let column = c.in-Some.column in
    let rest = into_iter_items c.next.new.self in
    let place = c.loop-column.place in
    let d = c.index-all-place.result in
    let all : c.args.columns.items ≡ done ++ column ∷ rest =
    sym c.into_iter-column-iterator.ensures.into_iter_gives.0 ∙ taken_front c.into_iter-column-iterator.result done c.loop-column.column-iterator c.loop-column.yielded_by ∙ ap (λ l. done ++ l) c.in-Some.ensures.steps.0 in
    let place_is = c.loop-column.invariant.place_is in
    let as_many = c.loop-column.invariant.as_many in
    let inside : place < length c.loop-column.all = omega (arith, c.requires, ap length all, length-append done (column ∷ rest), place_is, as_many) in
    record {
      place_is = omega (arith, place_is, length_push done column);
      as_many = length-set c.loop-column.all place c.grow.new.growing ∙ as_many;
      grown = λ before are.
          let front = front_stacked before done in
          let so_far = c.loop-column.invariant.grown before are in
          let one = c.in_ok-grow.ensures (get_or front place column) (AreGrown-at front c.loop-column.all place column d so_far inside) in
          let within : length done < length before = omega (arith, inside, place_is, AreGrown-length front c.loop-column.all so_far, length-front_stacked before done) in
          subst (λ l. AreGrown l (set c.loop-column.all place c.grow.new.growing))
          (ap (λ k. set front k (record { name = (get_or front k column).name; dtype = (get_or front k column).dtype; values = (get_or front k column).values ++ column.values })) place_is
          ∙ sym (front_stacked-more before done column column within))
          (AreGrown-set front c.loop-column.all place _ c.grow.new.growing so_far inside one);
    }

pub returns : goal.returns
returns c = λ before are.
    let done = c.loop-column.yielded in
    let all : c.args.columns.items ≡ done =
    sym c.into_iter-column-iterator.ensures.into_iter_gives.0 ∙ taken_front c.into_iter-column-iterator.result done c.loop-column.column-iterator c.loop-column.yielded_by
    ∙ ap (λ l. done ++ l) (no-more (into_iter_items c.loop-column.column-iterator) (sym c.loop-column.column-iterator.rest.ok.0 ∙ c.in-None.ensures.steps.0)) ∙ append-nil done in
    subst (λ l. AreGrown l c.loop-column.all)
    (ap (front_stacked before) (sym all) ∙ front_stacked-even before c.args.columns.items (AreGrown-length before c.args.all.now are ∙ c.requires))
    (c.loop-column.invariant.grown before are)
