use Rattle.std.proofs.Common.{◌≡◌, ◌∷◌, ◌++◌, set, get_or, refl, sym, ◌∙◌, ap, subst, arith}
use Rattle.std.proofs.lemmas.List.{length_push, append-nil}
use Rattle.std.specs.Vec.Iter.{into_iter_items}
use Rattle.pl_frame.specs.FrameParts.{HaveSameColumns, with_values}
use Rattle.pl_frame.specs.Frame.{ColumnValue}
use Rattle.pl_cells.proofs.CastWorkerLaws.{taken_front}
use Rattle.pl_rows.proofs.StackLaws.{front_stacked, front_stacked-none, front_stacked-all, front_stacked-more, next-type, next-inside, no-more}
use Rattle.pl_rows.proofs.stack.push_columns.Goals as goal

pub loop-column-init : goal.loop-column-init
loop-column-init c = record { stacks_are = front_stacked-none c.args.stacks.now; place_is = refl }

pub push_part-requires : goal.push_part-requires
push_part-requires c =
    let given = c.args.stacks.now in
    let done = c.loop-column.yielded in
    let rest = into_iter_items c.next.new.self in
    let all : c.args.columns.items ≡ done ++ c.in-Some.column ∷ rest =
    sym c.into_iter-column-iterator.ensures.into_iter_gives.0 ∙ taken_front c.into_iter-column-iterator.result done c.loop-column.column-iterator c.loop-column.yielded_by ∙ ap (λ l. done ++ l) c.in-Some.ensures.steps.0 in
    let same : HaveSameColumns given (done ++ c.in-Some.column ∷ rest) = subst (HaveSameColumns given) all c.requires in
    next-type given done rest c.in-Some.column c.index-stacks-place.result same
    ∙ ap (λ k. (get_or (front_stacked given done) k c.index-stacks-place.result).dtype) (sym c.loop-column.invariant.place_is)
    ∙ ap (λ s. (get_or s c.loop-column.place c.index-stacks-place.result).dtype) (sym c.loop-column.invariant.stacks_are)

pub loop-column-preserved : goal.loop-column-preserved
loop-column-preserved c =
    let given = c.args.stacks.now in
    let done = c.loop-column.yielded in
    let column = c.in-Some.column in
    let rest = into_iter_items c.next.new.self in
    let d = c.index-stacks-place.result in
    let all : c.args.columns.items ≡ done ++ column ∷ rest =
    sym c.into_iter-column-iterator.ensures.into_iter_gives.0 ∙ taken_front c.into_iter-column-iterator.result done c.loop-column.column-iterator c.loop-column.yielded_by ∙ ap (λ l. done ++ l) c.in-Some.ensures.steps.0 in
    let inside = next-inside given done rest column (subst (HaveSameColumns given) all c.requires) in
    let stacks_are = c.loop-column.invariant.stacks_are in
    let place_is = c.loop-column.invariant.place_is in
    let put : ColumnValue → ColumnValue = λ old. with_values old (old.values ++ column.values) in
    record {
      stacks_are =
          ap (set c.loop-column.stacks c.loop-column.place) c.in_ok-push_part.ensures
          ∙ ap (λ s. set s c.loop-column.place (put (get_or s c.loop-column.place d))) stacks_are
          ∙ ap (λ k. set (front_stacked given done) k (put (get_or (front_stacked given done) k d))) place_is
          ∙ sym (front_stacked-more given done column d inside);
      place_is = omega (arith, place_is, length_push done column);
    }

pub returns : goal.returns
returns c =
    let given = c.args.stacks.now in
    let done = c.loop-column.yielded in
    let all : c.args.columns.items ≡ done =
    sym c.into_iter-column-iterator.ensures.into_iter_gives.0 ∙ taken_front c.into_iter-column-iterator.result done c.loop-column.column-iterator c.loop-column.yielded_by
    ∙ ap (λ l. done ++ l) (no-more (into_iter_items c.loop-column.column-iterator) (sym c.loop-column.column-iterator.rest.ok.0 ∙ c.in-None.ensures.steps.0)) ∙ append-nil done in
    c.loop-column.invariant.stacks_are ∙ ap (front_stacked given) (sym all) ∙ front_stacked-all given c.args.columns.items c.requires
