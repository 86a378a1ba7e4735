use Rattle.std.proofs.Common.{◌≡◌, List, [], ◌∷◌, ◌++◌, refl, sym, ◌∙◌, ap, subst}
use Rattle.std.proofs.lemmas.List.{append-nil}
use Rattle.std.specs.Vec.Iter.{into_iter_items}
use Rattle.pl_cells.proofs.CastWorkerLaws.{taken_front}
use Rattle.pl_csv_c.specs.Growing.{AreGrown}
use Rattle.pl_csv_c.specs.Views.{AreKept}
use Rattle.pl_csv_c.specs.declared.kept.KeptColumn.{KeptColumn}
use Rattle.pl_csv_c.specs.declared.views.ColumnView.{ColumnView}
use Rattle.pl_csv_c.proofs.GrowingLaws.{last-of}
use Rattle.pl_frame.specs.Frame.{ColumnValue}
use Rattle.pl_rows.proofs.StackLaws.{no-more}
use Rattle.pl_csv_c.proofs.growing.keep_all.Goals as goal

kept-none : (columns : List ColumnValue) (kept : List KeptColumn) (views : List ColumnView) → kept ≡ [] → views ≡ [] → AreGrown columns [] → AreKept columns kept views
kept-none [] kept views no_kept no_views are = subst (λ l. AreKept [] l views) (sym no_kept) (subst (λ l. AreKept [] [] l) (sym no_views) tt)
kept-none (c ∷ cs) kept views no_kept no_views are = absurd are

pub loop-one-init : goal.loop-one-init
loop-one-init c = record {
  columns = λ columns are plain. kept-none columns _ _ c.new.ensures.items c.new-2.ensures.items are;
  height = refl;
}

pub loop-one-preserved : goal.loop-one-preserved
loop-one-preserved c = record {
  columns = λ columns are plain.
      let last = last-of columns c.loop-one.yielded c.in-Some.one are plain in
      subst (λ l. AreKept l c.keep_one.new.frame.columns.items c.keep_one.new.frame.views.items) (sym last.is)
      (c.in_ok-keep_one.ensures.kept last.front last.last (c.loop-one.invariant.columns last.front last.grown last.plain) last.last_grown last.last_plain);
  height = c.in_ok-keep_one.ensures.height ∙ c.loop-one.invariant.height;
}

pub returns : goal.returns
returns c = λ columns are plain.
    let done = c.loop-one.yielded in
    let all : c.args.all.items ≡ done =
    sym c.into_iter-one-iterator.ensures.into_iter_gives.0 ∙ taken_front c.into_iter-one-iterator.result done c.loop-one.one-iterator c.loop-one.yielded_by
    ∙ ap (λ l. done ++ l) (no-more (into_iter_items c.loop-one.one-iterator) (sym c.loop-one.one-iterator.rest.ok.0 ∙ c.in-None.ensures.steps.0)) ∙ append-nil done in
    record {
      columns_are = c.loop-one.invariant.columns columns (subst (AreGrown columns) all are) plain;
      height_is = c.loop-one.invariant.height ∙ c.height_of.ensures columns (subst (AreGrown columns) (sym c.deref.ensures.value) are);
    }
