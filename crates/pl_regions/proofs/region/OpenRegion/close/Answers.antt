use Rattle.std.proofs.Common.{ℕ, List, ◌++◌, map, refl, sym, ◌∙◌, ap, subst, Global}
use Rattle.std.specs.Cow.{cow_slice_items}
use Rattle.std.specs.List.{concat}
use Rattle.std.specs.declared.borrow.CowSlice.{CowSlice}
use Rattle.pl_write.specs.Options.{cell_options}
use Rattle.pl_verbatim.specs.PrintedTexts.{IsFrontPrinted}
use Rattle.pl_regions.proofs.RegionLaws.{unread, text-pushed}
use Rattle.pl_regions.proofs.region.OpenRegion.close.Goals as goal

pub returns-in-Ok-clause-printed : goal.returns-in-Ok-clause-printed
returns-in-Ok-clause-printed c =
    let region = c.args.self in
    let lines = text-pushed region.done.items c.push.new.self.items _ c.in-Ok.ensures.items ∙ ap (λ l. concat (map cow_slice_items region.done.items) ++ l) c.as_read-last.ensures in
    subst (IsFrontPrinted c.args.plan.now c.args.schema.now (cell_options c.args.options.now) region.text.now region.end region.rows) (sym lines) c.requires.printed

pub returns-clause-printed : goal.returns-clause-printed
returns-clause-printed c =
    unread c.args.plan.now c.args.schema.now (cell_options c.args.options.now) c.args.self.text.now 0 0 _ refl refl (ap (λ (l : List (CowSlice ℕ Global)). concat (map cow_slice_items l)) c.new.ensures.items)
