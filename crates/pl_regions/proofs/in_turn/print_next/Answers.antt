use Rattle.std.proofs.Common.{List, ℕ, ◌++◌, sym, ◌∙◌, ap, not, subst}
use Rattle.pl_write.specs.Options.{cell_options}
use Rattle.pl_regions.specs.Arriving.{IsFrontKept, IsPrintedUpTo}
use Rattle.pl_regions.proofs.ArrivingLaws.{HasPrinted-more}
use Rattle.pl_regions.proofs.RegionLaws.{ok-holds}
use Rattle.pl_regions.proofs.in_turn.print_next.Goals as goal

pub returns-clause-printed : goal.returns-clause-printed
returns-clause-printed g c = λ before first has.
    let plan = c.args.plan.now in
    let schema = c.args.schema.now in
    let o = cell_options c.args.options.now in
    let text = c.in_ok-text.text.items in
    let front = c.in-Ok.front in
    let left = c.in-Ok-keep_front.left.items in
    let kept = c.keep_front.new.kept in
    let own : IsFrontKept plan schema o c.deref-2.result.now front = subst (λ (t : List ℕ). IsFrontKept plan schema o t front) (c.deref.ensures.value ∙ sym c.deref-2.ensures.value) c.in-Ok.ensures in
    let up : IsPrintedUpTo plan schema o (has.text ++ text) left kept = subst (λ (t : List ℕ). IsPrintedUpTo plan schema o (has.text ++ t) left kept) c.deref-2.ensures.value
    (c.in-Ok-keep_front.ensures.printed plan schema o has.text c.requires.can.dialect has.is own) in
    HasPrinted-more plan schema o before (g.So.Source.left c.args.source.now) (g.So.Source.left c.next_text.new.source) c.args.limit first c.args.intake.now c.next_text.new.self c.put_back.new.self c.args.kept.now kept text left has
    c.in_ok-text.ensures.given up (ok-holds c.put_back.result _ (c.is_err.ensures.negation ∙ ap not c.if-is_err.false) c.put_back.ensures.rest) c.put_back.ensures.size c.put_back.ensures.ended
