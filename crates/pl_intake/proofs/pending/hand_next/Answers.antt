use Rattle.std.proofs.Common.{◌++◌, sym, ◌∙◌, ap, subst}
use Rattle.pl_intake.specs.Handed.{HasHanded}
use Rattle.pl_intake.proofs.HandedLaws.{HasHanded-back}
use Rattle.pl_intake.proofs.pending.hand_next.Goals as goal

pub returns-in-Ok-put_back-clause-handed : goal.returns-in-Ok-put_back-clause-handed
returns-in-Ok-put_back-clause-handed g c =
    let left = g.So.Source.left in
    subst (HasHanded (left c.args.source.now) (left c.next_text.new.source) c.args.limit c.args.intake.now c.put_back.new.self c.args.pending.now) (sym c.room-room.ensures)
    (HasHanded-back (left c.args.source.now) (left c.next_text.new.source) c.args.limit c.args.intake.now c.next_text.new.self c.put_back.new.self c.in_ok-text.text.items c.args.pending.now c.in_ok-text.ensures.given
    (c.in-Ok-put_back.ensures.rest ∙ ap (λ l. l ++ c.next_text.new.self.rest.items) c.in-Err.ensures.back) c.put_back.ensures.size c.put_back.ensures.ended)
