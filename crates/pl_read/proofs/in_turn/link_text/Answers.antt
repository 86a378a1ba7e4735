use Rattle.std.proofs.Common.{◌++◌, ◌∷◌, [], ap, ◌∙◌}
use Rattle.pl_read.proofs.ArrivingLaws.{AreReadAt-one}
use Rattle.pl_read.proofs.in_turn.link_text.Goals as goal

pub link_on-requires-clause-read : goal.link_on-requires-clause-read
link_on-requires-clause-read c =
    AreReadAt-one c.args.plan.now c.args.schema.now c.args.text.now c.in_ok-read.read _ (c.in_ok-push.ensures.items ∙ ap (λ l. l ++ c.in_ok-read.read ∷ []) c.new-reads.ensures.items) c.in_ok-read.ensures.found
