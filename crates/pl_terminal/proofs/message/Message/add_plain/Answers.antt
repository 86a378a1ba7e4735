use Rattle.std.proofs.lemmas.Str.{IsUtf8-string_bytes}
use Rattle.pl_terminal.proofs.ShownLaws.{harmless_pushed}
use Rattle.pl_terminal.proofs.message.Message.add_plain.Goals as goal

pub invariant_of-self : goal.invariant_of-self
invariant_of-self c =
    harmless_pushed _ _ _ c.args.c (IsUtf8-string_bytes c.self.inside.text) c.ranges.c.0 c.self.invariant c.requires c.push.ensures.bytes
