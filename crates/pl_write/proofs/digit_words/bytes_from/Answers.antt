use Rattle.std.proofs.Common.{◌∙◌, ap, take, ◌-◌, ◌/◌}
use Rattle.std.specs.Int.{w64, to_le_bytes}
use Rattle.pl_write.proofs.WordLaws.{bytes-from, byte_power}
use Rattle.pl_write.proofs.digit_words.bytes_from.Goals as goal

pub returns : goal.returns
returns c =
    ap (take (8 - c.args.place)) (c.to_le_bytes.ensures ∙ ap (λ p. to_le_bytes w64 (c.args.word / p)) (byte_power c.args.place))
    ∙ bytes-from c.args.place c.args.word c.requires
