use Rattle.std.proofs.lemmas.Str.{is_utf8-from_IsUtf8, IsUtf8-from_ascii}
use Rattle.pl_cells.proofs.AsciiLaws.{told}
use Rattle.pl_cells.proofs.text_types.seen_text.Goals as goal

pub known_text-requires : goal.known_text-requires
known_text-requires c = IsUtf8-from_ascii c.args.bytes.now (told c.is_seen_ascii.result c.args.bytes.now c.if-is_seen_ascii.true c.is_seen_ascii.ensures)

pub returns-then-is_seen_ascii-clause-utf8 : goal.returns-then-is_seen_ascii-clause-utf8
returns-then-is_seen_ascii-clause-utf8 c =
    is_utf8-from_IsUtf8 c.args.bytes.now (IsUtf8-from_ascii c.args.bytes.now (told c.is_seen_ascii.result c.args.bytes.now c.if-is_seen_ascii.true c.is_seen_ascii.ensures))
