use Rattle.std.proofs.lemmas.Str.{is_utf8-from_IsUtf8, IsUtf8-from_ascii}
use Rattle.pl_cells.proofs.QuotingLaws.{is_utf8-not}
use Rattle.pl_cells.proofs.AsciiLaws.{told}
use Rattle.pl_cells.proofs.text_types.as_text.Goals as goal

pub known_text-requires : goal.known_text-requires
known_text-requires c = IsUtf8-from_ascii c.args.bytes.now (told c.is_seen_ascii.result c.args.bytes.now c.if-is_seen_ascii.true c.is_seen_ascii.ensures)

pub returns-then-is_seen_ascii : goal.returns-then-is_seen_ascii
returns-then-is_seen_ascii c =
    let ascii = told c.is_seen_ascii.result c.args.bytes.now c.if-is_seen_ascii.true c.is_seen_ascii.ensures in
    (is_utf8-from_IsUtf8 c.args.bytes.now (IsUtf8-from_ascii c.args.bytes.now ascii), c.known_text.ensures)

pub returns-in-Ok : goal.returns-in-Ok
returns-in-Ok c = (is_utf8-from_IsUtf8 c.args.bytes.now c.in-Ok.ensures.1, c.in-Ok.ensures.0)

pub returns-in-Err : goal.returns-in-Err
returns-in-Err c = is_utf8-not c.args.bytes.now c.in-Err.ensures
