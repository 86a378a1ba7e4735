use Rattle.std.proofs.lemmas.Str.{is_utf8-from_IsUtf8}
use Rattle.pl_cells.proofs.text_types.valid_text.Goals as goal

pub returns-in-Ok-clause-utf8 : goal.returns-in-Ok-clause-utf8
returns-in-Ok-clause-utf8 c = is_utf8-from_IsUtf8 c.args.bytes.now c.in-Ok.ensures.1
