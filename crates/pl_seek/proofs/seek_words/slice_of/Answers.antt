use Rattle.std.proofs.Common.{string_bytes}
use Rattle.pl_seek.proofs.SeekRunLaws.{few-slice}
use Rattle.pl_seek.proofs.seek_words.slice_of.Goals as goal

pub returns-in_default-clause-refused : goal.returns-in_default-clause-refused
returns-in_default-clause-refused c = λ _. few-slice string_bytes c.args.words.now c.in_default.len_below
