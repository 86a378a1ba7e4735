use Rattle.std.proofs.Common.{◌^◌, ◌∙◌, ap, sym, arith}
use Rattle.pl_cells.specs.Integers.{number_below}
use Rattle.pl_words.proofs.SchemaLaws.{count_of-is}
use Rattle.pl_seek.proofs.seek_words.count_of.Goals as goal

pub returns-in-None : goal.returns-in-None
returns-in-None c =
    sym c.in-None.is
    ∙ c.number_of.ensures
    ∙ ap (number_below (2 ^ 64)) c.as_bytes.ensures.value
    ∙ count_of-is c.args.text.now (omega arith)
