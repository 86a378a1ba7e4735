use Rattle.std.proofs.Common.{◌^◌, ◌∙◌, ap, sym, arith}
use Rattle.pl_cells.specs.Integers.{number_below}
use Rattle.pl_words.proofs.SchemaLaws.{small_number-is, small_number-fits}
use Rattle.pl_words.proofs.type_text.small_number.Goals as goal

pub returns-in-None : goal.returns-in-None
returns-in-None c =
    sym c.in-None.is
    ∙ c.number_of.ensures
    ∙ ap (number_below (2 ^ 64)) c.as_bytes.ensures.value
    ∙ small_number-is c.args.text.now (omega arith)

pub overflow_cast-result : goal.overflow_cast-result
overflow_cast-result c =
    let small = small_number-fits c.args.text.now c.in-Some.number (omega arith)
    (sym (ap (number_below (2 ^ 64)) c.as_bytes.ensures.value) ∙ sym c.number_of.ensures ∙ c.in-Some.is) in
    omega (arith, small)
