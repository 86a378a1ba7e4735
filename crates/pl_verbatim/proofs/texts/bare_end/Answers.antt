use Rattle.std.proofs.Common.{◌∙◌, ◌-◌, ◌+◌, ◌≤◌, length, take, drop, sym, ap, arith}
use Rattle.std.specs.List.{slice_range}
use Rattle.std.proofs.lemmas.List.{take_rest, length-drop}
use Rattle.pl_verbatim.proofs.TextLaws.{special_front-bare, bare-written}
use Rattle.pl_verbatim.proofs.texts.bare_end.Goals as goal

pub returns-then-validate_utf8-clause-bare : goal.returns-then-validate_utf8-clause-bare
returns-then-validate_utf8-clause-bare c =
    let text = c.args.text.now in
    let few : c.count_before_special-count.result ≤ length (take (length text - c.args.at) (drop c.args.at text)) = c.count_before_special-count.ensures.within in
    special_front-bare c.args.separator c.args.quote text c.args.at c.count_before_special-count.result
    (omega (arith, few, ap length (take_rest text c.args.at), length-drop c.args.at text)) c.count_before_special-count.ensures.value c.if-count-gt0.true
    (sym c.validate_utf8.ensures ∙ c.if-validate_utf8.true)

pub returns-then-validate_utf8-clause-written : goal.returns-then-validate_utf8-clause-written
returns-then-validate_utf8-clause-written c =
    bare-written c.args.separator c.args.quote (slice_range c.args.text.now c.args.at (c.args.at + c.count_before_special-count.result)) (returns-then-validate_utf8-clause-bare c)
