use Rattle.std.proofs.Common.{◌++◌, ◌-◌, length, take, drop, ◌∙◌, ap, arith, length-drop}
use Rattle.std.proofs.lemmas.List.{take_all}
use Rattle.pl_regions.proofs.ArrivingLaws.{IsPrintedUpTo-front}
use Rattle.pl_regions.proofs.kept.keep_front.Goals as goal

pub returns-clause-printed : goal.returns-clause-printed
returns-clause-printed c = λ plan schema o before apart all printed.
    IsPrintedUpTo-front plan schema o before c.args.text.now c.extend_from_slice-2.new.self.items c.args.kept.now c.args.front _ apart all printed
    (c.in_ok-extend_from_slice-2.ensures.items ∙ ap (λ l. l ++ take (length c.args.text.now - c.args.front.end) (drop c.args.front.end c.args.text.now)) c.new-left.ensures.items
    ∙ take_all (length c.args.text.now - c.args.front.end) (drop c.args.front.end c.args.text.now) (omega (arith, length-drop c.args.front.end c.args.text.now)))
    (omega (arith, c.in-Some-checked_add.ensures)) (omega (arith, c.in-Some.ensures)) c.in_ok-append.ensures.items
