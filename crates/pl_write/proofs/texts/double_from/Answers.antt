use Rattle.std.proofs.Common.{drop, sym, ap, ◌++◌, ◌∙◌, take}
use Rattle.std.proofs.lemmas.List.{take_rest, take-append-drop}
use Rattle.pl_write.proofs.DoubledLaws.{doubled-none}
use Rattle.pl_write.proofs.texts.double_from.Goals as goal

pub returns-in-None-clause-text : goal.returns-in-None-clause-text
returns-in-None-clause-text c =
    let b = c.args.block.now.items in
    let start = c.args.start in
    let none = rw (take_rest, c.deref.ensures.value) at c.in-None.ensures in
    sym (ap (λ l. take start b ++ l) (doubled-none c.args.quote (drop start b) none) ∙ take-append-drop start b)
