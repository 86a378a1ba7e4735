use Rattle.std.proofs.Common.{◌∙◌, ap, Some}
use Rattle.pl_frame.proofs.CutLaws.{distinct-text, distinct-null}
use Rattle.pl_frame.proofs.codes.Codes.distinct_with.Goals as goal

pub returns-in-Some : goal.returns-in-Some
returns-in-Some c =
    rw (← c.self.view_is)
    ((distinct-text c.self.inside.dictionary.items c.self.inside.codes c.self.invariant c.args.i c.in-Some.code c.args.before (c.get.ensures ∙ ap Some c.in-Some.is) (rw (← c.self.view_is) at c.requires.before)).1 c.if-code-before.true)

pub returns-in_default : goal.returns-in_default
returns-in_default c =
    rw (← c.self.view_is)
    ((distinct-text c.self.inside.dictionary.items c.self.inside.codes c.self.invariant c.args.i c.in-Some.code c.args.before (c.get.ensures ∙ ap Some c.in-Some.is) (rw (← c.self.view_is) at c.requires.before)).0 c.if-code-before.false)

pub returns-in_default-2 : goal.returns-in_default-2
returns-in_default-2 c =
    rw (← c.self.view_is)
    (distinct-null c.self.inside.dictionary.items c.self.inside.codes c.self.invariant c.args.i c.args.before (c.get.ensures ∙ ap Some c.in_default.is) (rw (← c.self.view_is) at c.requires.before))
