use Rattle.std.proofs.Common.{sym, ◌∙◌, ap, position}
use Rattle.std.specs.Str.{bytes_eq}
use Rattle.pl_frame.specs.Categories.{dictionary_of}
use Rattle.pl_frame.proofs.CategoryLaws.{dictionary-after_known}
use Rattle.pl_frame.proofs.codes.CodesBuilder.push_known.Goals as goal

pub invariant_of-self : goal.invariant_of-self
invariant_of-self c =
    c.self.invariant
    ∙ sym (dictionary-after_known c.push_code.result c.self.inside.kept c.push_code.new.self c.args.text.now c.args.code c.push_code.ensures.ok c.push_code.ensures.err
    (ap (λ values. position (bytes_eq c.args.text.now) (dictionary_of values)) c.self.view_is ∙ c.requires))
