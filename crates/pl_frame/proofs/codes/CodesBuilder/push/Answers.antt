use Rattle.std.proofs.Common.{sym, ◌∙◌, ap, position}
use Rattle.std.specs.Prelude.{string_bytes}
use Rattle.std.specs.Str.{bytes_eq}
use Rattle.pl_frame.specs.Categories.{dictionary_of}
use Rattle.pl_frame.proofs.CategoryLaws.{key_place, dictionary-after_known}
use Rattle.pl_frame.proofs.codes.CodesBuilder.push.Goals as goal

pub push_code-requires : goal.push_code-requires
push_code-requires c =
    sym (key_place string_bytes _ _ c.self.invariant c.args.text.now) ∙ sym c.get_index_of.ensures.index ∙ c.in-Some.is

pub invariant_of-self : goal.invariant_of-self
invariant_of-self c =
    c.self.invariant
    ∙ sym (dictionary-after_known c.push_code.result _ _ c.args.text.now c.in-Some.code c.push_code.ensures.ok c.push_code.ensures.err
    (sym (key_place string_bytes _ _ c.self.invariant c.args.text.now) ∙ sym c.get_index_of.ensures.index ∙ c.in-Some.is))

pub push_new-requires : goal.push_new-requires
push_new-requires c =
    ap (λ values. position (bytes_eq c.args.text.now) (dictionary_of values)) (sym c.self.view_is)
    ∙ sym (key_place string_bytes _ _ c.self.invariant c.args.text.now) ∙ sym c.get_index_of.ensures.index ∙ c.in-None.is
