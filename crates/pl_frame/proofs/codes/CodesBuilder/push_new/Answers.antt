use Rattle.std.proofs.Common.{◌≡◌, None, sym, ◌∙◌, ap, position}
use Rattle.std.specs.Prelude.{string_bytes}
use Rattle.std.specs.Str.{bytes_eq}
use Rattle.pl_frame.specs.Categories.{dictionary_of}
use Rattle.pl_frame.proofs.CategoryLaws.{keys-popped, keys-more, dictionary-new_text, after_ok, after_err}
use Rattle.pl_frame.proofs.codes.CodesBuilder.push_new.Goals as goal

pub invariant_of-self-then-is_err : goal.invariant_of-self-then-is_err
invariant_of-self-then-is_err c =
    let none : position (bytes_eq c.args.text.now) (dictionary_of c.self.inside.kept) ≡ None = ap (λ values. position (bytes_eq c.args.text.now) (dictionary_of values)) c.self.view_is ∙ c.requires in
    keys-popped string_bytes _ _ c.self.invariant c.in-Ok.key _ _ c.pop.result c.args.text.now c.in-Ok.ensures.ok none c.in-Ok-insert.ensures.keys c.pop.ensures.keys c.pop.ensures.found.1
    ∙ ap dictionary_of (sym (after_err c.push_new-pushed.result c.push_new-pushed.ensures.err (sym c.is_err.ensures.value ∙ c.if-is_err.true)))

pub invariant_of-self-else-is_err : goal.invariant_of-self-else-is_err
invariant_of-self-else-is_err c =
    let none : position (bytes_eq c.args.text.now) (dictionary_of c.self.inside.kept) ≡ None = ap (λ values. position (bytes_eq c.args.text.now) (dictionary_of values)) c.self.view_is ∙ c.requires in
    keys-more string_bytes _ _ c.self.invariant c.in-Ok.key _ c.args.text.now c.in-Ok.ensures.ok none c.in-Ok-insert.ensures.keys
    ∙ sym (dictionary-new_text c.self.inside.kept c.args.text.now none)
    ∙ ap dictionary_of (sym (after_ok c.push_new-pushed.result c.push_new-pushed.ensures.ok (sym c.is_err.ensures.value ∙ c.if-is_err.false)))
