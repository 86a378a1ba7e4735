use Rattle.std.proofs.Common.{◌≡◌, Some, length, sym, ◌∙◌, ap, position}
use Rattle.std.specs.Prelude.{string_bytes}
use Rattle.std.specs.Str.{bytes_eq}
use Rattle.std.proofs.lemmas.List.{length-map}
use Rattle.pl_frame.specs.Categories.{dictionary_of}
use Rattle.pl_frame.proofs.CategoryLaws.{key_place}
use Rattle.pl_frame.proofs.TranslatedLaws.{place-after, place-of_new}
use Rattle.pl_frame.proofs.codes.CodesBuilder.push_coded.Goals as goal

pub push_known-requires : goal.push_known-requires
push_known-requires c =
    ap (λ values. position (bytes_eq c.args.text.now) (dictionary_of values)) (sym c.self.view_is)
    ∙ sym (key_place string_bytes _ _ c.self.invariant c.args.text.now) ∙ sym c.get_index_of.ensures.index ∙ c.in-Some.is

pub push_new-requires : goal.push_new-requires
push_new-requires c =
    ap (λ values. position (bytes_eq c.args.text.now) (dictionary_of values)) (sym c.self.view_is)
    ∙ sym (key_place string_bytes _ _ c.self.invariant c.args.text.now) ∙ sym c.get_index_of.ensures.index ∙ c.in-None.is

pub returns-in_ok-push_known-in-Some-clause-code : goal.returns-in_ok-push_known-in-Some-clause-code
returns-in_ok-push_known-in-Some-clause-code c =
    ap (λ values. position (bytes_eq c.args.text.now) (dictionary_of values)) c.in_ok-push_known-in-Some.ensures.ok
    ∙ place-after c.args.self.now (Some c.args.text.now) c.args.text.now c.in-Some.code
    (ap (λ values. position (bytes_eq c.args.text.now) (dictionary_of values)) (sym c.self.view_is)
    ∙ sym (key_place string_bytes _ _ c.self.invariant c.args.text.now) ∙ sym c.get_index_of.ensures.index ∙ c.in-Some.is)

pub returns-in_ok-push_new-in-None-clause-code : goal.returns-in_ok-push_new-in-None-clause-code
returns-in_ok-push_new-in-None-clause-code c =
    let size : length (dictionary_of c.self.inside.kept) ≡ length c.self.inside.places.keys = ap length (sym c.self.invariant) ∙ length-map c.self.inside.places.keys string_bytes in
    let code : length (dictionary_of c.args.self.now) ≡ c.len-code.result = ap (λ values. length (dictionary_of values)) (sym c.self.view_is) ∙ size ∙ sym c.len-code.ensures.len in
    ap (λ values. position (bytes_eq c.args.text.now) (dictionary_of values)) c.in_ok-push_new-in-None.ensures.ok
    ∙ place-of_new c.args.self.now c.args.text.now
    (ap (λ values. position (bytes_eq c.args.text.now) (dictionary_of values)) (sym c.self.view_is)
    ∙ sym (key_place string_bytes _ _ c.self.invariant c.args.text.now) ∙ sym c.get_index_of.ensures.index ∙ c.in-None.is)
    ∙ ap Some code
