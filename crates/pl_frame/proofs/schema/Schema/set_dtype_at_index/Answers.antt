use Rattle.std.proofs.Common.{Some, refl, sym, ◌∙◌, ap}
use Rattle.std.proofs.lemmas.Option.{slice_get_read}
use Rattle.pl_frame.specs.Schema.{type_at, with_type_at}
use Rattle.pl_frame.proofs.SchemaLaws.{names_kept, type_at-shown, with_type_at-shown}
use Rattle.pl_frame.proofs.schema.Schema.set_dtype_at_index.Goals as goal

pub invariant_of-self-2 : goal.invariant_of-self-2
invariant_of-self-2 c =
    c.self.invariant
    ∙ sym (names_kept (λ field. field.name) (λ field. field.dtype) c.self.inside.fields.items c.args.i c.in_ok-field.field.now (slice_get_read c.self.inside.fields.items _ c.args.i c.in_ok-field.field.now refl c.in_ok-field.ensures.item.3.0 (c.in_ok-field.ensures.item.3.1 _)) _ refl)

pub returns-clause-old : goal.returns-clause-old
returns-clause-old c =
    ap Some c.replace.ensures.value
    ∙ sym (type_at-shown (λ field. field.name) (λ field. field.dtype) c.self.inside.fields.items c.args.i c.in_ok-field.field.now (slice_get_read c.self.inside.fields.items _ c.args.i c.in_ok-field.field.now refl c.in_ok-field.ensures.item.3.0 (c.in_ok-field.ensures.item.3.1 _)))
    ∙ ap (λ entries. type_at entries c.args.i) c.self.view_is

pub returns-clause-set : goal.returns-clause-set
returns-clause-set c =
    with_type_at-shown (λ field. field.name) (λ field. field.dtype) c.self.inside.fields.items c.args.i c.in_ok-field.field.now (slice_get_read c.self.inside.fields.items _ c.args.i c.in_ok-field.field.now refl c.in_ok-field.ensures.item.3.0 (c.in_ok-field.ensures.item.3.1 _)) _ c.args.dtype refl c.replace.ensures.after
    ∙ ap (λ entries. with_type_at entries c.args.i c.args.dtype) c.self.view_is
