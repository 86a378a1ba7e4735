use Rattle.std.proofs.Common.{slice_get, sym, ◌∙◌, ap, arith}
use Rattle.pl_frame.specs.Frame.{height_of, names_of}
use Rattle.pl_frame.proofs.FrameLaws.{fits_within, fits_names, fits_height, fits_frame}
use Rattle.pl_frame.proofs.frame.DataFrame.set_column.Goals as goal

pub index_mut-requires : goal.index_mut-requires
index_mut-requires c =
    let within = fits_within c.args.column c.self.inside.columns.items c.args.place (ap (λ f. slice_get (names_of f) c.args.place) c.self.view_is ∙ c.requires.name) in
    omega (arith, within)

pub invariant_of-self : goal.invariant_of-self
invariant_of-self c =
    fits_frame c.args.column c.self.inside.columns.items c.args.place (ap (λ f. slice_get (names_of f) c.args.place) c.self.view_is ∙ c.requires.name)
    (c.requires.height ∙ sym (ap height_of c.self.view_is)) c.self.invariant

pub returns-clause-names : goal.returns-clause-names
returns-clause-names c =
    fits_names c.args.column c.self.inside.columns.items c.args.place (ap (λ f. slice_get (names_of f) c.args.place) c.self.view_is ∙ c.requires.name) c.self.invariant.one_height
    (c.requires.height ∙ sym (ap height_of c.self.view_is)) ∙ ap names_of c.self.view_is

pub returns-clause-rows : goal.returns-clause-rows
returns-clause-rows c =
    fits_height c.args.column c.self.inside.columns.items c.args.place (ap (λ f. slice_get (names_of f) c.args.place) c.self.view_is ∙ c.requires.name) c.self.invariant.one_height
    (c.requires.height ∙ sym (ap height_of c.self.view_is)) ∙ ap height_of c.self.view_is
