use Rattle.std.proofs.Common.{rules, ◌≡◌, ◌∙◌, ◌<◌, ℕ, List, [], find, length, refl, sym, subst, arith, ◌∷◌}
use Rattle.std.specs.Prelude.{slice_index, None}
use Rattle.std.proofs.lemmas.Bool.Decides.{nat_tests}
use Rattle.pl_cells.specs.InitBuffers.{entry_at}
use Rattle.pl_frame.specs.Schema.{Entry}
use Rattle.pl_infer.specs.Schemas.{is_categorical}
use Rattle.pl_read.specs.Projection.{projected}
use Rattle.pl_read.specs.SettleGiven.{given_schema}
use Rattle.pl_read.proofs.ProjectionLaws.{projected-below}
use Rattle.pl_stream.specs.Options.{first_categorical}
use Rattle.pl_stream.proofs.checking.settle_stream.Goals as goal

empty : (xs : List ℕ) → length xs ≡ 0 → xs ≡ []
empty [] e = refl
empty (x ∷ xs) e = cc

pub find_categories-requires : goal.find_categories-requires
find_categories-requires c =
    let o = c.args.read.now in
    let places = c.deref.result.now in
    subst (λ (s : List Entry). (k : ℕ) → k < length places → slice_index places k < length s) (sym c.in-Ok.ensures.settled.schema_is)
    (projected-below o (given_schema o) places (c.deref.ensures.value ∙ c.in-Ok.ensures.settled.places_are))

pub returns-then-is_empty-clause-refused : goal.returns-then-is_empty-clause-refused
returns-then-is_empty-clause-refused c =
    let o = c.args.read.now in
    let places : c.deref.result.now ≡ projected o (given_schema o) = c.deref.ensures.value ∙ c.in-Ok.ensures.settled.places_are in
    let uncoded : first_categorical o ≡ None = (λ i. find (λ place. is_categorical (entry_at (sym c.in-Ok.ensures.settled.schema_is i) place).1) (sym places i)) ∙ sym c.find_categories.ensures ∙ search rules in
    let zero : length c.deref.result.now ≡ 0 = grind (arith, nat_tests, c.deref.ensures.len, c.is_empty.ensures, c.if-is_empty.true) in
    ((search rules, c.in-Ok.ensures.sound), uncoded, sym places ∙ empty c.deref.result.now zero)
