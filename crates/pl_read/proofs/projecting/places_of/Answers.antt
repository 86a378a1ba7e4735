use Rattle.std.proofs.Common.{◌≡◌, true, ◌++◌, ◌∷◌, [], sym, ◌∙◌, ap, inl}
use Rattle.std.specs.Prelude.{Some, is_none}
use Rattle.std.specs.Option.{option_map}
use Rattle.pl_frame.specs.declared.error.PolarsError.TheVariants as error
use Rattle.pl_frame.specs.Schema.{place_of, lacks}
use Rattle.pl_cells.proofs.PlaceLaws.{find_first, find_more}
use Rattle.pl_read.proofs.ProjectionLaws.{found-more}
use Rattle.pl_read.proofs.projecting.places_of.Goals as goal

pub returns-in-None-clause-refused : goal.returns-in-None-clause-refused
returns-in-None-clause-refused c =
    let schema = c.args.schema.now in
    let absent : lacks schema c.name-item.result ≡ true = ap (lacks schema) (sym c.as_str.ensures) ∙ ap is_none (sym c.index_of.ensures ∙ c.in-None.is) in
    inl (ap (option_map error.ColumnNotFound) (sym (find_first (lacks schema) c.args.names.now c.loop-name.name-index c.name-item.result c.loop-name-test.true c.loop-name.invariant.known (ap (lacks schema) (sym c.name-item.is) ∙ absent)))
    ∙ ap (λ name. Some (error.ColumnNotFound name)) (sym c.name-item.is ∙ sym c.in_ok-try_clone-in-None.ensures.equal))

pub loop-name-preserved : goal.loop-name-preserved
loop-name-preserved c =
    let schema = c.args.schema.now in
    let place : place_of c.name-item.result schema ≡ Some c.in-Some.place = ap (λ name. place_of name schema) (sym c.as_str.ensures) ∙ sym c.index_of.ensures ∙ c.in-Some.is in
    record {
      read = c.in_ok-push-in-Some.ensures.pushed
          ∙ ap (λ l. l ++ c.in-Some.place ∷ []) c.loop-name.invariant.read
          ∙ sym (found-more (λ name. place_of name schema) c.args.names.now c.loop-name.name-index c.name-item.result c.in-Some.place c.loop-name-test.true (ap (λ name. place_of name schema) (sym c.name-item.is) ∙ place));
      known = find_more (lacks schema) c.args.names.now c.loop-name.name-index c.name-item.result c.loop-name-test.true c.loop-name.invariant.known (ap (lacks schema) (sym c.name-item.is) ∙ ap is_none place);
    }
