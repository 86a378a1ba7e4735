-- What a read under a given schema goes by.
use Rattle.std.proofs.Common.{◌≡◌, List, [], ◌∷◌, sym, ◌∙◌, ap, subst}
use Rattle.std.specs.Prelude.{Option, None, Some, Result, Ok, Err, IfErr, unwrap_or}
use Rattle.pl_frame.specs.declared.error.PolarsError.{PolarsError}
use Rattle.pl_frame.specs.Schema.{Entry}
use Rattle.pl_options.specs.FirstCause.{first_some, IsFault}
use Rattle.pl_options.specs.declared.read_options.CsvReadOptions.{CsvReadOptions}
use Rattle.pl_infer.specs.Schemas.{unreadable}
use Rattle.pl_read.specs.Options.{settled}
use Rattle.pl_read.specs.Refusals.{overrides}
use Rattle.pl_read.specs.SettleGiven.{given_schema, column_causes, settled_causes}
use Rattle.pl_read.specs.Steps.{types_cause}
use Rattle.pl_read.proofs.CauseLaws.{first_some-late}

-- a fault of what is read of the settled schema, against which there is none
pub columns-refused : {T : Type 0} (o : CsvReadOptions) (given schema : List Entry) (result : Result T PolarsError) → o.schema ≡ Some given → schema ≡ settled o given → types_cause o given ≡ None
    → IfErr result (IsFault (first_some (column_causes o schema))) → IfErr result (IsFault (first_some (settled_causes o (given_schema o))))
columns-refused o given schema (Ok done) some is none refused = tt
columns-refused o given schema (Err fault) some is none refused =
    let own : settled o given ≡ given_schema o = ap (λ (s : Option (List Entry)). settled o (unwrap_or s [])) (sym some) in
    let front : List (Option PolarsError) = overrides o (given_schema o) ∷ unreadable (given_schema o) ∷ [] in
    let sound : first_some front ≡ None = subst (λ (s : List Entry). first_some (overrides o s ∷ unreadable s ∷ []) ≡ None) own none in
    subst (λ (cause : Option PolarsError). IsFault cause fault)
    (ap (λ (s : List Entry). first_some (column_causes o s)) (is ∙ own) ∙ sym (first_some-late front (column_causes o (given_schema o)) sound)) refused
