use Rattle.std.proofs.Common.{◌≡◌, ◌<◌, ◌∙◌, sym, ap, arith, length, take, below_more, inl, suc, ◌+◌, ◌∷◌, ◌++◌}
use Rattle.std.proofs.Math.Seq.{take-suc}
use Rattle.std.specs.Prelude.{Some, slice_index_or, []}
use Rattle.std.specs.Option.{option_map}
use Rattle.std.proofs.lemmas.List.{length-map}
use Rattle.pl_frame.specs.Names.{first_repeat}
use Rattle.pl_frame.specs.Schema.{Entry, names_in, place_of}
use Rattle.pl_frame.specs.declared.error.PolarsError.TheVariants as error
use Rattle.pl_frame.specs.declared.error.NamePlace.TheVariants as name_place
use Rattle.pl_frame.proofs.NameLaws.{first_repeat-found, first_repeat-nowhere}
use Rattle.pl_infer.proofs.InferenceLaws.{name-there, repeat-found}
use Rattle.pl_infer.proofs.columns.schema_of.Goals as goal

pub returns-clause-distinct : goal.returns-clause-distinct
returns-clause-distinct c =
    let columns = c.args.columns.now in
    let all : length (names_in columns) ≡ length columns = length-map columns (λ (entry : Entry). entry.0) in
    ap (λ found. option_map (λ name. error.Duplicate name name_place.Schema) (option_map (λ place. slice_index_or (names_in columns) place []) found))
    (first_repeat-nowhere (names_in columns) (λ k h. c.loop-place.invariant.1 k (omega arith)))

pub loop-place-preserved : goal.loop-place-preserved
loop-place-preserved c =
    let columns = c.args.columns.now in
    let place = c.loop-place.place in
    let column = c.index-columns-place.result in
    let name : c.as_str.result.now ≡ column.0 = c.as_str.ensures ∙ ap (λ (entry : Entry). entry.0) c.column.view_is in
    let found : c.index_of.result ≡ place_of column.0 (take place columns) =
    c.index_of.ensures ∙ ap (λ n. place_of n c.loop-place.schema) name ∙ ap (place_of column.0) c.loop-place.invariant.0 in
    let more : suc place ≡ place + 1 = omega arith in
    let taken = take-suc columns place column (omega arith) in (
      c.in_ok-add_column.ensures.added ∙ ap (λ made. made ++ column ∷ []) c.loop-place.invariant.0 ∙ ap (λ entry. take place columns ++ entry ∷ []) c.index-columns-place.is
          ∙ sym taken ∙ ap (λ n. take n columns) more,
      below_more _ _ c.loop-place.invariant.1 (repeat-found columns place column c.index_of.result (omega arith) c.index-columns-place.is found ∙ sym c.is_some.ensures ∙ c.if-is_some.false),
    )

pub returns-then-is_some-clause-refused : goal.returns-then-is_some-clause-refused
returns-then-is_some-clause-refused c =
    let columns = c.args.columns.now in
    let place = c.loop-place.place in
    let column = c.index-columns-place.result in
    let name : c.as_str.result.now ≡ column.0 = c.as_str.ensures ∙ ap (λ (entry : Entry). entry.0) c.column.view_is in
    let found : c.index_of.result ≡ place_of column.0 (take place columns) =
    c.index_of.ensures ∙ ap (λ n. place_of n c.loop-place.schema) name ∙ ap (place_of column.0) c.loop-place.invariant.0 in
    let within : place < length (names_in columns) = let all = length-map columns (λ (entry : Entry). entry.0) in omega arith in
    let first : first_repeat (names_in columns) ≡ Some place =
    first_repeat-found (names_in columns) place within c.loop-place.invariant.1 (repeat-found columns place column c.index_of.result (omega arith) c.index-columns-place.is found ∙ sym c.is_some.ensures ∙ c.if-is_some.true) in
    inl (ap (λ found. option_map (λ name. error.Duplicate name name_place.Schema) (option_map (λ place. slice_index_or (names_in columns) place []) found)) first
    ∙ ap (λ n. Some (error.Duplicate n name_place.Schema))
    (name-there columns place column (omega arith) c.index-columns-place.is ∙ sym (ap (λ (entry : Entry). entry.0) c.column.view_is) ∙ sym c.in_ok-try_clone.ensures.equal))
