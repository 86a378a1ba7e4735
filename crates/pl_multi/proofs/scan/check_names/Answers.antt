use Rattle.std.proofs.Common.{◌≡◌, ◌∙◌, ◌<◌, ◌++◌, ℕ, List, map, length, sym, subst, None}
use Rattle.std.specs.Prelude.{slice_index}
use Rattle.pl_frame.specs.Names.{repeated_name}
use Rattle.pl_frame.specs.Schema.{Entry}
use Rattle.pl_cells.specs.InitBuffers.{entry_at}
use Rattle.pl_read.specs.SettleGiven.{given_schema}
use Rattle.pl_read.proofs.ProjectionLaws.{projected-below}
use Rattle.pl_multi.specs.Joining.{HasFreeName}
use Rattle.pl_multi.specs.Parts.{column_names, index_name, partition_names}
use Rattle.pl_multi.proofs.RowsLaws.{free-none, none-repeated}
use Rattle.pl_multi.proofs.scan.check_names.Goals as goal

pub column_names-requires : goal.column_names-requires
column_names-requires c =
    let o = c.args.read.now in
    let places = c.deref.result.now in
    subst (λ (s : List Entry). (k : ℕ) → k < length places → slice_index places k < length s) (sym c.requires.settled.schema_is)
    (projected-below o (given_schema o) places (c.deref.ensures.value ∙ c.requires.settled.places_are))

pub returns-clause-free : goal.returns-clause-free
returns-clause-free c =
    let o = c.args.read.now in
    let parts = c.args.parts.now in
    let places = c.deref.ensures.value ∙ c.requires.settled.places_are in
    let are : c.in_ok-names.names.items ≡ column_names o (given_schema o) parts =
    c.in_ok-names.ensures ∙ (λ i. index_name (c.as_ref-index.ensures.value i) ++ (map (λ (entry : Entry). entry.0) (map (entry_at (c.requires.settled.schema_is i)) (places i)) ++ partition_names parts)) in
    let none : repeated_name (column_names o (given_schema o) parts) ≡ None =
    none-repeated c.in_ok-names.names.items c.deref-2.result.now (column_names o (given_schema o) parts) (sym c.in_default.is ∙ c.find_repeat.ensures.first) c.deref-2.ensures.value are in
    subst (HasFreeName o.row_index) (sym c.in_ok-empty_rows.ensures) (free-none o parts none)
