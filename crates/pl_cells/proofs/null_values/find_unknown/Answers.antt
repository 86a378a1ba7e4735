use Rattle.std.proofs.Common.{ℕ, List, not, sym, ◌∙◌, ap}
use Rattle.std.specs.Prelude.{Some}
use Rattle.std.specs.Option.{option_map}
use Rattle.pl_cells.specs.NullValues.{is_unknown}
use Rattle.pl_cells.proofs.PlaceLaws.{find_first, find_more}
use Rattle.pl_cells.proofs.null_values.find_unknown.Goals as goal

pub returns-then-not-has_name : goal.returns-then-not-has_name
returns-then-not-has_name c =
    ap (λ (entry : List ℕ × List ℕ). Some entry.0) c.loop-name-item.is
    ∙ ap (option_map (λ (entry : List ℕ × List ℕ). entry.0))
    (find_first (is_unknown c.args.schema.now) c.args.entries.now c.loop-name.name-index c.loop-name-item.result c.loop-name-test.true c.loop-name.invariant
    (ap (is_unknown c.args.schema.now) (sym c.loop-name-item.is) ∙ ap not (sym c.has_name.ensures) ∙ ap not c.if-not-has_name.true))

pub loop-name-preserved : goal.loop-name-preserved
loop-name-preserved c =
    find_more (is_unknown c.args.schema.now) c.args.entries.now c.loop-name.name-index c.loop-name-item.result c.loop-name-test.true c.loop-name.invariant
    (ap (is_unknown c.args.schema.now) (sym c.loop-name-item.is) ∙ ap not (sym c.has_name.ensures) ∙ ap not c.if-not-has_name.false)
