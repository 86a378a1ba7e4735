use Rattle.std.proofs.Common.{◌≡◌, ℕ, ◌<◌, false, take, get_or, None, Some}
use Rattle.std.specs.Option.{option_map}
use Rattle.pl_frame.specs.declared.data_type.DataType.TheVariants as dtype
use Rattle.pl_frame.specs.Categories.{AreCodes, decoded}
use Rattle.pl_frame.specs.Columns.{misfits}
use Rattle.pl_frame.specs.Frame.{Letters}
use Rattle.pl_frame.proofs.constructors.collect_places.Given as goal

abbrev pub invariant-loop-row : goal.invariant-loop-row
invariant-loop-row l = record {
  kept : decoded l.categories l.places ≡ take l.row l.values;
  coded : AreCodes l.categories l.places;
  inside : (k : ℕ) → k < l.row → misfits (dtype.Enum (Some l.categories)) (option_map Letters (get_or l.values k None)) ≡ false;
}
