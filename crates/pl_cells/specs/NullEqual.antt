-- When null values are equal (docs/types.md, "Null values").
use Rattle.std.specs.Prelude.{◌≡◌, Bool}
use Rattle.std.specs.Bool.{Decides}
use Rattle.pl_cells.specs.contracts.null_values.NullValuesPartialEq.TheImpl as values
use Rattle.pl_cells.specs.contracts.null_values.NullValuesCompiledPartialEq.TheImpl as compiled
use Rattle.pl_cells.specs.declared.null_values.NullValues.{NullValues}
use Rattle.pl_cells.specs.declared.null_values.NullValuesCompiled.{NullValuesCompiled}

-- what `==` of null values answers
abbrev pub values_equal : NullValues → NullValues → Bool
values_equal = values.ghosts.eq

-- it tells whether two of them are one
abbrev pub NullValuesAreTold : Type 0
NullValuesAreTold = (a b : NullValues) → Decides (values_equal a b) (a ≡ b)

-- what `==` of the null values of columns answers
abbrev pub compiled_equal : NullValuesCompiled → NullValuesCompiled → Bool
compiled_equal = compiled.ghosts.eq

-- it tells whether two of them are one
abbrev pub CompiledAreTold : Type 0
CompiledAreTold = (a b : NullValuesCompiled) → Decides (compiled_equal a b) (a ≡ b)
