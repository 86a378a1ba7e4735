-- When lists that options hold are equal (docs/types.md, "Equality").
use Rattle.std.specs.Prelude.{Bool}
use Rattle.std.specs.Cmp.{IsEquivalence}
use Rattle.pl_frame.specs.contracts.schema.FieldPartialEq.TheImpl as fields
use Rattle.pl_frame.specs.contracts.schema.FieldEq.TheImpl.Laws as laws
use Rattle.pl_frame.specs.declared.schema.Field.{Field}

-- the same name and the same type: what `==` of fields answers
abbrev pub fields_equal : Field → Field → Bool
fields_equal = fields.ghosts.eq

-- which is an equivalence, as the trait asks
pub fields_equiv : IsEquivalence fields_equal
fields_equiv = laws.laws-law
