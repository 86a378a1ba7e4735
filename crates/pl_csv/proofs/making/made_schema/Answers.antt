use Rattle.pl_csv.proofs.MakingLaws.{schema_made}
use Rattle.pl_csv.proofs.making.made_schema.Goals as goal

pub returns-clause-made : goal.returns-clause-made
returns-clause-made c =
    schema_made _ _ _ _ _ _ _ _ _ c.new-schema.ensures c.in_ok-from_str.ensures.copied c.in_ok-with_column.ensures.set c.in_ok-from_str-2.ensures.copied c.in_ok-with_column-2.ensures.set
    c.in_ok-from_str-3.ensures.copied c.in_ok-with_column-3.ensures.set c.in_ok-from_str-4.ensures.copied c.in_ok-with_column-4.ensures.set
