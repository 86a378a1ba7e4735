use Rattle.std.proofs.Common.{◌∙◌, ap, sym}
use Rattle.pl_frame.specs.Schema.{place_of}
use Rattle.pl_frame.proofs.SchemaLaws.{with_type-at}
use Rattle.pl_frame.proofs.schema.Schema.with_column.Goals as goal

pub returns-in-Some-clause-set : goal.returns-in-Some-clause-set
returns-in-Some-clause-set c =
    let at = ap (λ n. place_of n c.args.self.now) (sym c.as_str.ensures) ∙ sym c.index_of.ensures ∙ c.in-Some.is in
    c.set_dtype_at_index.ensures.set ∙ with_type-at c.args.self.now c.args.name c.in-Some.place c.args.dtype at
