use Rattle.std.proofs.Common.{refl, sym, ◌∙◌}
use Rattle.pl_csv.proofs.CountingLaws.{counted-plain}
use Rattle.pl_csv.proofs.counting.count_rows_of_bytes.Goals as goal

pub returns : goal.returns
returns c =
    (c.count_rows_from_slice.ensures.rows _).1 (c.requires, refl)
    ∙ sym (counted-plain c.args.has_header _ _ c.args.bytes.now (sym c.is_compressed.ensures ∙ c.if-is_compressed.false))
