use Rattle.std.proofs.Common.{ℕ, Bool, length, ◌∙◌, ap}
use Rattle.std.proofs.lemmas.List.FromFn.{length-map-range_with_len}
use Rattle.pl_frame.specs.Frame.{height_of}
use Rattle.pl_read.specs.RowTest.{row_of}
use Rattle.pl_read.proofs.row_test.rows_wanted.Goals as goal

pub filter_rows-requires : goal.filter_rows-requires
filter_rows-requires g c =
    let wants : ℕ → Bool = λ row. g.P.RowTest.wants c.args.predicate.now (row_of c.args.df.now row) in
    record { height = ap length (c.deref.ensures.value ∙ c.in-Ok.ensures) ∙ length-map-range_with_len wants 0 (height_of c.args.df.now) }
