use Rattle.std.proofs.Common.{◌≡◌, ℕ, sym, subst, List}
use Rattle.std.specs.Prelude.{Result, IfOk}
use Rattle.std.proofs.lemmas.Result.{IfOk-weaker}
use Rattle.pl_frame.specs.Frame.{ColumnValue}
use Rattle.pl_frame.specs.declared.error.PolarsError.{PolarsError}
use Rattle.pl_read.specs.CsvReader.{OfInput}
use Rattle.pl_read.specs.RowTest.{IsTested, rows_wanted}
use Rattle.pl_read.proofs.TestLaws.{tested-of}
use Rattle.pl_read.proofs.csv_reader.CsvReader.finish_with.Goals as goal
use Rattle.pl_read.proofs.csv_reader.CsvReader.finish_with.Goals.{in-Ok, in-Err}

pub returns-clause-frame : goal.returns-clause-frame
returns-clause-frame g c =
    let wants = g.P.RowTest.wants c.args.predicate.now in
    let Wanted : List ColumnValue → Type 0 =
    λ frame. OfInput g.R.MmapBytesReader.lent g.R.Source.left c.args.self.now.source c.finish_open.new.self.source (λ (input : List ℕ). IsTested wants c.args.self.now.options input frame) in
    elim c.match-finish_open.branch [
      | in-Ok w ↦
          subst (λ (r : Result (List ColumnValue) PolarsError). IfOk r Wanted) (sym w.result-is)
          (IfOk-weaker w.rows_wanted-wanted.result (λ frame. frame ≡ rows_wanted wants w.in-Ok.frame) Wanted
          (λ frame is. tested-of g.R.MmapBytesReader.lent g.R.Source.left c.args.self.now.source c.finish_open.new.self.source wants c.args.self.now.options w.in-Ok.frame frame w.in-Ok.ensures.frame is) w.rows_wanted-wanted.ensures.rows)
      | in-Err w ↦ subst (λ (r : Result (List ColumnValue) PolarsError). IfOk r Wanted) (sym w.result-is) tt
    ]
