use Rattle.std.proofs.Common.{◌≡◌, ◌++◌, take, sym, ◌∙◌, ap, subst}
use Rattle.std.specs.Prelude.{OnOk}
use Rattle.std.specs.Io.KnownBytes.{Appends}
use Rattle.pl_write.specs.Batches.{batch_text, all_lines}
use Rattle.pl_write.specs.Options.{cell_options, frame_options}
use Rattle.pl_write.proofs.batched_writer.BatchedWriter.write_batch.Goals.{in-Ok, in-Err-Device, in-Err-OutOfMemory}
use Rattle.pl_write.proofs.batched_writer.BatchedWriter.write_batch.Goals as goal

pub returns-clause-written : goal.returns-clause-written
returns-clause-written g c =
    let before = c.args.self.now in
    let now = g.S.Sink.received c.write_rows_behind.new.sink in
    let raw = c.in_ok-head.head ++ all_lines (cell_options c.self.inside.options.serialize_options) c.columns.result.now in
    let same = ap (λ w. w.writer) c.self.view_is ∙ c.in_ok-head.ensures.writer in
    let text : raw ≡ batch_text before c.args.df.now = λ j. c.in_ok-head.ensures.head j ++ all_lines (frame_options (same j).options) (c.columns.ensures.columns j) in
    let Written = Appends (g.S.Sink.received before.writer.sink) now (batch_text before c.args.df.now) in
    elim c.match-write_rows_behind.branch [
      | in-Ok w ↦ subst (λ r. OnOk r Written) (sym w.result-is) (subst (λ l. Appends (g.S.Sink.received before.writer.sink) now l) text (subst (λ w. Appends (g.S.Sink.received w.sink) now raw) same w.in-Ok.ensures.text))
      | in-Err-Device w ↦ subst (λ r. OnOk r Written) (sym w.result-is) tt
      | in-Err-OutOfMemory w ↦ subst (λ r. OnOk r Written) (sym w.result-is) tt
    ]

pub returns-clause-prefix : goal.returns-clause-prefix
returns-clause-prefix g c =
    let before = c.args.self.now in
    let now = g.S.Sink.received c.write_rows_behind.new.sink in
    let raw = c.in_ok-head.head ++ all_lines (cell_options c.self.inside.options.serialize_options) c.columns.result.now in
    let same = ap (λ w. w.writer) c.self.view_is ∙ c.in_ok-head.ensures.writer in
    let text : raw ≡ batch_text before c.args.df.now = λ j. c.in_ok-head.ensures.head j ++ all_lines (frame_options (same j).options) (c.columns.ensures.columns j) in
    let n = c.write_rows_behind.ensures.prefix.0 in
    (n, subst (λ l. Appends (g.S.Sink.received before.writer.sink) now (take n l)) text (subst (λ w. Appends (g.S.Sink.received w.sink) now (take n raw)) same c.write_rows_behind.ensures.prefix.1))
