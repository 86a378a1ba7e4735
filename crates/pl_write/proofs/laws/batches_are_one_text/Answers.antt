use Rattle.std.proofs.Common.{◌≡◌, ◌++◌, Bool, if◌then◌else◌, [], sym, ◌∙◌, ap}
use Rattle.std.proofs.lemmas.Result.{on_ok_weaker}
use Rattle.std.specs.List.{flat_map}
use Rattle.pl_frame.specs.Frame.{names_of}
use Rattle.pl_frame.specs.FrameParts.{empty_columns}
use Rattle.pl_frame.specs.Schema.{names_in}
use Rattle.pl_text.specs.FrameText.{head_text, text_of_frame}
use Rattle.pl_write.specs.Batches.{all_lines, head_to_come}
use Rattle.pl_write.specs.JoinedBatches.{batches_text, joined_batches}
use Rattle.pl_write.specs.Options.{frame_options}
use Rattle.pl_write.proofs.BatchLaws.{schema_of-empty}
use Rattle.pl_write.proofs.StackLaws.{level-empty, lines-batches, lines-empty, names-are, same-behind, schema-batches}
use Rattle.pl_write.proofs.laws.batches_are_one_text.Goals as goal

pub returns : goal.returns
returns g c received had_one had_batched =
    let one = c.args.one.now in
    let batched = c.args.batched.now in
    let o = frame_options batched.writer.options in
    let schema = batched.schema in
    let whole = c.args.whole.now in
    let batches = c.args.batches.now in
    let empty = empty_columns schema in
    let has = schema_of-empty schema in
    let lines : all_lines o whole ≡ flat_map (all_lines o) batches =
    ap (all_lines o) c.requires.whole
    ∙ lines-batches o schema empty batches has (level-empty schema) c.requires.batches c.are_frames.ensures
    ∙ ap (λ l. l ++ flat_map (all_lines o) batches) (lines-empty o schema) in
    let names : names_of whole ≡ names_in schema =
    ap names_of c.requires.whole ∙ names-are schema (joined_batches schema batches) (schema-batches schema empty batches has c.requires.batches) in
    let head : head_to_come batched ≡ head_text o (names_in schema) = ap (λ (b : Bool). if b then [] else head_text o (names_in schema)) c.requires.fresh in
    let text : text_of_frame (frame_options one.options) whole ≡ batches_text batched batches =
    ap (λ p. text_of_frame p whole) c.requires.options
    ∙ (λ j. head_text o (names j) ++ lines j)
    ∙ ap (λ l. l ++ flat_map (all_lines o) batches) (sym head) in
    on_ok_weaker c.finish.result
    (λ appended. same-behind (g.S.Sink.received one.sink) (g.S.Sink.received batched.writer.sink) (g.S.Sink.received c.finish.new.self.sink) (g.S.Sink.received c.write_batches.new.writer.writer.sink)
    received (text_of_frame (frame_options one.options) whole) (batches_text batched batches) had_one had_batched text appended c.in_ok-write_batches.ensures)
    c.finish.ensures.written
