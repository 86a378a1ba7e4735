use Rattle.std.proofs.Common.{◌++◌, map, refl, ◌∙◌, subst}
use Rattle.std.specs.Cow.{cow_slice_items}
use Rattle.std.specs.Io.KnownBytes.{Appends}
use Rattle.std.specs.List.{concat}
use Rattle.pl_frame.specs.Frame.{names_of}
use Rattle.pl_text.specs.FrameText.{head_text}
use Rattle.pl_write.specs.Batches.{all_lines}
use Rattle.pl_write.specs.Options.{frame_options}
use Rattle.pl_write.specs.Writing.{AppendsPrefix}
use Rattle.pl_write.proofs.PrintLaws.{AppendsPrefix-behind, AppendsPrefix-longer}
use Rattle.pl_write.proofs.printed.write_behind.Goals as goal

pub returns-in-Ok-write_all-clause-prefix : goal.returns-in-Ok-write_all-clause-prefix
returns-in-Ok-write_all-clause-prefix g c =
    let o = frame_options c.args.options.now in
    let columns = c.args.columns.now in
    let old = g.Si.Sink.received c.args.sink.now in
    let now = g.Si.Sink.received c.write_all.new.sink in
    let behind = concat (map cow_slice_items c.args.printed.now) ++ all_lines o columns in
    AppendsPrefix-behind old now (g.Si.Sink.received c.write_printed.new.sink) (head_text o (names_of columns)) behind
    (subst (λ l. Appends old now l) (c.as_slice.ensures ∙ c.in-Ok.ensures) c.in-Ok-write_all.ensures.ok) c.write_printed.ensures.prefix

pub returns-clause-prefix : goal.returns-clause-prefix
returns-clause-prefix g c =
    let o = frame_options c.args.options.now in
    let columns = c.args.columns.now in
    let old = g.Si.Sink.received c.args.sink.now in
    let now = g.Si.Sink.received c.write_all.new.sink in
    let head = head_text o (names_of columns) in
    let behind = concat (map cow_slice_items c.args.printed.now) ++ all_lines o columns in
    AppendsPrefix-longer old now head behind (head ++ behind) refl (subst (λ l. AppendsPrefix old now l) (c.as_slice.ensures ∙ c.in-Ok.ensures) c.write_all.ensures.prefix)
