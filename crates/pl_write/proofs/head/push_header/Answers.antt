use Rattle.std.proofs.Common.{◌++◌, [], map, take, ◌∙◌, ap, arith}
use Rattle.std.specs.List.{join_with_byte}
use Rattle.std.proofs.lemmas.List.{take_all}
use Rattle.pl_text.specs.FrameText.{written_text, header_line}
use Rattle.pl_write.specs.Options.{cell_options}
use Rattle.pl_write.specs.Writing.{separator_before}
use Rattle.pl_write.proofs.BlockLaws.{two_parts}
use Rattle.pl_write.proofs.LineLaws.{joined_more}
use Rattle.pl_write.proofs.head.push_header.Goals as goal

pub loop-place-preserved : goal.loop-place-preserved
loop-place-preserved g c =
    let f = written_text (cell_options c.args.options.now) in
    let names = g.N.Names.names c.args.names.now in
    let i = c.loop-place.place in
    let now = c.loop-place.block.items in
    let next = c.in_ok-push_text.ensures.text ∙ ap (λ l. l ++ f c.as_bytes.result.now) c.in_ok-push_separator.ensures ∙ ap (λ name. (now ++ separator_before c.args.options.now.separator i) ++ f name) (c.as_bytes.ensures.value ∙ c.name_at.ensures) in
    joined_more c.args.options.now.separator f names i [] c.args.block.now.items now c.push_text.new.block.items (omega arith) c.loop-place.invariant next

pub returns : goal.returns
returns g c =
    let f = written_text (cell_options c.args.options.now) in
    let names = g.N.Names.names c.args.names.now in
    let old = c.args.block.now.items in
    let s = c.args.options.now.separator in
    let end = c.args.options.now.line_terminator in
    let all = ap (map f) (take_all c.loop-place.place names (omega arith)) in
    two_parts c.push_terminator.result old c.loop-place.block.items c.push_terminator.new.block.items (join_with_byte s (map f (take c.loop-place.place names))) end
    (header_line (cell_options c.args.options.now) names) c.loop-place.invariant (ap (λ l. join_with_byte s l ++ end) all) c.push_terminator.ensures
