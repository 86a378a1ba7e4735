use Rattle.std.proofs.Common.{◌≡◌, ◌<◌, ◌++◌, cond, List, [], length, sym, ◌∙◌, ap, subst, append_assoc}
use Rattle.pl_frame.specs.ByteOrderMark.{byte_order_mark}
use Rattle.pl_frame.specs.Frame.{names_of}
use Rattle.pl_text.specs.FrameText.{header_line}
use Rattle.pl_write.specs.Options.{cell_options}
use Rattle.pl_stream.proofs.HeadingLaws.{names-first, some-first}
use Rattle.pl_stream.proofs.heading.push_head.Goals as goal

pub push_header-requires : goal.push_header-requires
push_header-requires c = subst (λ l. 0 < length l) (sym (c.columns.ensures.columns ∙ c.in-Ok.ensures.frame)) (some-first c.args.read.now c.requires.some)

pub returns-in-Ok-push_header-clause-head : goal.returns-in-Ok-push_header-clause-head
returns-in-Ok-push_header-clause-head c =
    let write = c.args.write.now in
    let old = c.args.text.now.items in
    let mark = cond write.include_bom byte_order_mark [] in
    let names = ap names_of (c.columns.ensures.columns ∙ c.in-Ok.ensures.frame) ∙ names-first c.args.read.now in
    c.in-Ok-push_header.ensures ∙ ap (λ l. l ++ cond write.include_header (header_line (cell_options write.serialize_options) (names_of c.columns.result.now)) []) c.in-Ok-push_mark.ensures
    ∙ append_assoc old mark (cond write.include_header (header_line (cell_options write.serialize_options) (names_of c.columns.result.now)) [])
    ∙ ap (λ n. old ++ (mark ++ cond write.include_header (header_line (cell_options write.serialize_options) n) [])) names
