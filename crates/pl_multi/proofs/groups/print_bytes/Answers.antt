use Rattle.std.proofs.Common.{◌≡◌, ◌++◌, ◌-◌, ℕ, List, Some, length, take, drop, slice_range, sym, ◌∙◌, subst, arith}
use Rattle.std.proofs.lemmas.List.{take_all, length-drop}
use Rattle.pl_csv.specs.Transcoding.{IsConverted}
use Rattle.pl_csv.specs.Views.{sink_view}
use Rattle.pl_multi.specs.Lines.{line_text}
use Rattle.pl_multi.specs.Printing.{AreLinesOf}
use Rattle.pl_multi.proofs.PrintedLaws.{lines-behind, lines-refused, not-risen}
use Rattle.pl_multi.proofs.groups.print_bytes.Goals as goal

pub returns-in-Ok-found-clause-lines : goal.returns-in-Ok-found-clause-lines
returns-in-Ok-found-clause-lines g c =
    let read = c.args.read.now in
    let write = c.args.write.now in
    let bytes = c.args.bytes.now in
    let from = c.guess_lines-from.result in
    let text = slice_range bytes from (length bytes) in
    let whole : text ≡ drop from bytes = take_all (length bytes - from) (drop from bytes) (omega (arith, length-drop from bytes)) in
    let now = line_text c.convert.new.sink in
    let found = c.in-Ok-found.found in
    let behind = lines-behind read write bytes c.requires.given c.requires.allowed c.requires.head text now
    (subst (λ (t : List ℕ). IsConverted read write bytes (Some t) (Some now)) c.new-sink.ensures c.in-Ok.ensures.converted) in
    let lines = c.in-Ok-found.ensures.lines behind.0 behind.1 in
    let at = c.in-Ok-found.ensures.from in
    subst (AreLinesOf read write bytes) (sym ((λ i. take found.len (drop (at i) bytes) ++ found.copied.items) ∙ (λ i. take found.len (sym whole i) ++ found.copied.items) ∙ lines)) behind.2

pub returns-in-Err-clause-refused : goal.returns-in-Err-clause-refused
returns-in-Err-clause-refused g c =
    let old = c.new-sink.result in
    let now = c.convert.new.sink in
    lines-refused c.args.read.now c.args.write.now c.args.bytes.now c.requires.given c.requires.allowed c.requires.head
    (sink_view (Some (line_text old)) 0 old.wants) (sink_view (Some (line_text now)) 0 now.wants) c.in-Err.fault not-risen c.in-Err.ensures.refused
