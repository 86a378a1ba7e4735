use Rattle.std.proofs.Common.{◌≡◌, ◌++◌, ◌∷◌, [], not, reverse, sym, ◌∙◌, ap, arith}
use Rattle.std.specs.Prelude.{if◌then◌else◌}
use Rattle.std.specs.Option.{option_copied}
use Rattle.pl_frame.specs.Frame.{height_of}
use Rattle.pl_read.specs.Batches.{frame_behind, rows_behind}
use Rattle.pl_read.proofs.NextLaws.{frame-fits, frame-is}
use Rattle.pl_read.proofs.NextFrameLaws.{IsNext-part, IsNext-fault, AreFramed-more, popped}
use Rattle.pl_read.proofs.next_frames.Behind.frames.Goals as goal

pub with_index_behind-requires-clause-fits : goal.with_index_behind-requires-clause-fits
with_index_behind-requires-clause-fits c =
    let left = popped c.loop-part.parts.items c.pop.new.self.items c.in-Some.part c.in-Some.ensures.items in
    let next =
    IsNext-part c.args.self.now c.args.parts.items (reverse c.loop-part.parts.items) (reverse c.pop.new.self.items) c.loop-part.frames.items c.loop-part.before c.in-Some.part c.in-Some-into_read.read c.requires.can
    c.loop-part.invariant left (sym c.into_read.ensures ∙ c.in-Some-into_read.is) c.requires.sound in
    omega (arith, next.fits, c.requires.fits)

pub with_index_behind-requires-clause-frame : goal.with_index_behind-requires-clause-frame
with_index_behind-requires-clause-frame c =
    let b = c.args.self.now in
    let left = popped c.loop-part.parts.items c.pop.new.self.items c.in-Some.part c.in-Some.ensures.items in
    let next =
    IsNext-part b c.args.parts.items (reverse c.loop-part.parts.items) (reverse c.pop.new.self.items) c.loop-part.frames.items c.loop-part.before c.in-Some.part c.in-Some-into_read.read c.requires.can c.loop-part.invariant left
    (sym c.into_read.ensures ∙ c.in-Some-into_read.is) c.requires.sound in
    let can = c.requires.can c.in-Some.part.text.now in
    frame-fits b.options.now b.schema.now b.rows c.loop-part.before c.in-Some.part.text.now c.in-Some-into_read.read (option_copied c.as_ref-index.result) next.is_sound can.distinct can.free c.as_ref-index.ensures.value

pub returns-in-Err-clause-refused : goal.returns-in-Err-clause-refused
returns-in-Err-clause-refused c =
    let left = popped c.loop-part.parts.items c.pop.new.self.items c.in-Some.part c.in-Some.ensures.items in
    let next =
    IsNext-part c.args.self.now c.args.parts.items (reverse c.loop-part.parts.items) (reverse c.pop.new.self.items) c.loop-part.frames.items c.loop-part.before c.in-Some.part c.in-Some-into_read.read c.requires.can
    c.loop-part.invariant left (sym c.into_read.ensures ∙ c.in-Some-into_read.is) c.requires.sound in
    IsNext-fault c.args.self.now c.args.parts.items c.in-Some.part c.in-Some-into_read.read c.loop-part.before (option_copied c.as_ref-index.result) c.in-Err.fault next c.requires.numbered c.as_ref-index.ensures.value c.in-Err.ensures.refused

pub overflow_add-before : goal.overflow_add-before
overflow_add-before c =
    let left = popped c.loop-part.parts.items c.pop.new.self.items c.in-Some.part c.in-Some.ensures.items in
    let next =
    IsNext-part c.args.self.now c.args.parts.items (reverse c.loop-part.parts.items) (reverse c.pop.new.self.items) c.loop-part.frames.items c.loop-part.before c.in-Some.part c.in-Some-into_read.read c.requires.can
    c.loop-part.invariant left (sym c.into_read.ensures ∙ c.in-Some-into_read.is) c.requires.sound in
    let height : c.rows_of-count.result ≡ height_of c.in-Some-into_read.read.columns.items = c.rows_of-count.ensures ∙ ap height_of c.deref.ensures.value in
    record { fits = omega (arith, next.fits, c.requires.fits, height) }

pub loop-part-preserved : goal.loop-part-preserved
loop-part-preserved c =
    let b = c.args.self.now in
    let part = c.in-Some.part in
    let read = c.in-Some-into_read.read in
    let before = c.loop-part.before in
    let frames = c.loop-part.frames.items in
    let index = c.as_ref-index.ensures.value in
    let left = popped c.loop-part.parts.items c.pop.new.self.items part c.in-Some.ensures.items in
    let next =
    IsNext-part b c.args.parts.items (reverse c.loop-part.parts.items) (reverse c.pop.new.self.items) frames before part read c.requires.can c.loop-part.invariant left (sym c.into_read.ensures ∙ c.in-Some-into_read.is)
    c.requires.sound in
    let height : c.rows_of-count.result ≡ height_of read.columns.items = c.rows_of-count.ensures ∙ ap height_of c.deref.ensures.value in
    let frame : c.in-Ok.frame ≡ frame_behind b.options.now b.schema.now before (rows_behind b.options.now b.rows part.text.now) =
    c.in-Ok.ensures.frame ∙ frame-is b.options.now b.schema.now b.rows before part.text.now read (option_copied c.as_ref-index.result) next.is_sound index in
    let pushed = c.is_err.ensures.negation ∙ ap not c.if-is_err.false in
    let more : c.push.new.self.items ≡ frames ++ c.in-Ok.frame ∷ [] = c.push.ensures.items ∙ ap (λ t. if t then frames ++ c.in-Ok.frame ∷ [] else frames) pushed in
    AreFramed-more b c.args.parts.items (reverse c.loop-part.parts.items) (reverse c.pop.new.self.items) frames c.push.new.self.items c.in-Ok.frame before c.rows_of-count.result part read c.loop-part.invariant left next frame more height
