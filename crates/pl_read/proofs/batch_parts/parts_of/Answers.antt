use Rattle.std.proofs.Common.{◌≡◌, ◌+◌, ◌-◌, ◌<◌, ◌++◌, ◌∷◌, [], length, take, drop, ◌∙◌, ap, arith, length-drop}
use Rattle.std.proofs.lemmas.List.{map-append, take_rest}
use Rattle.pl_read.specs.declared.batch_parts.Part.{Part}
use Rattle.pl_read.specs.NextFrames.{texts_of}
use Rattle.pl_read.proofs.NextPartLaws.{AreCut-start, AreCut-next}
use Rattle.pl_read.proofs.batch_parts.parts_of.Goals as goal

pub loop-left-init : goal.loop-left-init
loop-left-init c = AreCut-start c.args.options.now c.args.n c.args.rest.now (texts_of c.new-parts.result.items) c.requires.asked (ap texts_of c.new-parts.ensures.items)

pub loop-left-preserved : goal.loop-left-preserved
loop-left-preserved c =
    let o = c.args.options.now in
    let rest = c.args.rest.now in
    let end = c.loop-left.end in
    let k = c.range_len.result in
    let b = drop end rest in
    let value = rw (take_rest rest end) at c.range_len.ensures.value in
    let some = rw (take_rest rest end) at c.range_len.ensures.some in
    let fits = rw (take_rest rest end) at c.range_len.ensures.fits in
    let ends = rw (take_rest rest end) at c.range_len.ensures.ends in
    let size : end + k - end ≡ k = omega arith in
    let bytes : 0 < length b = omega (arith, length-drop end rest) in
    let more : texts_of c.push.new.self.items ≡ texts_of c.loop-left.parts.items ++ take k b ∷ [] =
    ap texts_of c.in_ok-push.ensures.items ∙ map-append (λ (part : Part). part.text.now) c.loop-left.parts.items (c.unread.result ∷ [])
    ∙ ap (λ t. texts_of c.loop-left.parts.items ++ t ∷ []) (c.unread.ensures ∙ ap (λ j. take j b) size) in
    AreCut-next o c.args.n rest c.loop-left.left end k (texts_of c.loop-left.parts.items) (texts_of c.push.new.self.items) c.requires.dialect c.loop-left.invariant
    c.loop-left-test.true c.if-end-rest.true value (some bytes) fits ends more
