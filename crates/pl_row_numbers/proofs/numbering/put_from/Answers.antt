use Rattle.std.proofs.Common.{◌≡◌, ◌+◌, ◌-◌, ◌++◌, length, take, drop, sym, ◌∙◌, ap, length-drop, arith}
use Rattle.std.specs.Simd.Lanes.{put_chunk}
use borrow.Rule.Slice.PartMut.{put_mid}
use Rattle.std.proofs.lemmas.List.{take-take, length-take-le}
use Rattle.std.proofs.lemmas.Simd.{put_chunk_whole}
use Rattle.std.proofs.lemmas.Slice.{take-put_mid}
use Rattle.pl_write.proofs.PutLaws.{put-front}
use Rattle.pl_row_numbers.proofs.numbering.put_from.Goals as goal

pub returns-then-text-from-ge64-clause-text : goal.returns-then-text-from-ge64-clause-text
returns-then-text-from-ge64-clause-text c =
    let to = c.args.to.now in
    let at = c.args.at in
    let from = c.args.from in
    let rest = drop from c.args.text.now in
    let width : at + 64 - at ≡ 64 = omega arith in
    let part = take (at + 64 - at) (drop at to) in
    let bytes = take 64 (take (from + 64 - from) rest) in
    let is : bytes ≡ take 64 rest = take-take 64 (from + 64 - from) rest (omega arith) in
    let size : length bytes ≡ 64 = ap length is ∙ length-take-le 64 rest (omega (arith, length-drop from c.args.text.now)) in
    let whole : length part ≡ 64 = length-take-le (at + 64 - at) (drop at to) (omega (arith, length-drop at to)) ∙ width in
    let new = put_mid at (at + 64 - at) to (put_chunk 0 part bytes) in
    let put : take (at + 64) new ≡ take at to ++ bytes =
    ap (λ l. take (at + 64) (put_mid at (at + 64 - at) to l)) (put_chunk_whole part bytes (whole ∙ sym size))
    ∙ take-put_mid at (at + 64 - at) to bytes (at + 64) (omega (arith, size)) (omega arith) in
    put-front (take at to) bytes new at 64 c.args.count (length-take-le at to (omega arith)) (omega arith) put
    ∙ ap (λ l. take at to ++ l) (ap (take c.args.count) is ∙ take-take c.args.count 64 rest (omega arith))
