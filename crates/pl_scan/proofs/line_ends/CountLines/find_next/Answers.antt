use Rattle.std.proofs.Common.{arith, ◌≡◌, ◌*◌, ◌∙◌, sym, ap}
use Rattle.pl_scan.specs.LineEnds.{cut_size}
use Rattle.pl_scan.proofs.LineEndLaws.{cut_size-here, cut_size-more, is_enough-long, is_enough-some, is_enough-not}
use Rattle.pl_scan.proofs.line_ends.CountLines.find_next.Goals as goal

pub returns-then-chunk_size-bytes-clause-size : goal.returns-then-chunk_size-bytes-clause-size
returns-then-chunk_size-bytes-clause-size c =
    let q = c.args.self.now.quote in
    let e = c.args.self.now.line_end in
    sym (cut_size-here q e c.args.bytes.now c.loop-chunk_size.chunk_size (is_enough-long q e c.args.bytes.now c.loop-chunk_size.chunk_size (omega arith))) ∙ c.loop-chunk_size.invariant.size

pub returns-then-number-gt0-clause-size : goal.returns-then-number-gt0-clause-size
returns-then-number-gt0-clause-size c =
    let q = c.args.self.now.quote in
    let e = c.args.self.now.line_end in
    sym (cut_size-here q e c.args.bytes.now c.loop-chunk_size.chunk_size (is_enough-some q e c.args.bytes.now c.loop-chunk_size.chunk_size (omega (arith, c.count-number.ensures.number)))) ∙ c.loop-chunk_size.invariant.size

pub loop-chunk_size-preserved : goal.loop-chunk_size-preserved
loop-chunk_size-preserved c =
    let q = c.args.self.now.quote in
    let e = c.args.self.now.line_end in
    let n = c.loop-chunk_size.chunk_size in
    let none = is_enough-not q e c.args.bytes.now n (omega (arith, c.count-number.ensures.number)) (omega arith) in
    let more = cut_size-more q e c.args.bytes.now n c.loop-chunk_size.invariant.some none (omega arith) in
    let twice : 2 * n ≡ n * 2 = omega arith in
    record { some = omega arith; size = ap (cut_size q e c.args.bytes.now) (sym twice) ∙ sym more ∙ c.loop-chunk_size.invariant.size }
