use Rattle.std.proofs.Common.{◌≡◌, ◌<◌, not, ◌&&◌, refl, arith, ◌∙◌, ap, sym}
use lib.Count.{count_trailing_zeros}
use Rattle.pl_scan.specs.Dialect.{marks_of}
use Rattle.pl_scan.specs.Bits.{test, odd_at}
use Rattle.pl_table.specs.Ends.{is_strange, begin_at, even_at, spot_from}
use Rattle.pl_scan.proofs.BitLaws.{test-none}
use Rattle.pl_table.proofs.WordLaws.{lowest-test}
use Rattle.pl_table.proofs.FlagLaws.{ends-are, behind-is, counted-less, set-from}
use Rattle.pl_table.proofs.block.find_words.Goals as goal

pub returns-then-words-eq0-clause-ends : goal.returns-then-words-eq0-clause-ends
returns-then-words-eq0-clause-ends c =
    let m = marks_of c.args.dialect.now in
    let S = c.args.stops in
    let Q = c.loop.counted in
    let w = c.words_of-words.ensures in
    let odd = c.is_odd.ensures in
    let begin = c.is_begin.ensures in
    let even = c.is_even.ensures in
    let none : c.words_of-words.result.strange ≡ 0 = omega arith in
    ends-are m c.args.bytes.now c.args.spot S Q 64 (omega arith) c.requires.long c.requires.apart c.requires.stops c.loop.invariant
    (λ i h. (λ j. is_strange (test S i) (test Q i) (odd_at Q (sym odd j) i) (begin_at S Q (sym odd j) (sym begin j) i) (even_at Q (sym odd j) (sym even j) i)) ∙ sym (w.strange i h) ∙ ap (λ n. test n i) none ∙ test-none i)
    refl c.words_of-words.result.ends (omega arith) (λ i h. w.ends i h ∙ ap (λ o. test S i && not (odd_at Q o i)) odd)

pub returns-then-words-eq0-clause-behind : goal.returns-then-words-eq0-clause-behind
returns-then-words-eq0-clause-behind c =
    let m = marks_of c.args.dialect.now in
    let S = c.args.stops in
    let Q = c.loop.counted in
    let w = c.words_of-words.ensures in
    let odd = c.is_odd.ensures in
    let begin = c.is_begin.ensures in
    let even = c.is_even.ensures in
    let none : c.words_of-words.result.strange ≡ 0 = omega arith in
    (λ j. spot_from (w.odd_behind j) (w.begin_behind j) (w.even_behind j))
    ∙ (λ j. spot_from (odd_at Q (odd j) 64) (begin_at S Q (odd j) (begin j) 64) (even_at Q (odd j) (even j) 64))
    ∙ behind-is m c.args.bytes.now c.args.spot S Q 64 (omega arith) c.requires.long c.requires.apart c.requires.stops c.loop.invariant
    (λ i h. (λ j. is_strange (test S i) (test Q i) (odd_at Q (sym odd j) i) (begin_at S Q (sym odd j) (sym begin j) i) (even_at Q (sym odd j) (sym even j) i)) ∙ sym (w.strange i h) ∙ ap (λ n. test n i) none ∙ test-none i)
    refl

pub loop-preserved : goal.loop-preserved
loop-preserved c =
    let m = marks_of c.args.dialect.now in
    let S = c.args.stops in
    let Q = c.loop.counted in
    let w = c.words_of-words.ensures in
    let odd = c.is_odd.ensures in
    let begin = c.is_begin.ensures in
    let even = c.is_even.ensures in
    let X = c.words_of-words.result.strange in
    let low = lowest-test X (omega arith) (omega arith) in
    let n = count_trailing_zeros 64 X in
    let inside : n < 64 = low.0 in
    counted-less m c.args.bytes.now c.args.spot S Q n (omega arith) c.requires.long c.requires.apart c.requires.stops c.loop.invariant
    (λ i h. (λ j. is_strange (test S i) (test Q i) (odd_at Q (sym odd j) i) (begin_at S Q (sym odd j) (sym begin j) i) (even_at Q (sym odd j) (sym even j) i)) ∙ sym (w.strange i (omega arith)) ∙ low.2 i h)
    inside (set-from Q n c.if-counted-place-eq0.false)
    ((λ j. is_strange (test S n) (test Q n) (odd_at Q (sym odd j) n) (begin_at S Q (sym odd j) (sym begin j) n) (even_at Q (sym odd j) (sym even j) n)) ∙ sym (w.strange n inside) ∙ low.1)
