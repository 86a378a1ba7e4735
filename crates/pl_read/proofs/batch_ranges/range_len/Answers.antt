use Rattle.std.proofs.Common.{◌≡◌, ◌+◌, ◌-◌, length, take, sym, subst, arith}
use Rattle.std.specs.Prelude.{◌⊎◌}
use Rattle.std.proofs.lemmas.List.{take_rest}
use Rattle.pl_read.specs.Batches.{EndsAtItem}
use Rattle.pl_read.proofs.BatchRangeLaws.{up_to-all, up_to-here, up_to-next, range-is}
use Rattle.pl_read.proofs.batch_ranges.range_len.Goals as goal

pub returns-then-len-left-clause-value : goal.returns-then-len-left-clause-value
returns-then-len-left-clause-value c =
    let value = rw (take_rest c.args.left.now c.loop-len.len) at c.piece_len-len.ensures.value in
    up_to-all c.args.options.now c.args.left.now c.loop-len.state c.loop-len.len c.piece_len-len.result c.requires.pieces c.loop-len.invariant c.loop-len-test.true value c.if-len-left.true

pub returns-in-Start-clause-value : goal.returns-in-Start-clause-value
returns-in-Start-clause-value c =
    let o = c.args.options.now in
    let from = c.loop-len.len in
    let k = c.piece_len-len.result in
    let value = rw (take_rest c.args.left.now from) at c.piece_len-len.ensures.value in
    let size : from + k - from ≡ k = omega arith in
    let behind = rw size at c.state_behind-state.ensures in
    up_to-here o c.args.left.now c.loop-len.state c.state_behind-state.result from k c.requires.pieces c.loop-len.invariant c.loop-len-test.true value behind c.in-Start.is

pub returns-in-Start-clause-ends : goal.returns-in-Start-clause-ends
returns-in-Start-clause-ends c =
    let o = c.args.options.now in
    let from = c.loop-len.len in
    let k = c.piece_len-len.result in
    let value = rw (take_rest c.args.left.now from) at c.piece_len-len.ensures.value in
    let size : from + k - from ≡ k = omega arith in
    let behind = rw size at c.state_behind-state.ensures in
    let is = up_to-here o c.args.left.now c.loop-len.state c.state_behind-state.result from k c.requires.pieces c.loop-len.invariant c.loop-len-test.true value behind c.in-Start.is in
    subst (λ j. (j ≡ length c.args.left.now) ⊎ EndsAtItem o (take j c.args.left.now)) (sym is) (range-is o c.args.left.now c.requires.dialect c.requires.pieces).ends

pub loop-len-preserved : goal.loop-len-preserved
loop-len-preserved c =
    let o = c.args.options.now in
    let from = c.loop-len.len in
    let k = c.piece_len-len.result in
    let value = rw (take_rest c.args.left.now from) at c.piece_len-len.ensures.value in
    let fits = rw (take_rest c.args.left.now from) at c.piece_len-len.ensures.fits in
    let size : from + k - from ≡ k = omega arith in
    let behind = rw size at c.state_behind-state.ensures in
    up_to-next o c.args.left.now c.loop-len.state c.state_behind-state.result from k c.requires.pieces c.loop-len.invariant c.loop-len-test.true value fits behind c.in-Open.is
