use Rattle.std.proofs.Common.{[], ◌∷◌, take, drop, ◌++◌, sym, ◌∙◌, ap, eqb-true}
use Rattle.std.proofs.lemmas.List.{take_rest}
use Rattle.pl_text.specs.FrameText.{doubled}
use Rattle.pl_write.proofs.BlockLaws.{written_more}
use Rattle.pl_write.proofs.DoubledLaws.{doubled-none, doubled-step}
use Rattle.pl_write.proofs.KeptLaws.{front-is, front-then}
use Rattle.pl_write.proofs.texts.push_doubled.Goals as goal

pub loop-at-preserved : goal.loop-at-preserved
loop-at-preserved c =
    let q = c.args.quote in
    let b = c.loop-at.rest.now in
    let n = c.in-Some.at in
    let step = doubled-step q b n c.in-Some.ensures.0.before c.in-Some.ensures.0.high (eqb-true _ _ c.in-Some.ensures.1) in
    record {
      written = rw (c.in_ok-extend_from_slice-2.ensures.items, c.in_ok-extend_from_slice.ensures.items, c.split_at.ensures.front, take_rest, c.split_at.ensures.back)
          (written_more (c.args.block.now.items ++ doubled q c.args.text.now) c.loop-at.block.items (take n b) (q ∷ q ∷ []) (doubled q (drop 1 (drop n b))) (doubled q b) c.loop-at.invariant.written step);
      kept = front-then c.loop-at.invariant.kept (front-then (front-is _ _ _ c.in_ok-extend_from_slice.ensures.items) (front-is _ _ _ c.in_ok-extend_from_slice-2.ensures.items));
    }

pub returns-clause-text : goal.returns-clause-text
returns-clause-text c =
    let q = c.args.quote in
    let b = c.loop-at.rest.now in
    rw c.in_ok-extend_from_slice-3.ensures.items (ap (λ l. c.loop-at.block.items ++ l) (sym (doubled-none q b c.in_default.ensures)) ∙ c.loop-at.invariant.written)
