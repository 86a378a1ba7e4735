use Rattle.std.proofs.Common.{◌≡◌, [], ◌∷◌, take, drop, ◌++◌, sym, ◌∙◌, ap, append_assoc, eqb-true, arith, length-drop}
use Rattle.std.proofs.lemmas.List.{take_rest}
use Rattle.pl_text.specs.FrameText.{doubled}
use Rattle.pl_write.proofs.BlockLaws.{written_more}
use Rattle.pl_write.proofs.DoubledLaws.{doubled-none, doubled-step}
use Rattle.pl_write.proofs.put_texts.put_doubled.Goals as goal

pub loop-place-preserved : goal.loop-place-preserved
loop-place-preserved c =
    let q = c.args.quote in
    let b = c.loop-place.rest.now in
    let n = c.in-Some.place in
    let so_far = take c.loop-place.at c.loop-place.to in
    let step = doubled-step q b n c.in-Some.ensures.0.before c.in-Some.ensures.0.high (eqb-true _ _ c.in-Some.ensures.1) in
    let put : take c.put_byte-at-in-Some.result c.put_byte-at-in-Some.new.to ≡ (so_far ++ take n b) ++ (q ∷ q ∷ []) =
    c.put_byte-at-in-Some.ensures.text
    ∙ ap (λ l. l ++ q ∷ []) (c.put_byte-at.ensures.text ∙ ap (λ l. l ++ q ∷ []) (c.put_bytes-at.ensures.text ∙ ap (λ l. so_far ++ l) c.split_at.ensures.front))
    ∙ append_assoc (so_far ++ take n b) (q ∷ []) (q ∷ []) in
    record {
      room = rw take_rest (omega (arith, length-drop 1 c.split_at.result.1.now, c.split_at.ensures.front_len, c.split_at.ensures.back_len, c.in-Some.ensures.0.high));
      written = rw (put, take_rest, c.split_at.ensures.back)
          (written_more (take c.args.start c.args.to.now ++ doubled q c.args.text.now) so_far (take n b) (q ∷ q ∷ []) (doubled q (drop 1 (drop n b))) (doubled q b) c.loop-place.invariant.written step);
    }

pub returns-clause-text : goal.returns-clause-text
returns-clause-text c =
    let q = c.args.quote in
    let b = c.loop-place.rest.now in
    rw c.put_bytes.ensures.text (ap (λ l. take c.loop-place.at c.loop-place.to ++ l) (sym (doubled-none q b c.in_default.ensures)) ∙ c.loop-place.invariant.written)
