use Rattle.std.proofs.Common.{◌≡◌, ℕ, ◌+◌, ◌-◌, ◌%◌, ◌^◌, ◌<◌, ◌++◌, true, false, take, drop, get_or, sym, ◌∙◌, ap, ap₂, append_assoc, arith}
use lib.Count.{count_trailing_zeros}
use Rattle.pl_scan.specs.Bits.{test}
use Rattle.pl_row_numbers.specs.Numbered.{followed, front_text, inside, stand_behind}
use Rattle.pl_row_numbers.specs.Parts.{odd_behind, is_end}
use Rattle.pl_row_numbers.proofs.CutLaws.{IsLeft-first, IsLeft-none}
use Rattle.pl_row_numbers.proofs.FollowedLaws.{odd-stand, followed-more, followed-line}
use Rattle.pl_row_numbers.proofs.numbering.put_block.Goals as goal

pub overflow_sub-end : goal.overflow_sub-end
overflow_sub-end c =
    let left = c.loop-left.left in
    let first = IsLeft-first c.ends_in_block-ends.result.0 left c.loop-left.from (omega (arith, c.loop-left-test.true)) (omega arith) c.loop-left.invariant.left in
    omega (arith, first.behind)

pub loop-left-preserved : goal.loop-left-preserved
loop-left-preserved c =
    let form = c.args.front.now.form in
    let s = inside c.args.front.now c.args.odd in
    let text = c.args.text.now in
    let from = c.loop-left.from in
    let left = c.loop-left.left in
    let inv = c.loop-left.invariant in
    let ends = c.ends_in_block-ends.result.0 in
    let told = c.ends_in_block-ends.ensures.ends in
    let first = IsLeft-first ends left from (omega (arith, c.loop-left-test.true)) (omega arith) inv.left in
    let n = count_trailing_zeros 64 left in
    let count = n - from in
    let place : from + count ≡ n = omega (arith, first.behind) in
    let none : (i : ℕ) → i < count → is_end (odd_behind c.args.odd (take (from + i) text)) (get_or text (from + i) 0) ≡ false =
    λ i l. sym (told (from + i) (omega (arith, l, place, first.inside))) ∙ first.clear (from + i) (omega arith) (omega (arith, l, place)) in
    let ended : is_end (odd_behind c.args.odd (take (from + count) text)) (get_or text (from + count) 0) ≡ true =
    sym (told (from + count) (omega (arith, place, first.inside))) ∙ ap (test ends) place ∙ first.set in
    let line = followed-line form s text from count (omega (arith, place, first.inside, c.requires.long)) none ended in
    let behind : n + 1 ≡ from + count + 1 = omega (arith, place) in
    let size : n + 1 - from ≡ count + 1 = omega (arith, place) in
    let piece = take (count + 1) (drop from text) in
    let number = c.advance.ensures.number ∙ ap (λ k. (k + 1) % 2 ^ 64) inv.number in
    let front = front_text form (((stand_behind s (take from text)).number + 1) % 2 ^ 64) in
    let old = take c.args.at c.args.to.now in
    record {
      within = omega (arith, first.inside);
      room = omega (arith, c.put_front-now.ensures.end, c.put_from-ended.ensures.end, inv.room, place);
      text =
          c.put_front-now.ensures.text
          ∙ ap₂ (λ l f. l ++ f) c.put_from-ended.ensures.text (ap₂ front_text (c.advance.ensures.form ∙ inv.form) number)
          ∙ ap₂ (λ l k. (l ++ take k (drop from text)) ++ front) inv.text size
          ∙ ap (λ l. l ++ front) (append_assoc old (followed form s (take from text)) piece)
          ∙ append_assoc old (followed form s (take from text) ++ piece) front
          ∙ ap (λ l. old ++ l) (sym (ap (λ k. followed form s (take k text)) behind ∙ line.0));
      left = first.next;
      front = c.advance.ensures.front;
      form = c.advance.ensures.form ∙ inv.form;
      number = number ∙ sym (ap (λ k. (stand_behind s (take k text)).number) behind ∙ line.1);
    }

pub returns : goal.returns
returns c =
    let form = c.args.front.now.form in
    let s = inside c.args.front.now c.args.odd in
    let text = c.args.text.now in
    let from = c.loop-left.from in
    let inv = c.loop-left.invariant in
    let ends = c.ends_in_block-ends.result.0 in
    let count = 64 - from in
    let place : from + count ≡ 64 = omega (arith, inv.within) in
    let none : (i : ℕ) → i < count → is_end (odd_behind c.args.odd (take (from + i) text)) (get_or text (from + i) 0) ≡ false =
    λ i l.
    sym (c.ends_in_block-ends.ensures.ends (from + i) (omega (arith, l, place)))
    ∙ IsLeft-none ends c.loop-left.left from (from + i) (omega (arith, c.loop-left-test.false)) inv.left (omega arith) in
    let more = followed-more form s text from count (omega (arith, place, c.requires.long)) none in
    record {
      text =
          c.put_from.ensures.text
          ∙ ap (λ l. l ++ take count (drop from text)) inv.text
          ∙ append_assoc (take c.args.at c.args.to.now) (followed form s (take from text)) (take count (drop from text))
          ∙ ap (λ l. take c.args.at c.args.to.now ++ l) (sym (ap (λ k. followed form s (take k text)) (sym place) ∙ more.0));
      end = omega (arith, c.put_from.ensures.end, inv.room, inv.within);
      stand = record {
        front_is = inv.front;
        form_is = inv.form;
        number_is = inv.number ∙ sym (ap (λ k. (stand_behind s (take k text)).number) (sym place) ∙ more.1);
        odd_is = c.ends_in_block-ends.ensures.odd ∙ sym (odd-stand s (take 64 text));
      };
    }
