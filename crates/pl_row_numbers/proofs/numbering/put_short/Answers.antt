use Rattle.std.proofs.Common.{◌≡◌, ◌+◌, ◌%◌, ◌^◌, ◌==◌, cond, [], ◌∷◌, ◌++◌, take, get_or, sym, ◌∙◌, ap, ap₂, subst, append_assoc, append-nil, arith}
use Rattle.pl_scan.specs.Bits.{xor}
use Rattle.pl_row_numbers.specs.Numbered.{Stands, followed, front_at, front_text, in_line, inside, next_line, next_stand, stand_behind}
use Rattle.pl_row_numbers.specs.Parts.{is_end}
use Rattle.pl_row_numbers.specs.declared.fronts.Front.{Front}
use Rattle.pl_row_numbers.proofs.FollowedLaws.{followed-byte, odd-next}
use Rattle.pl_row_numbers.proofs.numbering.put_short.Goals as goal
use Rattle.pl_row_numbers.proofs.numbering.put_short.Goals.{then-is_line_end, else-is_line_end}

pub loop-byte-preserved : goal.loop-byte-preserved
loop-byte-preserved c =
    let form = c.args.front.now.form in
    let s = inside c.args.front.now c.args.odd in
    let text = c.args.text.now in
    let i = c.loop-byte.byte-index in
    let x = get_or text i 0 in
    let inv = c.loop-byte.invariant in
    let here = stand_behind s (take i text) in
    let before = followed form s (take i text) in
    let old = take c.args.at c.args.to.now in
    let byte = followed-byte form s text i c.loop-byte-test.true in
    let odd = c.is_odd_behind-odd_now.ensures ∙ ap (xor (x == 34)) inv.stands.odd_is ∙ sym (odd-next here x) ∙ ap (λ t. t.odd) (sym byte.1) in
    let ended = c.is_line_end.ensures ∙ ap (λ o. is_end o x) inv.stands.odd_is in
    let put = c.put_byte-now.ensures.text ∙ ap (λ l. l ++ x ∷ []) inv.text ∙ append_assoc old before (x ∷ []) in
    elim c.if-is_line_end.branch [
      | then-is_line_end w ↦
          let next : next_stand here x ≡ next_line here = ap (λ t. cond t (next_line here) (in_line here (xor (x == 34) here.odd))) (sym ended ∙ w.if-is_line_end.true) in
          let number = w.advance.ensures.number ∙ ap (λ k. (k + 1) % 2 ^ 64) inv.stands.number_is in
          let last = front_text form ((here.number + 1) % 2 ^ 64) in
          record {
            room = omega (arith, w.now-is, w.put_front-now.ensures.end, c.put_byte-now.ensures.end, inv.room);
            text =
                ap₂ (λ n l. take n l) w.now-is w.to-is
                ∙ w.put_front-now.ensures.text
                ∙ ap₂ (λ l f. l ++ f) put (ap₂ front_text (w.advance.ensures.form ∙ inv.stands.form_is) number)
                ∙ append_assoc old (before ++ x ∷ []) last
                ∙ ap (λ l. old ++ l) (sym (byte.0 ∙ ap (λ t. (before ++ x ∷ []) ++ front_at form t) next));
            stands = subst (λ (f : Front). Stands form (stand_behind s (take (i + 1) text)) f c.is_odd_behind-odd_now.result) (sym w.front-is) (record {
              front_is = w.advance.ensures.front;
              form_is = w.advance.ensures.form ∙ inv.stands.form_is;
              number_is = number ∙ ap (λ t. t.number) (sym (byte.1 ∙ next));
              odd_is = odd;
            });
          }
      | else-is_line_end w ↦
          let next : next_stand here x ≡ in_line here (xor (x == 34) here.odd) = ap (λ t. cond t (next_line here) (in_line here (xor (x == 34) here.odd))) (sym ended ∙ w.if-is_line_end.false) in
          record {
            room = omega (arith, w.now-is, c.put_byte-now.ensures.end, inv.room);
            text =
                ap₂ (λ n l. take n l) w.now-is w.to-is
                ∙ put
                ∙ ap (λ l. old ++ l) (sym (byte.0 ∙ ap (λ t. (before ++ x ∷ []) ++ front_at form t) next ∙ append-nil (before ++ x ∷ [])));
            stands = subst (λ (f : Front). Stands form (stand_behind s (take (i + 1) text)) f c.is_odd_behind-odd_now.result) (sym w.front-is) (record {
              front_is = inv.stands.front_is;
              form_is = inv.stands.form_is;
              number_is = inv.stands.number_is ∙ ap (λ t. t.number) (sym (byte.1 ∙ next));
              odd_is = odd;
            });
          }
    ]
