use Rattle.std.proofs.Common.{◌≡◌, ◌++◌, ◌∷◌, [], List, ℕ, sym, ◌∙◌, ap, append-nil, append_assoc}
use Rattle.std.specs.List.{concat}
use Rattle.std.proofs.lemmas.List.Folds.{concat-append}
use Rattle.pl_intake.proofs.pending.Pending.put_back.Goals as goal

pub loop-last-preserved : goal.loop-last-preserved
loop-last-preserved g c =
    let before = c.pop_back.new.self.items in
    let one : List ℕ = c.in-Some.last in
    let rest = c.loop-last.intake.rest.items in
    let text : c.in_ok-into_bytes.field-0.items ≡ one = c.in_ok-into_bytes.ensures ∙ c.into_parts-text.ensures.text in
    let all : concat c.loop-last.texts.items ≡ concat before ++ one = ap concat c.in-Some.ensures.items ∙ concat-append before (one ∷ []) ∙ ap (λ l. concat before ++ l) (append-nil one) in
    record {
      rest = ap (λ l. concat before ++ l) (c.in_ok-put_back.ensures.rest ∙ ap (λ l. l ++ rest) text) ∙ sym (append_assoc (concat before) one rest) ∙ ap (λ l. l ++ rest) (sym all) ∙ c.loop-last.invariant.rest;
      size = c.put_back.ensures.size ∙ c.loop-last.invariant.size;
      ended = c.put_back.ensures.ended ∙ c.loop-last.invariant.ended;
    }
