use Rattle.std.proofs.Common.{◌+◌, ◌-◌, ◌++◌, [], length, drop, get_or, sym, ap, subst, arith, Bor, List, ℕ}
use Rattle.pl_intake.proofs.TextLaws.{IsLeft, IsLeft-cut, IsLeft-past, IsLeft-all, texts_from}
use Rattle.pl_intake.proofs.texts.left_behind.Goals as goal
use Rattle.pl_intake.proofs.texts.left_behind.Goals.{then-from-text+in_ok-extend_from_slice, else-from-text}

pub loop-text-init : goal.loop-text-init
loop-text-init c = record {
  within = c.requires;
  is = ap (λ l. l ++ drop c.args.from (texts_from c.args.texts.now 0 ++ c.args.rest.now)) c.new-left.ensures.items;
}

-- no text
abbrev none : Bor (List ℕ)
none = record { ref_ptr = (0, 0); now = [] }

pub loop-text-preserved : goal.loop-text-preserved
loop-text-preserved c =
    let texts = c.args.texts.now in
    let rest = c.args.rest.now in
    let k = c.loop-text.text-index in
    let from = c.loop-text.from in
    let left = c.loop-text.left.items in
    let P = λ (n : ℕ) (l : List ℕ). IsLeft texts rest c.args.from (k + 1) n l in
    elim c.if-from-text.branch [
      | then-from-text+in_ok-extend_from_slice w ↦
          subst (λ n. P n c.if-from-text.left.items) (sym w.from-is)
          (subst (P 0) (sym (ap (λ v. v.items) w.left-is))
          (IsLeft-cut texts rest c.args.from k from left w.extend_from_slice.new.self.items none c.loop-text.invariant c.loop-text-test.true w.if-from-text.true w.in_ok-extend_from_slice.ensures.items))
      | else-from-text w ↦
          subst (λ n. P n c.if-from-text.left.items) (sym w.from-is)
          (subst (P (from - length (get_or texts k none).now)) (sym (ap (λ v. v.items) w.left-is))
          (IsLeft-past texts rest c.args.from k from (from - length (get_or texts k none).now) left none c.loop-text.invariant c.loop-text-test.true (omega (arith, w.if-from-text.false))))
    ]

pub returns : goal.returns
returns c =
    IsLeft-all c.args.texts.now c.args.rest.now c.args.from c.loop-text.text-index c.loop-text.from c.loop-text.left.items c.extend_from_slice-2.new.self.items c.loop-text.invariant (omega arith) c.in_ok-extend_from_slice-2.ensures.items
