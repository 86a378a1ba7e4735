use Rattle.std.proofs.Common.{◌<◌, ◌-◌, ◌+◌, ◌∙◌, ap, sym, subst, ℕ, length, drop, get_or, Fits, w8, arith}
use Rattle.std.proofs.lemmas.List.{length-drop, get_or-drop}
use Rattle.pl_cells.specs.Lanes.{AreDigits, digits_number}
use Rattle.pl_cells.proofs.IntegerLaws.{is_digits-cons}
use Rattle.pl_cells.proofs.LaneLaws.{text_digits, told}
use Rattle.pl_cells.proofs.lanes.number_at.Goals as goal

pub number_of_lanes-requires : goal.number_of_lanes-requires
number_of_lanes-requires c = told c.are_digits.result c.if-are_digits.true c.are_digits.ensures

pub returns-then-are_digits-clause-digits : goal.returns-then-are_digits-clause-digits
returns-then-are_digits-clause-digits c =
    let field = drop c.args.start c.args.upto.now in
    let lanes : AreDigits c.last_digits-lanes.result = told c.are_digits.result c.if-are_digits.true c.are_digits.ensures in
    let bytes : (k : ℕ) → Fits w8 (get_or field k 0) = λ k. subst (λ (x : ℕ). Fits w8 x) (sym (get_or-drop c.args.start c.args.upto.now k 0)) (c.type_inv.upto (c.args.start + k)) in
    let some : 0 < length field = omega (arith, length-drop c.args.start c.args.upto.now) in
    is_digits-cons field some ∙ (text_digits (16 - (length c.args.upto.now - c.args.start)) field bytes (subst AreDigits c.last_digits-lanes.ensures lanes)).0

pub returns-then-are_digits-clause-value : goal.returns-then-are_digits-clause-value
returns-then-are_digits-clause-value c =
    let field = drop c.args.start c.args.upto.now in
    let lanes : AreDigits c.last_digits-lanes.result = told c.are_digits.result c.if-are_digits.true c.are_digits.ensures in
    let bytes : (k : ℕ) → Fits w8 (get_or field k 0) = λ k. subst (λ (x : ℕ). Fits w8 x) (sym (get_or-drop c.args.start c.args.upto.now k 0)) (c.type_inv.upto (c.args.start + k)) in
    c.number_of_lanes.ensures.value ∙ ap (digits_number 0) c.last_digits-lanes.ensures
    ∙ (text_digits (16 - (length c.args.upto.now - c.args.start)) field bytes (subst AreDigits c.last_digits-lanes.ensures lanes)).1
