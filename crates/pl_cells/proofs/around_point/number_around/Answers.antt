use Rattle.std.proofs.Common.{◌-◌, ◌+◌, ◌++◌, ◌∙◌, ap, sym, subst, ℕ, List, length, take, drop, get_or, Fits, w8}
use Rattle.std.proofs.lemmas.List.{get_or-drop}
use Rattle.pl_cells.specs.Lanes.{AreDigits, digits_number}
use Rattle.pl_cells.proofs.AroundLaws.{part_bytes, both_bytes}
use Rattle.pl_cells.proofs.LaneLaws.{text_digits, told}
use Rattle.pl_cells.proofs.around_point.number_around.Goals as goal

pub number_of_lanes-requires : goal.number_of_lanes-requires
number_of_lanes-requires c = told c.are_digits.result c.if-are_digits.true c.are_digits.ensures

dropped_bytes : (n : ℕ) (xs : List ℕ) → ((k : ℕ) → Fits w8 (get_or xs k 0)) → (k : ℕ) → Fits w8 (get_or (drop n xs) k 0)
dropped_bytes n xs bytes k = subst (λ (x : ℕ). Fits w8 x) (sym (get_or-drop n xs k 0)) (bytes (n + k))

around_bytes : (upto : List ℕ) (from point : ℕ) → ((k : ℕ) → Fits w8 (get_or upto k 0)) → (k : ℕ) → Fits w8 (get_or (drop from (take point upto) ++ drop (point + 1) upto) k 0)
around_bytes upto from point bytes =
    both_bytes (drop from (take point upto)) (drop (point + 1) upto) (dropped_bytes from (take point upto) (part_bytes point upto bytes)) (dropped_bytes (point + 1) upto bytes)

pub returns-then-are_digits-clause-digits : goal.returns-then-are_digits-clause-digits
returns-then-are_digits-clause-digits c =
    let upto : List ℕ = c.args.upto.now in
    let lanes : AreDigits c.digits_around-lanes.result = told c.are_digits.result c.if-are_digits.true c.are_digits.ensures in
    (text_digits (16 - (length upto - 1 - c.args.from)) (drop c.args.from (take c.args.point upto) ++ drop (c.args.point + 1) upto) (around_bytes upto c.args.from c.args.point c.type_inv.upto)
    (subst AreDigits c.digits_around-lanes.ensures lanes)).0

pub returns-then-are_digits-clause-value : goal.returns-then-are_digits-clause-value
returns-then-are_digits-clause-value c =
    let upto : List ℕ = c.args.upto.now in
    let lanes : AreDigits c.digits_around-lanes.result = told c.are_digits.result c.if-are_digits.true c.are_digits.ensures in
    c.number_of_lanes.ensures.value ∙ ap (digits_number 0) c.digits_around-lanes.ensures
    ∙ (text_digits (16 - (length upto - 1 - c.args.from)) (drop c.args.from (take c.args.point upto) ++ drop (c.args.point + 1) upto) (around_bytes upto c.args.from c.args.point c.type_inv.upto)
    (subst AreDigits c.digits_around-lanes.ensures lanes)).1
