use Rattle.std.proofs.Common.{◌≡◌, ◌↔◌, ◌<◌, ℕ, List, ◌∷◌, arith, refl, sym, subst}
use Rattle.pl_seek.specs.Index.{AreRising}
use Rattle.pl_seek.proofs.Numbers.{numbers_step, numbers_none, rising_more, rising_one}
use Rattle.pl_seek.proofs.reading.are_rising.Goals as goal

same_rising : (all ns : List ℕ) → all ≡ ns → AreRising all ↔ AreRising ns
same_rising all ns e = (λ h. subst AreRising e h, λ h. subst AreRising (sym e) h)

-- a number behind the last one
goes_on : (all : List ℕ) (last number : ℕ) (rest after : List ℕ) → (AreRising all ↔ AreRising (last ∷ rest)) → rest ≡ number ∷ after
    → AreRising all ↔ ((last < number) × AreRising (number ∷ after))
goes_on all last number rest after so_far e =
    let step = rising_more last number after in
    (λ h. step.0 (subst (λ (ns : List ℕ). AreRising (last ∷ ns)) e (so_far.0 h)), λ h. so_far.1 (subst (λ (ns : List ℕ). AreRising (last ∷ ns)) (sym e) (step.1 h)))

pub numbers-init : goal.numbers-init
numbers-init c = same_rising _ _ (numbers_step c.args.bytes.now c.in-Some.last c.in-Some.rest.now (sym c.in-Some.ensures)).0

pub returns-then-number-last : goal.returns-then-number-last
returns-then-number-last c =
    let e = (numbers_step c.numbers.rest.now c.in-Some-number_at.number c.in-Some-number_at.after.now (sym c.in-Some-number_at.ensures)).0 in
    let step = goes_on _ c.numbers.last c.in-Some-number_at.number _ _ c.numbers.invariant e in
    (λ h. absurd cc, λ h. absurd (let lt = (step.0 h).0 in omega (arith, lt, c.if-number-last.true)))

pub numbers-preserved : goal.numbers-preserved
numbers-preserved c =
    let e = (numbers_step c.numbers.rest.now c.in-Some-number_at.number c.in-Some-number_at.after.now (sym c.in-Some-number_at.ensures)).0 in
    let step = goes_on _ c.numbers.last c.in-Some-number_at.number _ _ c.numbers.invariant e in
    (λ h. (step.0 h).1, λ h. step.1 (omega (arith, c.if-number-last.false), h))

pub returns : goal.returns
returns c =
    let e = numbers_none c.numbers.rest.now (sym c.in_default-number_at.ensures) in
    (λ _. c.numbers.invariant.1 (subst (λ (ns : List ℕ). AreRising (c.numbers.last ∷ ns)) (sym e) (rising_one c.numbers.last)), λ _. refl)
