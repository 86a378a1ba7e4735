use Rattle.std.proofs.Common.{◌≡◌, ℕ, ◌+◌, ◌^◌, ◌<◌, length, slice_set, refl, ◌∙◌, arith, List, lt_of_le_of_lt}
use Rattle.std.proofs.lemmas.List.{length-set}
use lib.Bits.{and_le_l}
use lib.Count.{count_trailing_zeros}
use Rattle.pl_table.proofs.WrittenLaws.{cleared, put-place}
use Rattle.pl_table.proofs.index.put_four.Goals as goal

pub returns-clause-written : goal.returns-clause-written
returns-clause-written c want w₀ =
    let a = c.args in
    let at = a.at in
    let put = λ (out : List ℕ) (i r : ℕ). slice_set out i (a.base + count_trailing_zeros 64 r) in
    let r₁ = cleared a.bits in
    let r₂ = cleared r₁ in
    let r₃ = cleared r₂ in
    let o₁ = put a.out.now at a.bits in
    let o₂ = put o₁ (at + 1) r₁ in
    let o₃ = put o₂ (at + 2) r₂ in
    let l₁ : length o₁ ≡ length a.out.now = length-set a.out.now at _ in
    let l₂ : length o₂ ≡ length a.out.now = length-set o₁ (at + 1) _ ∙ l₁ in
    let l₃ : length o₃ ≡ length a.out.now = length-set o₂ (at + 2) _ ∙ l₂ in
    let s₀ : a.bits < 2 ^ 64 = omega arith in
    let s₁ : r₁ < 2 ^ 64 = lt_of_le_of_lt (and_le_l a.bits _) s₀ in
    let s₂ : r₂ < 2 ^ 64 = lt_of_le_of_lt (and_le_l r₁ _) s₁ in
    let s₃ : r₃ < 2 ^ 64 = lt_of_le_of_lt (and_le_l r₂ _) s₂ in
    let w₁ = put-place want a.base a.out.now at (at + 1) a.bits refl (omega arith) s₀ w₀ in
    let w₂ = put-place want a.base o₁ (at + 1) (at + 2) r₁ (omega arith) (omega arith) s₁ w₁ in
    let w₃ = put-place want a.base o₂ (at + 2) (at + 3) r₂ (omega arith) (omega arith) s₂ w₂ in
    put-place want a.base o₃ (at + 3) (at + 4) r₃ (omega arith) (omega arith) s₃ w₃
