-- The words of a block, bit by bit.
use Rattle.std.proofs.Common.{◌≡◌, ℕ, zero, suc, ◌+◌, ◌*◌, ◌/◌, ◌^◌, ◌<◌, Bool, true, false, not, ◌&&◌, ◌||◌, ◌==◌, refl, ap, ap₂, ◌∙◌, arith, add-one, mod-lt, pow_pos, w64}
use lib.Count.{count_trailing_zeros}
use Rattle.std.specs.Prelude.{nat_eq}
use Rattle.std.proofs.lemmas.Nat.Bits.{bit_at-trailing_zeros}
use lib.Bits.{bit_and, bit_or, bit_xor, and_le_l, or_lt, xor_lt}
use mir.Val.{bool_byte}
use Rattle.pl_scan.specs.Bits.{test, xor, parity, odd_at}
use Rattle.pl_table.specs.Ends.{begin_at, even_at, is_strange}
use Rattle.pl_scan.proofs.BitLaws.{test-and, test-or, test-xor, flip, test-flip, shl, test-shl_one, test-shl_low, byte_lt, test-byte_zero, test-byte_suc, top_bit}

cancel : (p q c : Bool) → xor (xor (xor p q) c) q ≡ xor p c
cancel true true true = refl
cancel true true false = refl
cancel true false true = refl
cancel true false false = refl
cancel false true true = refl
cancel false true false = refl
cancel false false true = refl
cancel false false false = refl

or-false : (b : Bool) → (b || false) ≡ b
or-false true = refl
or-false false = refl

module _ (S Q through : ℕ) (o b e : Bool) (s_lt : S < 2 ^ 64) (q_lt : Q < 2 ^ 64) (through_lt : through < 2 ^ 64) (told : (i : ℕ) → i < 64 → test through i ≡ odd_at Q o (i + 1)) where
  abbrev pub inside : ℕ
  inside = bit_xor through Q

  abbrev pub ends : ℕ
  ends = bit_and S (flip inside)

  abbrev pub closing : ℕ
  closing = bit_and Q inside

  abbrev pub begins : ℕ
  begins = bit_or (shl 1 ends) (bool_byte b)

  abbrev pub evens : ℕ
  evens = bit_or (shl 1 closing) (bool_byte e)

  abbrev pub strange : ℕ
  strange = bit_or (bit_and (bit_and Q (flip inside)) (flip (bit_or begins evens))) (bit_and evens (flip (bit_or S Q)))

  inside_lt : inside < 2 ^ 64
  inside_lt = xor_lt 64 through Q through_lt q_lt

  shifted_lt : (x : ℕ) (c : Bool) → bit_or (shl 1 x) (bool_byte c) < 2 ^ 64
  shifted_lt x c = or_lt 64 (shl 1 x) (bool_byte c) (mod-lt (x * 2) (pow_pos 64)) (byte_lt c)

  pub has-through : (i : ℕ) → i < 64 → test through i ≡ odd_at Q o (suc i)
  has-through i h = told i h ∙ ap (odd_at Q o) (add-one i)

  pub has-inside : (i : ℕ) → i < 64 → test inside i ≡ odd_at Q o i
  unfolding parity
  has-inside i h = test-xor through Q i ∙ ap (λ t. xor t (test Q i)) (has-through i h) ∙ cancel (parity Q i) (test Q i) o

  outside : (i : ℕ) → i < 64 → test (flip inside) i ≡ not (odd_at Q o i)
  outside i h = test-flip inside i inside_lt h ∙ ap not (has-inside i h)

  pub has-ends : (i : ℕ) → i < 64 → test ends i ≡ (test S i && not (odd_at Q o i))
  has-ends i h = test-and S (flip inside) i ∙ ap (λ t. test S i && t) (outside i h)

  pub has-closing : (i : ℕ) → i < 64 → test closing i ≡ (test Q i && odd_at Q o i)
  has-closing i h = test-and Q inside i ∙ ap (λ t. test Q i && t) (has-inside i h)

  has-begins : (i : ℕ) → i < 64 → test begins i ≡ begin_at S Q o b i
  has-begins zero h = test-or (shl 1 ends) (bool_byte b) 0 ∙ ap₂ (λ x y. x || y) (test-shl_low 1 0 ends (omega arith) h) (test-byte_zero b)
  has-begins (suc i) h = test-or (shl 1 ends) (bool_byte b) (suc i) ∙ ap₂ (λ x y. x || y) (test-shl_one i ends h) (test-byte_suc b i (omega arith)) ∙ or-false _ ∙ has-ends i (omega arith)

  pub has-evens : (i : ℕ) → i < 64 → test evens i ≡ even_at Q o e i
  has-evens zero h = test-or (shl 1 closing) (bool_byte e) 0 ∙ ap₂ (λ x y. x || y) (test-shl_low 1 0 closing (omega arith) h) (test-byte_zero e)
  has-evens (suc i) h = test-or (shl 1 closing) (bool_byte e) (suc i) ∙ ap₂ (λ x y. x || y) (test-shl_one i closing h) (test-byte_suc e i (omega arith)) ∙ or-false _ ∙ has-closing i (omega arith)

  pub has-strange : (i : ℕ) → i < 64 → test strange i ≡ is_strange (test S i) (test Q i) (odd_at Q o i) (begin_at S Q o b i) (even_at Q o e i)
  has-strange i h =
      let both_lt = or_lt 64 begins evens (shifted_lt ends b) (shifted_lt closing e) in
      let opens = test-and (bit_and Q (flip inside)) (flip (bit_or begins evens)) i
      ∙ ap₂ (λ x y. x && y) (test-and Q (flip inside) i ∙ ap (λ t. test Q i && t) (outside i h))
      (test-flip (bit_or begins evens) i both_lt h ∙ ap not (test-or begins evens i ∙ ap₂ (λ x y. x || y) (has-begins i h) (has-evens i h))) in
      let follows = test-and evens (flip (bit_or S Q)) i
      ∙ ap₂ (λ x y. x && y) (has-evens i h) (test-flip (bit_or S Q) i (or_lt 64 S Q s_lt q_lt) h ∙ ap not (test-or S Q i)) in
      test-or _ _ i ∙ ap₂ (λ x y. x || y) opens follows

  pub odd_behind : nat_eq (through / 2 ^ 63) 1 ≡ odd_at Q o 64
  odd_behind = top_bit through through_lt ∙ has-through 63 (omega arith)

  pub begin_behind : nat_eq (ends / 2 ^ 63) 1 ≡ begin_at S Q o b 64
  begin_behind = top_bit ends (omega (arith, s_lt, and_le_l S (flip inside))) ∙ has-ends 63 (omega arith)

  pub even_behind : nat_eq (closing / 2 ^ 63) 1 ≡ even_at Q o e 64
  even_behind = top_bit closing (omega (arith, q_lt, and_le_l Q inside)) ∙ has-closing 63 (omega arith)

-- the lowest bit of a word that is not 0
pub lowest-test : (E : ℕ) → 0 < E → E < 2 ^ 64 → (count_trailing_zeros 64 E < 64) × (test E (count_trailing_zeros 64 E) ≡ true) × ((k : ℕ) → k < count_trailing_zeros 64 E → test E k ≡ false)
unfolding test
lowest-test E some small =
    let h = bit_at-trailing_zeros w64 E some small in
    (h.0, ap (λ n. n == 1) h.1, λ k l. ap (λ n. n == 1) (h.2 k l))
