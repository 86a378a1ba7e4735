-- What the words of a block tell of the ends of records.
use Rattle.std.proofs.Common.{◌≡◌, ℕ, zero, suc, ◌+◌, ◌*◌, ◌/◌, ◌^◌, ◌<◌, Bool, true, false, not, ◌&&◌, ◌||◌, refl, sym, ap, ap₂, ◌∙◌, arith, add-one, mod-lt, pow_pos}
use Rattle.std.specs.Prelude.{nat_eq}
use lib.Bits.{bit_and, bit_or, and_le_l, or_lt}
use mir.Val.{bool_byte}
use Rattle.pl_scan.specs.Bits.{test, odd_at}
use Rattle.pl_scan.proofs.BitLaws.{test-none, test-and, test-or, flip, test-flip, shl, test-shl_one, test-shl_low, byte_lt, test-byte_zero, test-byte_suc, top_bit}
use Rattle.pl_seek.specs.RecordEnds.{may_open}

or-false : (b : Bool) → (b || false) ≡ b
or-false true = refl
or-false false = refl

-- a quote that would be an odd one is known to be counted
open-known : (q t o : Bool) → (q && t && not o) ≡ false → q ≡ true → t ≡ true → o ≡ true
open-known true true true h _ _ = refl
open-known true true false h _ _ = absurd (cc)
open-known true false o h _ e = absurd (cc)
open-known false t o h e _ = absurd (cc)

module _ (S E K through : ℕ) (o f : Bool) (s_lt : S < 2 ^ 64) (k_lt : K < 2 ^ 64) (through_lt : through < 2 ^ 64) (told : (i : ℕ) → i < 64 → test through i ≡ odd_at K o (i + 1)) where
  abbrev fresh : ℕ
  fresh = bit_and (bit_or S K) (flip through)

  abbrev opens : ℕ
  opens = bit_or (shl 1 fresh) (bool_byte f)

  has-through : (i : ℕ) → i < 64 → test through i ≡ odd_at K o (suc i)
  has-through i h = told i h ∙ ap (odd_at K o) (add-one i)

  outside : (i : ℕ) → i < 64 → test (flip through) i ≡ not (odd_at K o (suc i))
  outside i h = test-flip through i through_lt h ∙ ap not (has-through i h)

  has-fresh : (i : ℕ) → i < 64 → test fresh i ≡ may_open S K o f (suc i)
  has-fresh i h = test-and (bit_or S K) (flip through) i ∙ ap₂ (λ x y. x && y) (test-or S K i) (outside i h)

  has-opens : (i : ℕ) → i < 64 → test opens i ≡ may_open S K o f i
  has-opens zero h = test-or (shl 1 fresh) (bool_byte f) 0 ∙ ap₂ (λ x y. x || y) (test-shl_low 1 0 fresh (omega arith) h) (test-byte_zero f)
  has-opens (suc i) h = test-or (shl 1 fresh) (bool_byte f) (suc i) ∙ ap₂ (λ x y. x || y) (test-shl_one i fresh h) (test-byte_suc f i (omega arith)) ∙ or-false _ ∙ has-fresh i (omega arith)

  opens_lt : opens < 2 ^ 64
  opens_lt = or_lt 64 (shl 1 fresh) (bool_byte f) (mod-lt (fresh * 2) (pow_pos 64)) (byte_lt f)

  pub known : bit_and (bit_and K through) (flip opens) ≡ 0 → (i : ℕ) → i < 64 → test K i ≡ true → odd_at K o (suc i) ≡ true → may_open S K o f i ≡ true
  known none i h quote odd =
      let here : (test K i && test through i && not (may_open S K o f i)) ≡ false =
      sym (test-and (bit_and K through) (flip opens) i ∙ ap₂ (λ x y. x && y) (test-and K through i) (test-flip opens i opens_lt h ∙ ap not (has-opens i h))) ∙ ap (λ n. test n i) none ∙ test-none i in
      open-known (test K i) (test through i) (may_open S K o f i) here quote (has-through i h ∙ odd)

  pub ends : (i : ℕ) → i < 64 → test (bit_and E (flip through)) i ≡ (test E i && not (odd_at K o (suc i)))
  ends i h = test-and E (flip through) i ∙ ap (λ t. test E i && t) (outside i h)

  pub odd : nat_eq (through / 2 ^ 63) 1 ≡ odd_at K o 64
  odd = top_bit through through_lt ∙ has-through 63 (omega arith)

  pub fresh_behind : nat_eq (fresh / 2 ^ 63) 1 ≡ may_open S K o f 64
  fresh_behind = top_bit fresh (omega (arith, or_lt 64 S K s_lt k_lt, and_le_l (bit_or S K) (flip through))) ∙ has-fresh 63 (omega arith)
