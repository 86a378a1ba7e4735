-- Writing past the last bit leaves what is counted as it is.
use Rattle.std.proofs.Common.{◌≡◌, ℕ, ◌+◌, ◌-◌, ◌%◌, ◌^◌, ◌<◌, ◌≤◌, ◌⊎◌, inl, inr, List, [], ◌∷◌, ◌++◌, length, take, slice_set, sym, ap, ◌∙◌, arith}
use Rattle.std.proofs.lemmas.List.{take_more_set, append_assoc, append-nil, take-take, take-append-le, take_at, length-take-le}
use Rattle.std.proofs.lemmas.Bool.{cases_lt}
use lib.Bits.{bit_and}
use lib.Count.{count_trailing_zeros}
use Rattle.pl_scan.specs.Bits.{set_bits}
use Rattle.pl_table.specs.Entries.{counts, Written}
use Rattle.pl_scan.proofs.SetBitLaws.{set_bits-zero}
use Rattle.pl_table.proofs.EntryLaws.{set_bits-lowest, counts-zero}

-- without the lowest bit, as the code takes it out
abbrev pub cleared : ℕ → ℕ
cleared bits = bit_and bits ((bits + (2 ^ 64 - 1)) % 2 ^ 64)

-- one more is written: what the lowest bit gives, or junk
pub put : (want out : List ℕ) (at next value bits less : ℕ) (left rest : List ℕ) → next ≡ at + 1 → at < length out
    → (0 < bits → left ≡ value ∷ rest) → (bits ≤ 0 → (left ≡ []) × (rest ≡ []) × (less ≡ 0))
    → Written want out at left bits → Written want (slice_set out at value) next rest less
put want out at next value bits less left rest e room more done w = go (cases_lt 0 bits)
  where
    stored : take next (slice_set out at value) ≡ take at out ++ value ∷ []
    stored = ap (λ n. take n (slice_set out at value)) e ∙ take_more_set out at value room

    go : (0 < bits) ⊎ (bits ≤ 0) → Written want (slice_set out at value) next rest less
    go (inl some) = (
      w.0,
      ap (λ (l : List ℕ). l ++ rest) stored ∙ append_assoc (take at out) (value ∷ []) rest ∙ ap (λ (l : List ℕ). take at out ++ l) (sym (more some)) ∙ w.1,
      λ h. w.2 some,
    )
    go (inr none) =
        let d = done none in
        let before : take at out ≡ want ++ w.0 = sym (append-nil (take at out)) ∙ ap (λ (l : List ℕ). take at out ++ l) (sym d.0) ∙ w.1 in (
          w.0 ++ (value ∷ []),
          ap (λ (l : List ℕ). take next (slice_set out at value) ++ l) d.1 ∙ append-nil (take next (slice_set out at value)) ∙ stored ∙ ap (λ (l : List ℕ). l ++ (value ∷ [])) before ∙ append_assoc want w.0 (value ∷ []),
          λ h. (let no : ⊥ = omega (arith, d.2) in absurd no),
        )

pub put-place : (want : List ℕ) (base : ℕ) (out : List ℕ) (at next bits : ℕ) → next ≡ at + 1 → at < length out → bits < 2 ^ 64
    → Written want out at (set_bits 64 base bits) bits → Written want (slice_set out at (base + count_trailing_zeros 64 bits)) next (set_bits 64 base (cleared bits)) (cleared bits)
put-place want base out at next bits e room small w =
    put want out at next (base + count_trailing_zeros 64 bits) bits (cleared bits) (set_bits 64 base bits) (set_bits 64 base (cleared bits)) e room
    (λ some. let less : bits - 1 ≡ (bits + (2 ^ 64 - 1)) % 2 ^ 64 = omega arith in set_bits-lowest 64 base bits some small ∙ ap (λ n. (base + count_trailing_zeros 64 bits) ∷ set_bits 64 base (bit_and bits n)) less)
    (λ none. let z : bits ≡ 0 = omega arith in let c : cleared bits ≡ 0 = ap cleared z in (ap (set_bits 64 base) z ∙ set_bits-zero 64 base, ap (set_bits 64 base) c ∙ set_bits-zero 64 base, c))
    w

pub put-count : (want : List ℕ) (before ends : ℕ) (out : List ℕ) (at value bits : ℕ) → at < length out → bits < 2 ^ 64
    → (0 < bits → counts 64 before ends bits ≡ value ∷ counts 64 before ends (bit_and bits (bits - 1)))
    → Written want out at (counts 64 before ends bits) bits → Written want (slice_set out at value) (at + 1) (counts 64 before ends (cleared bits)) (cleared bits)
put-count want before ends out at value bits room small first w =
    put want out at (at + 1) value bits (cleared bits) (counts 64 before ends bits) (counts 64 before ends (cleared bits)) (omega arith) room
    (λ some. let less : bits - 1 ≡ (bits + (2 ^ 64 - 1)) % 2 ^ 64 = omega arith in first some ∙ ap (λ n. value ∷ counts 64 before ends (bit_and bits n)) less)
    (λ none. let z : bits ≡ 0 = omega arith in let c : cleared bits ≡ 0 = ap cleared z in (ap (counts 64 before ends) z ∙ counts-zero 64 before ends, ap (counts 64 before ends) c ∙ counts-zero 64 before ends, c))
    w

-- what is counted
pub counted : (want : List ℕ) (out : List ℕ) (at n bits : ℕ) (left : List ℕ) → length want ≡ n → n ≤ at → at ≤ length out → Written want out at left bits → take n out ≡ want
counted want out at n bits left long le room w =
    sym (take-take n at out le) ∙ sym (take-append-le n (take at out) left (omega (arith, length-take-le at out room))) ∙ ap (take n) w.1 ∙ take_at want w.0 n long
