-- Numbers one behind the other.
use Rattle.std.proofs.Common.{◌≡◌, ℕ, zero, suc, ◌+◌, ◌*◌, ◌/◌, ◌^◌, ◌<◌, ◌≤◌, Bool, true, false, cond, ltb, inl, inr, List, [], ◌∷◌, ◌++◌, length, slice_index, ◌↔◌, take, drop, Some, None, refl, sym, ap, subst, ◌∙◌, append_assoc, arith}
use Rattle.std.specs.Int.{w64, from_be_bytes}
use Rattle.std.specs.List.{flat_map, AllByRecursion}
use Rattle.std.proofs.lemmas.List.{take_at, drop_at, take-append-drop, length-append, length-take, length-drop, nil_from_length}
use Rattle.std.proofs.lemmas.Bool.{cases_lt, ltb-false, le-ltb}
use Rattle.std.proofs.lemmas.List.Concat.{flat_map-cons}
use Rattle.std.proofs.lemmas.Nat.{from_be_bytes-to_be_bytes_8}
use Rattle.pl_seek.specs.Index.{number_bytes, AreRising}
use Rattle.pl_seek.specs.Reading.{number_at, numbers_in}
use Rattle.pl_seek.proofs.Fields.{AreBytes, AreBytes-drop, AreBytes-take, number_is, guard_some}

cond_none : {A : Type 0} (b : Bool) (x : A) → b ≡ false → cond b None (Some x) ≡ None → ⊥
cond_none true x f e = absurd cc
cond_none false x f e = cc

pub length_numbers_in : (n : ℕ) (bytes : List ℕ) → length (numbers_in n bytes) ≡ n
length_numbers_in zero bytes = refl
length_numbers_in (suc n) bytes = let e = length_numbers_in n (drop 8 bytes) in omega (arith, e)

-- numbers that are read are written so
pub numbers_take : (n : ℕ) (bytes : List ℕ) → AreBytes bytes → length bytes ≡ 8 * n → (flat_map number_bytes (numbers_in n bytes) ≡ bytes) × AllByRecursion (λ k. k < 2 ^ 64) (numbers_in n bytes)
numbers_take zero bytes fits len = (sym (nil_from_length bytes (omega arith)), tt)
numbers_take (suc n) bytes fits len =
    let long : 8 ≤ length bytes = omega arith in
    let rest = numbers_take n (drop 8 bytes) (AreBytes-drop 8 bytes fits) (omega (arith, length-drop 8 bytes)) in
    let first = number_is (take 8 bytes) (omega (arith, length-take 8 bytes)) (AreBytes-take 8 bytes fits) in
    let first_is : number_bytes (from_be_bytes w64 (take 8 bytes)) ++ flat_map number_bytes (numbers_in n (drop 8 bytes)) ≡ bytes =
    ap (λ (t : List ℕ). t ++ flat_map number_bytes (numbers_in n (drop 8 bytes))) first.0 ∙ ap (λ (t : List ℕ). take 8 bytes ++ t) rest.0 ∙ take-append-drop 8 bytes in
    (flat_map-cons number_bytes (from_be_bytes w64 (take 8 bytes)) (numbers_in n (drop 8 bytes)) ∙ first_is, (first.1, rest.1))

pub length-numbers : (ns : List ℕ) → length (flat_map number_bytes ns) ≡ 8 * length ns
length-numbers [] = refl
length-numbers (n ∷ ns) =
    let e = length-numbers ns in
    ap length (flat_map-cons number_bytes n ns) ∙ omega (arith, e, length-append (number_bytes n) (flat_map number_bytes ns))

numbers_front : (m : ℕ) (front rest : List ℕ) → length front ≡ 8 → numbers_in (suc m) (front ++ rest) ≡ from_be_bytes w64 front ∷ numbers_in m rest
numbers_front m front rest len = rw (take_at front rest 8 len, drop_at front rest 8 len) refl

-- numbers that are written are read again
pub numbers_again : (ns : List ℕ) → AllByRecursion (λ k. k < 2 ^ 64) ns → numbers_in (length ns) (flat_map number_bytes ns) ≡ ns
numbers_again [] fits = refl
numbers_again (n ∷ ns) fits =
    ap (numbers_in (suc (length ns))) (flat_map-cons number_bytes n ns)
    ∙ numbers_front (length ns) (number_bytes n) (flat_map number_bytes ns) refl
    ∙ ap (λ (k : ℕ). k ∷ numbers_in (length ns) (flat_map number_bytes ns)) (from_be_bytes-to_be_bytes_8 n fits.0)
    ∙ ap (λ (ks : List ℕ). n ∷ ks) (numbers_again ns fits.1)

-- the first number, where there is one
pub numbers_step : (bytes : List ℕ) (number : ℕ) (after : List ℕ) → number_at bytes ≡ Some (number, after)
    → (numbers_in (length bytes / 8) bytes ≡ number ∷ numbers_in (length after / 8) after) × (length after / 8 + 1 ≡ length bytes / 8) × (length after < length bytes)
numbers_step bytes number after e =
    let g = guard_some (ltb (length bytes) 8) (from_be_bytes w64 (take 8 bytes), drop 8 bytes) (number, after) e in
    let long : 8 ≤ length bytes = ltb-false _ _ g.0 in
    let number_is : from_be_bytes w64 (take 8 bytes) ≡ number = ap (λ (x : ℕ × List ℕ). x.0) g.1 in
    let after_is : drop 8 bytes ≡ after = ap (λ (x : ℕ × List ℕ). x.1) g.1 in
    let count : length bytes / 8 ≡ suc (length (drop 8 bytes) / 8) = omega (arith, length-drop 8 bytes) in
    let len : length (drop 8 bytes) ≡ length after = ap length after_is in
    (ap (λ (k : ℕ). numbers_in k bytes) count ∙ rw (number_is, after_is) refl, omega (arith, length-drop 8 bytes, len), omega (arith, length-drop 8 bytes, len))

-- and no number where there are fewer bytes than one has
pub numbers_none : (bytes : List ℕ) → number_at bytes ≡ None → numbers_in (length bytes / 8) bytes ≡ []
numbers_none bytes e =
    let short : length bytes < 8 = elim (cases_lt (length bytes) 8) [ inl lt ↦ lt | inr le ↦ absurd (cond_none (ltb (length bytes) 8) (from_be_bytes w64 (take 8 bytes), drop 8 bytes) (le-ltb (length bytes) 8 le) e) ] in
    let none : length bytes / 8 ≡ 0 = omega arith in
    ap (λ (k : ℕ). numbers_in k bytes) none

-- a loop that reads numbers goes on
pub numbers_more : (done bytes : List ℕ) (number : ℕ) (after total : List ℕ) → number_at bytes ≡ Some (number, after)
    → done ++ numbers_in (length bytes / 8) bytes ≡ total → (done ++ number ∷ []) ++ numbers_in (length after / 8) after ≡ total
numbers_more done bytes number after total e so_far =
    append_assoc done (number ∷ []) (numbers_in (length after / 8) after)
    ∙ sym (ap (λ (ns : List ℕ). done ++ ns) (numbers_step bytes number after e).0)
    ∙ so_far

rising_next : (a : ℕ) (ns : List ℕ) → AreRising (a ∷ ns) → AreRising ns
rising_next a ns h k lt =
    let next : suc k + 1 ≡ suc (k + 1) = omega arith in
    subst (λ (j : ℕ). slice_index (a ∷ ns) (suc k) < slice_index (a ∷ ns) j) next (h (suc k) (omega arith))

rising_from : (a b : ℕ) (ns : List ℕ) → a < b → AreRising (b ∷ ns) → AreRising (a ∷ b ∷ ns)
rising_from a b ns first rest zero lt = first
rising_from a b ns first rest (suc k) lt =
    let next : suc (k + 1) ≡ suc k + 1 = omega arith in
    subst (λ (j : ℕ). slice_index (b ∷ ns) k < slice_index (a ∷ b ∷ ns) j) next (rest k (omega arith))

-- numbers rise if the first is below the second, and the rest rises
pub rising_more : (a b : ℕ) (ns : List ℕ) → AreRising (a ∷ b ∷ ns) ↔ ((a < b) × AreRising (b ∷ ns))
rising_more a b ns = (λ h. (h 0 (omega arith), λ k lt. rising_next a (b ∷ ns) h k lt), λ h k lt. rising_from a b ns h.0 h.1 k lt)

pub rising_one : (a : ℕ) → AreRising (a ∷ [])
rising_one a = λ k lt. absurd (omega arith)
