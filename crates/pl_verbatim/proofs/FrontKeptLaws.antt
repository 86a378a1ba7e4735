-- The front of a block stays while something is put behind it.
use Rattle.std.proofs.Common.{◌≡◌, ℕ, ◌+◌, ◌-◌, ◌≤◌, List, ◌++◌, length, take, drop, sym, ◌∙◌, ap, arith, length-append}
use Rattle.std.proofs.lemmas.List.{length-take-le, take-take}
use Rattle.std.proofs.Math.Seq.{take-append_seam, take-append-add}
use Rattle.std.specs.List.{slice_range}

-- a shorter front
pub front-shorter : (n m : ℕ) (xs ys : List ℕ) → n ≤ m → take m xs ≡ take m ys → take n xs ≡ take n ys
front-shorter n m xs ys few same = sym (take-take n m xs few) ∙ ap (take n) same ∙ take-take n m ys few

-- what was put stands behind it
pub put-behind : (place end : ℕ) (old now written : List ℕ) → place ≤ length old → end ≤ length now → take end now ≡ take place old ++ written → place ≤ end
put-behind place end old now written low high is =
    omega (arith, ap length is, length-append (take place old) written, length-take-le place old low, length-take-le end now high)

-- so it stays
pub front-kept : (place end : ℕ) (old now written : List ℕ) → place ≤ length old → end ≤ length now → take end now ≡ take place old ++ written → take place now ≡ take place old
front-kept place end old now written low high is =
    let long : length (take place old) ≡ place = length-take-le place old low in
    sym (take-take place end now (put-behind place end old now written low high is)) ∙ ap (take place) is ∙ ap (λ n. take n (take place old ++ written)) (sym long) ∙ take-append_seam (take place old) written

-- the first bytes of what was put
pub put-first : (place n end : ℕ) (old now bytes : List ℕ) → place ≤ length old → place + n ≤ end → take end now ≡ take place old ++ bytes → take (place + n) now ≡ take place old ++ take n bytes
put-first place n end old now bytes low few is =
    let long : place ≡ length (take place old) = sym (length-take-le place old low) in
    sym (take-take (place + n) end now few) ∙ ap (take (place + n)) is ∙ ap (λ k. take (k + n) (take place old ++ bytes)) long ∙ take-append-add (take place old) bytes n

-- the first bytes of what stands from a place on
pub slice-first : (text : List ℕ) (from to m : ℕ) → to - from ≤ m → take (to - from) (slice_range text from (from + m)) ≡ slice_range text from to
slice-first text from to m few =
    let same : from + m - from ≡ m = omega arith in
    ap (λ n. take (to - from) (take n (drop from text))) same ∙ take-take (to - from) m (drop from text) few
