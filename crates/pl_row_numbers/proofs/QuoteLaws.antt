-- How quotes and line feeds stand in texts that are put together.
use Rattle.std.proofs.Common.{◌≡◌, ℕ, Bool, true, false, not, ◌&&◌, ◌||◌, ◌==◌, cond, List, [], ◌∷◌, ◌++◌, refl, sym, ◌∙◌, ap, subst}
use Rattle.std.specs.List.{list_any}
use Rattle.pl_scan.specs.Bits.{xor}
use Rattle.pl_text.specs.FrameText.{doubled, quoted}
use Rattle.pl_row_numbers.specs.Numbers.{is_mark, IsPlain}
use Rattle.pl_row_numbers.specs.Parts.{odd_behind, is_end, has_no_end, Goes}

pub either_false : (a b : Bool) → (a || b) ≡ false → (a ≡ false) × (b ≡ false)
either_false true b h = cc
either_false false b h = (refl, h)

pub both_true : (a b : Bool) → (a && b) ≡ true → (a ≡ true) × (b ≡ true)
both_true true b h = (refl, h)
both_true false b h = cc

pub not_true : (t : Bool) → not t ≡ true → t ≡ false
not_true true h = cc
not_true false h = refl

pub and_false : (t : Bool) → (t && false) ≡ false
and_false true = refl
and_false false = refl

and_both : (a b c : Bool) → (a && (b && c)) ≡ ((a && b) && c)
and_both true b c = refl
and_both false b c = refl

pub odd_behind-append : (odd : Bool) (xs ys : List ℕ) → odd_behind odd (xs ++ ys) ≡ odd_behind (odd_behind odd xs) ys
odd_behind-append odd [] ys = refl
odd_behind-append odd (x ∷ xs) ys = odd_behind-append (xor (x == 34) odd) xs ys

has_no_end-append : (odd : Bool) (xs ys : List ℕ) → has_no_end odd (xs ++ ys) ≡ (has_no_end odd xs && has_no_end (odd_behind odd xs) ys)
has_no_end-append odd [] ys = refl
has_no_end-append odd (x ∷ xs) ys =
    ap (λ t. not (is_end odd x) && t) (has_no_end-append (xor (x == 34) odd) xs ys)
    ∙ and_both (not (is_end odd x)) (has_no_end (xor (x == 34) odd) xs) (has_no_end (odd_behind (xor (x == 34) odd) xs) ys)

-- two texts one behind the other
pub Goes-append : (odd mid last : Bool) (xs ys : List ℕ) → Goes odd xs mid → Goes mid ys last → Goes odd (xs ++ ys) last
Goes-append odd mid last xs ys first second = record {
  no_end =
      has_no_end-append odd xs ys
      ∙ ap (λ t. t && has_no_end (odd_behind odd xs) ys) first.no_end
      ∙ ap (λ o. has_no_end o ys) first.odd_is
      ∙ second.no_end;
  odd_is = odd_behind-append odd xs ys ∙ ap (λ o. odd_behind o ys) first.odd_is ∙ second.odd_is;
}

-- no bytes
pub Goes-none : (odd : Bool) → Goes odd [] odd
Goes-none odd = record { no_end = refl; odd_is = refl }

-- a byte in front that ends no line
pub Goes-cons : (odd last : Bool) (x : ℕ) (xs : List ℕ) → is_end odd x ≡ false → Goes (xor (x == 34) odd) xs last → Goes odd (x ∷ xs) last
Goes-cons odd last x xs stays rest = record { no_end = ap (λ t. not t && has_no_end (xor (x == 34) odd) xs) stays ∙ rest.no_end; odd_is = rest.odd_is }

-- the first byte ends no line
pub Goes-first : (odd last : Bool) (x : ℕ) (xs : List ℕ) → Goes odd (x ∷ xs) last → (is_end odd x ≡ false) × Goes (xor (x == 34) odd) xs last
Goes-first odd last x xs goes =
    let parts = both_true (not (is_end odd x)) (has_no_end (xor (x == 34) odd) xs) goes.no_end in
    (not_true (is_end odd x) parts.0, record { no_end = parts.1; odd_is = goes.odd_is })

-- a text without quotes and line feeds
pub Goes-plain : (odd : Bool) (text : List ℕ) → IsPlain text → Goes odd text odd
Goes-plain odd [] plain = Goes-none odd
Goes-plain odd (x ∷ xs) plain =
    let parts = either_false (is_mark x) (list_any is_mark xs) plain in
    let marks = either_false (x == 34) (x == 10) parts.0 in
    let same : xor (x == 34) odd ≡ odd = ap (λ t. xor t odd) marks.0 in
    Goes-cons odd odd x xs (ap (λ t. t && not odd) marks.1) (subst (λ o. Goes o xs odd) (sym same) (Goes-plain odd xs parts.1))

-- between quotes
Goes-doubled : (text : List ℕ) → Goes true (doubled 34 text) true
Goes-doubled [] = Goes-none true
Goes-doubled (x ∷ xs) = by (x == 34) refl (Goes-doubled xs)
  where
    by : (t : Bool) → (x == 34) ≡ t → Goes true (doubled 34 xs) true → Goes true (doubled 34 (x ∷ xs)) true
    by true e rest = subst (λ (t : Bool). Goes true (cond t (34 ∷ 34 ∷ []) (x ∷ []) ++ doubled 34 xs) true) (sym e) (record { no_end = rest.no_end; odd_is = rest.odd_is })
    by false e rest =
        let same : xor (x == 34) true ≡ true = ap (λ t. xor t true) e in
        subst (λ (t : Bool). Goes true (cond t (34 ∷ 34 ∷ []) (x ∷ []) ++ doubled 34 xs) true) (sym e) (Goes-cons true true x (doubled 34 xs) (and_false (x == 10)) (subst (λ o. Goes o (doubled 34 xs) true) (sym same) rest))

pub Goes-between : (text : List ℕ) → Goes true text true → Goes false (34 ∷ (text ++ 34 ∷ [])) false
Goes-between text goes = Goes-cons false false 34 (text ++ 34 ∷ []) refl (Goes-append true true false text (34 ∷ []) goes (record { no_end = refl; odd_is = refl }))

pub Goes-quoted : (q : ℕ) (text : List ℕ) → q ≡ 34 → Goes false (quoted q text) false
Goes-quoted q text is = subst (λ q. Goes false (quoted q text) false) (sym is) (Goes-between (doubled 34 text) (Goes-doubled text))
