-- Laws of values with flags beside them, as far as flags are kept.
use Rattle.std.proofs.Common.{◌≡◌, ℕ, ℤ, suc, zero, ◌+◌, ◌-◌, ◌<◌, ◌≤◌, Bool, true, false, not, cond, if◌then◌else◌, List, [], ◌∷◌, ◌++◌, length, map, take, drop, get_or, replicate, slice_get, Option, None, Some, is_none, count_by, refl, sym, ◌∙◌, ap, arith}
use Rattle.std.specs.Option.{option_map}
use Rattle.std.proofs.lemmas.List.{length-append, length-drop, length-map, take-map, drop-map, length-replicate, length-take}
use Rattle.std.proofs.lemmas.List.Sums.{sum_by-cons}
use Rattle.pl_frame.specs.Flags.{filled, flags_behind, marked}
use Rattle.pl_frame.specs.Frame.{Scalar, Number}

pub length-marked : {X : Type 0} (xs : List X) (flags : List Bool) → length (marked xs flags) ≡ length xs
length-marked [] flags = refl
length-marked (x ∷ xs) [] = ap suc (length-marked xs [])
length-marked (x ∷ xs) (f ∷ fs) = ap suc (length-marked xs fs)

pub marked-value : {X : Type 0} (xs : List X) (flags : List Bool) (x : X) → length flags ≤ length xs → marked (xs ++ x ∷ []) flags ≡ marked xs flags ++ Some x ∷ []
marked-value [] [] y h = refl
marked-value [] (f ∷ fs) y h = absurd (omega arith)
marked-value (x ∷ xs) [] y h = ap (λ rest. Some x ∷ rest) (marked-value xs [] y (omega arith))
marked-value (x ∷ xs) (f ∷ fs) y h = ap (λ rest. (if f then Some x else None) ∷ rest) (marked-value xs fs y (omega arith))

pub marked-append : {X : Type 0} (xs ys : List X) (fs gs : List Bool) → length fs ≡ length xs → marked (xs ++ ys) (fs ++ gs) ≡ marked xs fs ++ marked ys gs
marked-append [] ys [] gs h = refl
marked-append [] ys (f ∷ fs) gs h = absurd (omega arith)
marked-append (x ∷ xs) ys [] gs h = absurd (omega arith)
marked-append (x ∷ xs) ys (f ∷ fs) gs h = ap (λ rest. (if f then Some x else None) ∷ rest) (marked-append xs ys fs gs (omega arith))

pub marked-append_values : {X : Type 0} (xs ys : List X) (fs : List Bool) → length fs ≤ length xs → marked (xs ++ ys) fs ≡ marked xs fs ++ marked ys []
marked-append_values [] ys [] h = refl
marked-append_values [] ys (f ∷ fs) h = absurd (omega arith)
marked-append_values (x ∷ xs) ys [] h = ap (λ rest. Some x ∷ rest) (marked-append_values xs ys [] (omega arith))
marked-append_values (x ∷ xs) ys (f ∷ fs) h = ap (λ rest. (if f then Some x else None) ∷ rest) (marked-append_values xs ys fs (omega arith))

pub marked-append_unmarked : {X : Type 0} (xs ys : List X) (fs gs : List Bool) → length fs ≤ length xs → length gs ≡ 0 → marked (xs ++ ys) fs ≡ marked xs fs ++ marked ys gs
marked-append_unmarked xs ys fs [] h none = marked-append_values xs ys fs h
marked-append_unmarked xs ys fs (g ∷ gs) h none = absurd (omega (arith, none))

pub marked-null : {X : Type 0} (xs : List X) (flags : List Bool) (x : X) → length flags ≡ length xs → marked (xs ++ x ∷ []) (flags ++ false ∷ []) ≡ marked xs flags ++ None ∷ []
marked-null xs flags x h = marked-append xs (x ∷ []) flags (false ∷ []) h

marked-take_values : {X : Type 0} (n : ℕ) (xs : List X) → marked (take n xs) [] ≡ take n (marked xs [])
marked-take_values zero xs = refl
marked-take_values (suc n) [] = refl
marked-take_values (suc n) (x ∷ xs) = ap (λ rest. Some x ∷ rest) (marked-take_values n xs)

pub marked-take : {X : Type 0} (n : ℕ) (xs : List X) (flags : List Bool) → marked (take n xs) (take n flags) ≡ take n (marked xs flags)
marked-take zero xs flags = refl
marked-take (suc n) [] flags = refl
marked-take (suc n) (x ∷ xs) [] = ap (λ rest. Some x ∷ rest) (marked-take_values n xs)
marked-take (suc n) (x ∷ xs) (f ∷ fs) = ap (λ rest. (if f then Some x else None) ∷ rest) (marked-take n xs fs)

pub length-take-le : {X Y : Type 0} (n : ℕ) (xs : List X) (ys : List Y) → length xs ≤ length ys → length (take n xs) ≤ length (take n ys)
length-take-le zero xs ys h = omega arith
length-take-le (suc n) [] ys h = omega arith
length-take-le (suc n) (x ∷ xs) [] h = absurd (omega arith)
length-take-le (suc n) (x ∷ xs) (y ∷ ys) h = let deeper = length-take-le n xs ys (omega arith) in omega (arith, deeper)

pub length-filled : (n : ℕ) (flags : List Bool) → length flags ≤ n → length (filled n flags) ≡ n
length-filled n flags h = omega (arith, h, length-append (take n flags) (replicate (n - length flags) true), length-replicate (n - length flags) true, length-take n flags)

marked-set : {X : Type 0} (xs : List X) → marked xs (replicate (length xs) true) ≡ marked xs []
marked-set [] = refl
marked-set (x ∷ xs) = ap (λ rest. Some x ∷ rest) (marked-set xs)

-- they change nothing
pub marked-filled : {X : Type 0} (xs : List X) (flags : List Bool) → length flags ≤ length xs → marked xs (filled (length xs) flags) ≡ marked xs flags
marked-filled [] [] h = refl
marked-filled [] (f ∷ fs) h = absurd (omega arith)
marked-filled (x ∷ xs) [] h =
    let all : length (x ∷ xs) - 0 ≡ length (x ∷ xs) = omega arith in
    ap (λ n. marked (x ∷ xs) (replicate n true)) all ∙ marked-set (x ∷ xs)
marked-filled (x ∷ xs) (f ∷ fs) h =
    let left : length (x ∷ xs) - length (f ∷ fs) ≡ length xs - length fs = omega arith in
    ap (λ n. (if f then Some x else None) ∷ marked xs (take (length xs) fs ++ replicate n true)) left
    ∙ ap (λ rest. (if f then Some x else None) ∷ rest) (marked-filled xs fs (omega arith))

pub slice_get-marked_value : {X : Type 0} (xs : List X) (flags : List Bool) (i : ℕ) (x : X) (f : Bool) → i < length xs → i < length flags → x ≡ get_or xs i x → f ≡ get_or flags i f → f ≡ true
    → slice_get (marked xs flags) i ≡ Some (Some x)
slice_get-marked_value [] flags i x f h l a b t = absurd (omega arith)
slice_get-marked_value (y ∷ ys) [] i x f h l a b t = absurd (omega arith)
slice_get-marked_value (y ∷ ys) (g ∷ gs) zero x f h l a b t = let same : g ≡ true = sym b ∙ t in rw (same, ← a) refl
slice_get-marked_value (y ∷ ys) (g ∷ gs) (suc i) x f h l a b t = slice_get-marked_value ys gs i x f (omega arith) (omega arith) a b t

pub slice_get-marked_null : {X : Type 0} (xs : List X) (flags : List Bool) (i : ℕ) (f : Bool) → i < length xs → i < length flags → f ≡ get_or flags i f → f ≡ false
    → slice_get (marked xs flags) i ≡ Some None
slice_get-marked_null [] flags i f h l b t = absurd (omega arith)
slice_get-marked_null (y ∷ ys) [] i f h l b t = absurd (omega arith)
slice_get-marked_null (y ∷ ys) (g ∷ gs) zero f h l b t = let same : g ≡ false = sym b ∙ t in rw same refl
slice_get-marked_null (y ∷ ys) (g ∷ gs) (suc i) f h l b t = slice_get-marked_null ys gs i f (omega arith) (omega arith) b t

pub slice_get-marked_past : {X : Type 0} (xs : List X) (flags : List Bool) (i : ℕ) (x : X) → i < length xs → length flags ≤ i → x ≡ get_or xs i x → slice_get (marked xs flags) i ≡ Some (Some x)
slice_get-marked_past [] flags i x h l a = absurd (omega arith)
slice_get-marked_past (y ∷ ys) [] zero x h l a = ap (λ z. Some (Some z)) (sym a)
slice_get-marked_past (y ∷ ys) [] (suc i) x h l a = slice_get-marked_past ys [] i x (omega arith) (omega arith) a
slice_get-marked_past (y ∷ ys) (g ∷ gs) zero x h l a = absurd (omega arith)
slice_get-marked_past (y ∷ ys) (g ∷ gs) (suc i) x h l a = slice_get-marked_past ys gs i x (omega arith) (omega arith) a

-- one step of the count of nulls
null_step : {X : Type 0} (x : X) (f : Bool) (n m : ℕ) → n ≡ m → cond (is_none (if f then Some x else None)) 1 0 + n ≡ cond (not f) 1 0 + m
null_step x true n m h = ap (λ k. 0 + k) h
null_step x false n m h = ap (λ k. 1 + k) h

-- the nulls are the flags that are not set
pub nulls-marked : {X : Type 0} (xs : List X) (flags : List Bool) → length flags ≤ length xs → count_by is_none (marked xs flags) ≡ count_by not flags
nulls-marked [] [] h = refl
nulls-marked [] (f ∷ fs) h = absurd (omega arith)
nulls-marked {X} (x ∷ xs) [] h = sum_by-cons (λ (o : Option X). cond (is_none o) 1 0) (Some x) (marked xs []) ∙ ap (λ k. 0 + k) (nulls-marked xs [] (omega arith))
nulls-marked {X} (x ∷ xs) (f ∷ fs) h =
    sum_by-cons (λ (o : Option X). cond (is_none o) 1 0) (if f then Some x else None) (marked xs fs)
    ∙ (null_step x f _ _ (nulls-marked xs fs (omega arith)) ∙ sym (sum_by-cons (λ b. cond (not b) 1 0) f fs))

-- ---- runs of values

pub marked-drop : {X : Type 0} (n : ℕ) (xs : List X) (flags : List Bool) → marked (drop n xs) (drop n flags) ≡ drop n (marked xs flags)
marked-drop zero xs flags = refl
marked-drop (suc n) [] flags = refl
marked-drop (suc n) (x ∷ xs) [] = none n xs
  where
    none : {X : Type 0} (n : ℕ) (xs : List X) → marked (drop n xs) [] ≡ drop n (marked xs [])
    none zero xs = refl
    none (suc n) [] = refl
    none (suc n) (x ∷ xs) = none n xs
marked-drop (suc n) (x ∷ xs) (f ∷ fs) = marked-drop n xs fs

pub marked-map : {X Y : Type 0} (f : X → Y) (xs : List X) (flags : List Bool) → map (option_map f) (marked xs flags) ≡ marked (map f xs) flags
marked-map f [] flags = refl
marked-map f (x ∷ xs) [] = ap (λ rest. Some (f x) ∷ rest) (marked-map f xs [])
marked-map f (x ∷ xs) (true ∷ fs) = ap (λ rest. Some (f x) ∷ rest) (marked-map f xs fs)
marked-map f (x ∷ xs) (false ∷ fs) = ap (λ rest. None ∷ rest) (marked-map f xs fs)

marked-behind : {X : Type 0} (xs ys : List X) (fs gs : List Bool) → length fs ≤ length xs → marked (xs ++ ys) (flags_behind fs (length xs) gs) ≡ marked xs fs ++ marked ys gs
marked-behind xs ys fs [] h = marked-append_values xs ys fs h
marked-behind xs ys fs (g ∷ gs) h =
    marked-append xs ys (filled (length xs) fs) (g ∷ gs) (length-filled (length xs) fs h) ∙ ap (λ rest. rest ++ marked ys (g ∷ gs)) (marked-filled xs fs h)

-- the values from one place up to another behind others
pub marked-run : {X : Type 0} (xs ys : List X) (fs gs : List Bool) (n from : ℕ) → length fs ≤ length xs →
    marked (xs ++ take n (drop from ys)) (flags_behind fs (length xs) (take n (drop from gs))) ≡ marked xs fs ++ take n (drop from (marked ys gs))
marked-run xs ys fs gs n from h =
    marked-behind xs (take n (drop from ys)) fs (take n (drop from gs)) h
    ∙ ap (λ rest. marked xs fs ++ rest) (marked-take n (drop from ys) (drop from gs) ∙ ap (take n) (marked-drop from ys gs))

pub length-behind : (fs gs : List Bool) (n m : ℕ) → length fs ≤ n → length gs ≤ m → length (flags_behind fs n gs) ≤ n + m
length-behind fs [] n m h l = omega arith
length-behind fs (g ∷ gs) n m h l =
    let all = length-append (filled n fs) (g ∷ gs) in let first = length-filled n fs h in omega (arith, all, first, l)

pub length-run : {X : Type 0} (n from : ℕ) (ys : List X) (gs : List Bool) → length gs ≤ length ys → length (take n (drop from gs)) ≤ length (take n (drop from ys))
length-run n from ys gs h = length-take-le n (drop from gs) (drop from ys) (let a = length-drop from gs in let b = length-drop from ys in omega (arith, a, b, h))

-- the same of numbers that become wider
pub widened-run : {X : Type 0} (f : X → Scalar) (xs new : List ℤ) (ys : List X) (fs gs flags : List Bool) (n from : ℕ) → length fs ≤ length xs →
    map Number new ≡ map Number xs ++ map f (take n (drop from ys)) → flags ≡ flags_behind fs (length xs) (take n (drop from gs)) →
    map (option_map Number) (marked new flags) ≡ map (option_map Number) (marked xs fs) ++ take n (drop from (map (option_map f) (marked ys gs)))
widened-run f xs new ys fs gs flags n from h e are =
    let size : length (map Number xs) ≡ length xs = length-map xs Number in
    let moved : map f (take n (drop from ys)) ≡ take n (drop from (map f ys)) = sym (take-map f n (drop from ys)) ∙ ap (take n) (sym (drop-map f from ys)) in
    marked-map Number new flags
    ∙ (λ j. marked ((e ∙ ap (λ zs. map Number xs ++ zs) moved) j) ((are ∙ ap (λ k. flags_behind fs k (take n (drop from gs))) (sym size)) j))
    ∙ marked-run (map Number xs) (map f ys) fs gs n from (omega (arith, size, h))
    ∙ (λ j. sym (marked-map Number xs fs) j ++ take n (drop from (sym (marked-map f ys gs) j)))

pub length-widened : {X : Type 0} (f : X → Scalar) (xs new : List ℤ) (zs : List X) → map Number new ≡ map Number xs ++ map f zs → length new ≡ length xs + length zs
length-widened f xs new zs e =
    let a = length-map new Number in let b = length-map xs Number in let c = length-map zs f in let d = length-append (map Number xs) (map f zs) in let all = ap length e in
    omega (arith, a, b, c, d, all)

pub ruleset marks = (length-marked, marked-value, marked-append, marked-append_unmarked, marked-null, marked-take, length-take-le, length-filled, marked-filled, slice_get-marked_value, slice_get-marked_null, slice_get-marked_past, nulls-marked)
