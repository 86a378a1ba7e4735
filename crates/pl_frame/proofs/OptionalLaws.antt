-- Laws of values with flags beside them, and of texts in one buffer with their ends.
use Rattle.std.proofs.Common.{◌≡◌, ℕ, suc, zero, ◌+◌, ◌-◌, ◌<◌, ◌≤◌, Bool, true, false, not, cond, if◌then◌else◌, List, [], ◌∷◌, ◌++◌, length, take, drop, get_or, slice_get, Option, None, Some, is_none, IsUtf8, count_by, refl, sym, ◌∙◌, ap, subst, arith}
use Rattle.std.specs.List.{AllByRecursion}
use Rattle.std.proofs.lemmas.List.{length-append, length-drop, append-nil, take-append-le, drop-append-le, drop_at, take_all, get_or_default}
use Rattle.std.proofs.lemmas.List.Sums.{sum_by-cons}
use Rattle.std.proofs.lemmas.Option.{get_or_from_slice_get}
use Rattle.std.proofs.lemmas.Str.{IsUtf8-nil}
use Rattle.pl_frame.specs.Optional.{flagged, parts_between, RiseTo, AreTexts}

pub length-flagged : {X : Type 0} (xs : List X) (flags : List Bool) → length xs ≡ length flags → length (flagged xs flags) ≡ length flags
length-flagged [] [] h = refl
length-flagged [] (f ∷ fs) h = absurd (omega arith)
length-flagged (x ∷ xs) [] h = absurd (omega arith)
length-flagged (x ∷ xs) (f ∷ fs) h = ap suc (length-flagged xs fs (omega arith))

pub flagged-push : {X : Type 0} (xs : List X) (flags : List Bool) (x : X) (f : Bool) → length xs ≡ length flags →
    flagged (xs ++ x ∷ []) (flags ++ f ∷ []) ≡ flagged xs flags ++ (if f then Some x else None) ∷ []
flagged-push [] [] y g h = refl
flagged-push [] (f ∷ fs) y g h = absurd (omega arith)
flagged-push (x ∷ xs) [] y g h = absurd (omega arith)
flagged-push (x ∷ xs) (f ∷ fs) y g h = ap (λ rest. (if f then Some x else None) ∷ rest) (flagged-push xs fs y g (omega arith))

pub flagged-take : {X : Type 0} (n : ℕ) (xs : List X) (flags : List Bool) → flagged (take n xs) (take n flags) ≡ take n (flagged xs flags)
flagged-take zero xs flags = refl
flagged-take (suc n) [] flags = refl
flagged-take (suc n) (x ∷ xs) [] = refl
flagged-take (suc n) (x ∷ xs) (f ∷ fs) = ap (λ rest. (if f then Some x else None) ∷ rest) (flagged-take n xs fs)

pub length-take-same : {X Y : Type 0} (n : ℕ) (xs : List X) (ys : List Y) → length xs ≡ length ys → length (take n xs) ≡ length (take n ys)
length-take-same zero xs ys h = refl
length-take-same (suc n) [] [] h = refl
length-take-same (suc n) [] (y ∷ ys) h = absurd (omega arith)
length-take-same (suc n) (x ∷ xs) [] h = absurd (omega arith)
length-take-same (suc n) (x ∷ xs) (y ∷ ys) h = ap suc (length-take-same n xs ys (omega arith))

-- at a place whose flag is set stands the value, and at another none
pub slice_get-flagged_set : {X : Type 0} (xs : List X) (flags : List Bool) (i : ℕ) (x : X) (f : Bool) → length xs ≡ length flags → i < length flags →
    x ≡ get_or xs i x → f ≡ get_or flags i f → f ≡ true → slice_get (flagged xs flags) i ≡ Some (Some x)
slice_get-flagged_set [] flags i x f h l a b t = absurd (omega arith)
slice_get-flagged_set (y ∷ ys) [] i x f h l a b t = absurd (omega arith)
slice_get-flagged_set (y ∷ ys) (g ∷ gs) zero x f h l a b t = let same : g ≡ true = sym b ∙ t in rw (same, ← a) refl
slice_get-flagged_set (y ∷ ys) (g ∷ gs) (suc i) x f h l a b t = slice_get-flagged_set ys gs i x f (omega arith) (omega arith) a b t

pub slice_get-flagged_unset : {X : Type 0} (xs : List X) (flags : List Bool) (i : ℕ) (f : Bool) → length xs ≡ length flags → i < length flags →
    f ≡ get_or flags i f → f ≡ false → slice_get (flagged xs flags) i ≡ Some None
slice_get-flagged_unset [] flags i f h l b t = absurd (omega arith)
slice_get-flagged_unset (y ∷ ys) [] i f h l b t = absurd (omega arith)
slice_get-flagged_unset (y ∷ ys) (g ∷ gs) zero f h l b t = let same : g ≡ false = sym b ∙ t in rw same refl
slice_get-flagged_unset (y ∷ ys) (g ∷ gs) (suc i) f h l b t = slice_get-flagged_unset ys gs i f (omega arith) (omega arith) b t

-- one step of the count of nulls
null_step : {X : Type 0} (x : X) (f : Bool) (n m : ℕ) → n ≡ m → cond (is_none (if f then Some x else None)) 1 0 + n ≡ cond (not f) 1 0 + m
null_step x true n m h = ap (λ k. 0 + k) h
null_step x false n m h = ap (λ k. 1 + k) h

-- the nulls are the flags that are not set
pub nulls-flagged : {X : Type 0} (xs : List X) (flags : List Bool) → length xs ≡ length flags → count_by is_none (flagged xs flags) ≡ count_by not flags
nulls-flagged [] [] h = refl
nulls-flagged [] (f ∷ fs) h = absurd (omega arith)
nulls-flagged (x ∷ xs) [] h = absurd (omega arith)
nulls-flagged {X} (x ∷ xs) (f ∷ fs) h =
    sum_by-cons (λ (o : Option X). cond (is_none o) 1 0) (if f then Some x else None) (flagged xs fs)
    ∙ (null_step x f _ _ (nulls-flagged xs fs (omega arith)) ∙ sym (sum_by-cons (λ b. cond (not b) 1 0) f fs))

pub length-parts_between : (from : ℕ) (ends bytes : List ℕ) → length (parts_between from ends bytes) ≡ length ends
length-parts_between from [] bytes = refl
length-parts_between from (e ∷ es) bytes = ap suc (length-parts_between e es bytes)

pub RiseTo-le : (from : ℕ) (ends : List ℕ) (last : ℕ) → RiseTo from ends last → from ≤ last
RiseTo-le from [] last h = omega arith
RiseTo-le from (e ∷ es) last h = let further : e ≤ last = RiseTo-le e es last h.1 in omega arith

pub RiseTo-push : (from : ℕ) (ends : List ℕ) (last next : ℕ) → RiseTo from ends last → last ≤ next → RiseTo from (ends ++ next ∷ []) next
RiseTo-push from [] last next h l = (omega arith, refl)
RiseTo-push from (e ∷ es) last next h l = (h.0, RiseTo-push e es last next h.1 l)

part-append : (from to : ℕ) (bytes more : List ℕ) → from ≤ to → to ≤ length bytes → take (to - from) (drop from (bytes ++ more)) ≡ take (to - from) (drop from bytes)
part-append from to bytes more l m =
    rw (drop-append-le from bytes more (omega arith)) (take-append-le (to - from) (drop from bytes) more (grind (arith, length-drop)))

-- what the parts are after more was put behind them
pub parts_between-push : (from : ℕ) (ends bytes more : List ℕ) → RiseTo from ends (length bytes) →
    parts_between from (ends ++ length (bytes ++ more) ∷ []) (bytes ++ more) ≡ parts_between from ends bytes ++ more ∷ []
parts_between-push from [] bytes more h =
    ap (λ part. part ∷ []) (rw (drop_at bytes more from (sym h)) (take_all (length (bytes ++ more) - from) more (grind (arith, length-append))))
parts_between-push from (e ∷ es) bytes more h =
    rw (part-append from e bytes more h.0 (RiseTo-le e es (length bytes) h.1))
    (ap (λ rest. take (e - from) (drop from bytes) ∷ rest) (parts_between-push e es bytes more h.1))

-- where the part at a place begins: where the one before it ends
pub slice_get-parts_between : (from : ℕ) (ends bytes : List ℕ) (i : ℕ) → i < length ends →
    slice_get (parts_between from ends bytes) i ≡ Some (take (get_or ends i 0 - get_or (from ∷ ends) i 0) (drop (get_or (from ∷ ends) i 0) bytes))
slice_get-parts_between from [] bytes i l = absurd (omega arith)
slice_get-parts_between from (e ∷ es) bytes zero l = refl
slice_get-parts_between from (e ∷ es) bytes (suc i) l = slice_get-parts_between e es bytes i (omega arith)

pub RiseTo-at : (from : ℕ) (ends : List ℕ) (last i : ℕ) → RiseTo from ends last → i < length ends →
    (get_or (from ∷ ends) i 0 ≤ get_or ends i 0) × (get_or ends i 0 ≤ last)
RiseTo-at from [] last i h l = absurd (omega arith)
RiseTo-at from (e ∷ es) last zero h l = (h.0, RiseTo-le e es last h.1)
RiseTo-at from (e ∷ es) last (suc i) h l = RiseTo-at e es last i h.1 (omega arith)

pub AllUtf8-push : (texts : List (List ℕ)) (text : List ℕ) → AllByRecursion IsUtf8 texts → IsUtf8 text → AllByRecursion IsUtf8 (texts ++ text ∷ [])
AllUtf8-push [] text h u = (u, tt)
AllUtf8-push (t ∷ ts) text h u = (h.0, AllUtf8-push ts text h.1 u)

pub AllUtf8-at : (texts : List (List ℕ)) (i : ℕ) (text : List ℕ) → AllByRecursion IsUtf8 texts → slice_get texts i ≡ Some text → IsUtf8 text
AllUtf8-at [] i text h e = absurd (cc)
AllUtf8-at (t ∷ ts) zero text h e = let same : t ≡ text = cc in subst IsUtf8 same h.0
AllUtf8-at (t ∷ ts) (suc i) text h e = AllUtf8-at ts i text h.1 e

pub ruleset flags = (length-flagged, flagged-take, length-take-same, slice_get-flagged_set, slice_get-flagged_unset, flagged-push, nulls-flagged)

-- one part more, with nothing in it
pub parts_between-push_nothing : (from : ℕ) (ends bytes : List ℕ) → RiseTo from ends (length bytes) →
    parts_between from (ends ++ length bytes ∷ []) bytes ≡ parts_between from ends bytes ++ [] ∷ []
parts_between-push_nothing from ends bytes h =
    subst (λ all. parts_between from (ends ++ length all ∷ []) all ≡ parts_between from ends bytes ++ [] ∷ []) (append-nil bytes)
    (parts_between-push from ends bytes [] h)

pub AllUtf8-push_nothing : (texts : List (List ℕ)) → AllByRecursion IsUtf8 texts → AllByRecursion IsUtf8 (texts ++ [] ∷ [])
AllUtf8-push_nothing texts h = AllUtf8-push texts [] h IsUtf8-nil

-- the part at a place, by its begin and its end
pub part_at : (bytes ends : List ℕ) (i begin end : ℕ) → i < length ends → begin ≡ get_or (0 ∷ ends) i 0 → end ≡ get_or ends i end →
    slice_get (parts_between 0 ends bytes) i ≡ Some (take (end - begin) (drop begin bytes))
part_at bytes ends i begin end l b e =
    let e' : end ≡ get_or ends i 0 = e ∙ get_or_default ends i end 0 l in
    rw (e', b) (slice_get-parts_between 0 ends bytes i l)

pub IsUtf8-part : (bytes ends : List ℕ) (flags : List Bool) (i begin end : ℕ) → AreTexts bytes ends flags → i < length ends →
    begin ≡ get_or (0 ∷ ends) i 0 → end ≡ get_or ends i end → IsUtf8 (take (end - begin) (drop begin bytes))
IsUtf8-part bytes ends flags i begin end t l b e = AllUtf8-at (parts_between 0 ends bytes) i _ t.utf8 (part_at bytes ends i begin end l b e)

pub slice_get-text : (bytes ends : List ℕ) (flags : List Bool) (i begin end : ℕ) (f : Bool) → length ends ≡ length flags → i < length ends →
    begin ≡ get_or (0 ∷ ends) i 0 → end ≡ get_or ends i end → f ≡ get_or flags i f → f ≡ true →
    slice_get (flagged (parts_between 0 ends bytes) flags) i ≡ Some (Some (take (end - begin) (drop begin bytes)))
slice_get-text bytes ends flags i begin end f h l b e g t =
    slice_get-flagged_set (parts_between 0 ends bytes) flags i _ f (length-parts_between 0 ends bytes ∙ h) (omega arith)
    (sym (get_or_from_slice_get (parts_between 0 ends bytes) i _ _ (part_at bytes ends i begin end l b e))) g t

pub ruleset parts = (flags, length-parts_between, parts_between-push, slice_get-parts_between, RiseTo-push, RiseTo-at, AllUtf8-push, AllUtf8-at, parts_between-push_nothing, AllUtf8-push_nothing)
