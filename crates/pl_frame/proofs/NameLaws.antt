-- Laws of names that stand twice.
use Rattle.std.proofs.Common.{◌≡◌, ◌≢◌, ℕ, zero, suc, ◌+◌, ◌<◌, Bool, true, false, ◌||◌, cond, List, [], ◌∷◌, length, take, map, position, get_or, Option, Some, None, refl, sym, ◌∙◌, ap, subst, arith, AllPairs, find}
use Rattle.std.specs.List.{list_any, range_with_len}
use Rattle.std.specs.Str.{bytes_eq}
use Rattle.std.proofs.lemmas.List.{take-map, get_or-map, get_or-take, get_or_default, length-take}
use Rattle.std.proofs.lemmas.List.Folds.{list_any_at}
use Rattle.std.proofs.lemmas.Bool.{false_from_ne_true}
use Rattle.std.proofs.lemmas.Option.{none-some}
use Rattle.std.proofs.lemmas.Slice.Eq.{bytes_eq-Decides}
use Rattle.pl_frame.specs.Names.{is_repeat, first_repeat}
use Rattle.pl_frame.proofs.ColumnLaws.{position-nowhere}

list_any-map : {X Y : Type 0} (p : Y → Bool) (f : X → Y) (xs : List X) → list_any p (map f xs) ≡ list_any (λ x. p (f x)) xs
list_any-map p f [] = refl
list_any-map p f (x ∷ xs) = ap (λ b. p (f x) || b) (list_any-map p f xs)

-- a test among items is one among their names
is_repeat-items : {X : Type 0} (f : X → List ℕ) (items : List X) (place : ℕ) (name : List ℕ) → name ≡ get_or (map f items) place [] →
    is_repeat (map f items) place ≡ list_any (λ item. bytes_eq (f item) name) (take place items)
is_repeat-items f items place name e =
    rw (← e) (ap (λ names. list_any (λ earlier. bytes_eq earlier name) names) (take-map f place items)
    ∙ list_any-map (λ earlier. bytes_eq earlier name) f (take place items))

find_in_range : (p : ℕ → Bool) (from n i : ℕ) → i < n → ((k : ℕ) → k < i → p (from + k) ≡ false) → p (from + i) ≡ true →
    find p (range_with_len from n) ≡ Some (from + i)
find_in_range p from zero i l before found = absurd (omega arith)
find_in_range p from (suc n) zero l before found =
    let e : from + 0 ≡ from = omega arith in
    let now : p from ≡ true = rw e at found in
    rw (now, e) refl
find_in_range p from (suc n) (suc i) l before found =
    let e : from + 1 + i ≡ from + suc i = omega arith in
    let here : p from ≡ false = subst (λ k. p k ≡ false) (let z : from + 0 ≡ from = omega arith in z) (before 0 (omega arith)) in
    rw (here, ← e)
    (find_in_range p (from + 1) n i (omega arith)
    (λ k h. subst (λ m. p m ≡ false) (let s : from + suc k ≡ from + 1 + k = omega arith in s) (before (suc k) (omega arith)))
    (subst (λ m. p m ≡ true) (sym e) found))

nowhere_in_range : (p : ℕ → Bool) (from n : ℕ) → ((k : ℕ) → k < n → p (from + k) ≡ false) → find p (range_with_len from n) ≡ None
nowhere_in_range p from zero nowhere = refl
nowhere_in_range p from (suc n) nowhere =
    let here : p from ≡ false = subst (λ k. p k ≡ false) (let z : from + 0 ≡ from = omega arith in z) (nowhere 0 (omega arith)) in
    rw here
    (nowhere_in_range p (from + 1) n
    (λ k h. subst (λ m. p m ≡ false) (let s : from + suc k ≡ from + 1 + k = omega arith in s) (nowhere (suc k) (omega arith))))

pub first_repeat-found : (names : List (List ℕ)) (place : ℕ) → place < length names →
    ((k : ℕ) → k < place → is_repeat names k ≡ false) → is_repeat names place ≡ true → first_repeat names ≡ Some place
first_repeat-found names place l before found =
    let zero_first : 0 + place ≡ place = omega arith in
    subst (λ k. first_repeat names ≡ Some k) zero_first
    (find_in_range (is_repeat names) 0 (length names) place l
    (λ k h. subst (λ m. is_repeat names m ≡ false) (let e : k ≡ 0 + k = omega arith in e) (before k h))
    (subst (λ m. is_repeat names m ≡ true) (sym zero_first) found))

pub first_repeat-nowhere : (names : List (List ℕ)) → ((k : ℕ) → k < length names → is_repeat names k ≡ false) → first_repeat names ≡ None
first_repeat-nowhere names nowhere =
    nowhere_in_range (is_repeat names) 0 (length names)
    (λ k h. subst (λ m. is_repeat names m ≡ false) (let e : k ≡ 0 + k = omega arith in e) (nowhere k h))

-- what a test of the items before a place says
pub is_repeat-tested : {X : Type 0} (f : X → List ℕ) (items : List X) (place : ℕ) (item : X) (name : List ℕ) (b : Bool) → place < length items →
    item ≡ get_or items place item → name ≡ f item →
    b ≡ list_any (λ other. bytes_eq (f other) name) (take place items) → is_repeat (map f items) place ≡ b
is_repeat-tested f items place item name b l c n t =
    let here : name ≡ get_or (map f items) place [] = n ∙ (ap f c ∙ sym (get_or-map f items place item [] l)) in
    is_repeat-items f items place name here ∙ sym t

none_step : (b : Bool) (x : ℕ) (rest : Option ℕ) → cond b (Some x) rest ≡ None → (b ≡ false) × (rest ≡ None)
none_step true x rest e = absurd (none-some x (sym e))
none_step false x rest e = (refl, e)

none_passes : (p : ℕ → Bool) (from n : ℕ) → find p (range_with_len from n) ≡ None → (k : ℕ) → k < n → p (from + k) ≡ false
none_passes p from zero e k l = absurd (omega arith)
none_passes p from (suc n) e zero l =
    subst (λ m. p m ≡ false) (let z : from ≡ from + 0 = omega arith in z) (none_step (p from) from (find p (range_with_len (from + 1) n)) e).0
none_passes p from (suc n) e (suc k) l =
    subst (λ m. p m ≡ false) (let s : from + 1 + k ≡ from + suc k = omega arith in s)
    (none_passes p (from + 1) n (none_step (p from) from (find p (range_with_len (from + 1) n)) e).1 k (omega arith))

-- names of which none stands twice are distinct
pub distinct_from_first_repeat : (names : List (List ℕ)) → first_repeat names ≡ None → AllPairs (λ a b. a ≢ b) names
distinct_from_first_repeat names none i j d l m same =
    let unseen : is_repeat names j ≡ false =
    subst (λ k. is_repeat names k ≡ false) (let z : 0 + j ≡ j = omega arith in z) (none_passes (is_repeat names) 0 (length names) none j m) in
    let equal : get_or (take j names) i d ≡ get_or names j [] = get_or-take j names i d l ∙ (same ∙ get_or_default names j d [] m) in
    let before : i < length (take j names) = grind (arith, length-take) in
    let seen : is_repeat names j ≡ true =
    list_any_at (λ earlier. bytes_eq earlier (get_or names j [])) (take j names) i d before
    ((bytes_eq-Decides (get_or (take j names) i d) (get_or names j [])).1 equal) in
    cc

-- among names of which none stands twice, none is among those before it
pub absent_before : (names : List (List ℕ)) (i : ℕ) (name : List ℕ) → first_repeat names ≡ None → i < length names → get_or names i [] ≡ name →
    position (bytes_eq name) (take i names) ≡ None
absent_before names i name none l at =
    position-nowhere (bytes_eq name) (take i names) []
    (λ k h. let below : k < i = let n = length-take i names in omega (arith, h, n) in
    false_from_ne_true _ (λ e. distinct_from_first_repeat names none k i [] below l
    (sym (get_or-take i names k [] below) ∙ sym ((bytes_eq-Decides _ _).0 e) ∙ sym at)))
