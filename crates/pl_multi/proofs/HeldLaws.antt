-- Parts with the bytes that an opener holds.
use Rattle.std.proofs.Common.{◌≡◌, ℕ, zero, suc, ◌+◌, ◌<◌, List, [], ◌∷◌, ◌++◌, map, length, take, drop, get_or, Option, Some, None, refl, sym, ◌∙◌, ap, arith}
use Rattle.std.specs.List.{AllByRecursion}
use Rattle.std.specs.Prelude.{IfSome, unwrap_or}
use Rattle.std.proofs.lemmas.List.{map-append, take_more}
use Rattle.pl_multi.specs.Scan.{PartBytes, IsHeld, AreHeld, AreTold}
use Rattle.pl_multi.specs.declared.part.Part.{Part}

all-append : {X : Type 0} (P : X → Type 0) (xs ys : List X) → AllByRecursion P xs → AllByRecursion P ys → AllByRecursion P (xs ++ ys)
all-append P [] ys a b = b
all-append P (x ∷ xs) ys a b = (a.0, all-append P xs ys a.1 b)

-- parts with their bytes behind others
pub held-behind : (holds : List ℕ → Option (List ℕ)) (parts others : List Part) (given more : List PartBytes) → AreHeld holds parts given → AreHeld holds others more → AreHeld holds (parts ++ others) (given ++ more)
held-behind holds parts others given more front back = (
  map-append (λ (it : PartBytes). it.0) given more ∙ ap (λ l. l ++ map (λ (it : PartBytes). it.0) more) front.0 ∙ ap (λ l. parts ++ l) back.0,
  all-append (IsHeld holds) given more front.1 back.1,
)

-- one part with its bytes
pub held-one : (holds : List ℕ → Option (List ℕ)) (part : Part) (bytes : List ℕ) → IsHeld holds (part, bytes) → AreHeld holds (part ∷ []) ((part, bytes) ∷ [])
held-one holds part bytes held = (refl, (held, tt))

-- parts with the bytes that are told, or none where none are
abbrev told_bytes : (List ℕ → Option (List ℕ)) → Part → PartBytes
told_bytes holds part = (part, unwrap_or (holds part.path) [])

told-held : (holds : List ℕ → Option (List ℕ)) (part : Part) → IsHeld holds (told_bytes holds part)
told-held holds part = by (holds part.path)
  where
    by : (told : Option (List ℕ)) → IfSome told (λ bytes. unwrap_or told [] ≡ bytes)
    by None = tt
    by (Some bytes) = refl

abbrev pub some-bytes : List Part → (List ℕ → Option (List ℕ)) → List PartBytes
some-bytes parts holds = map (told_bytes holds) parts

pub some-held : (holds : List ℕ → Option (List ℕ)) (parts : List Part) → AreHeld holds parts (some-bytes parts holds)
some-held holds [] = (refl, tt)
some-held holds (part ∷ parts) = let rest = some-held holds parts in (ap (λ (l : List Part). part ∷ l) rest.0, (told-held holds part, rest.1))

-- parts up to one, that part, and those behind it
pub parts-split : (parts : List Part) (place : ℕ) (part : Part) → place < length parts → part ≡ get_or parts place part → take place parts ++ part ∷ drop (suc place) parts ≡ parts
parts-split [] place part l at = absurd (omega arith)
parts-split (p ∷ ps) zero part l at = ap (λ (q : Part). q ∷ ps) at
parts-split (p ∷ ps) (suc n) part l at = ap (λ (l : List Part). p ∷ l) (parts-split ps n part (omega arith) at)

pub parts-more : (parts : List Part) (place : ℕ) (part : Part) → place < length parts → part ≡ get_or parts place part → take place parts ++ part ∷ [] ≡ take (place + 1) parts
parts-more parts place part l at = ap (λ (p : Part). take place parts ++ p ∷ []) at ∙ sym (take_more parts place part l)

-- told bytes are those that are held
pub held-told : (holds : List ℕ → Option (List ℕ)) (parts : List Part) (given told : List PartBytes) → AreHeld holds parts given → AreTold holds parts told → given ≡ told
held-told holds parts given told held are = by given told (held.0 ∙ sym are.0) held.1 are.1
  where
    told-is : (bytes other : List ℕ) (is : Option (List ℕ)) → IfSome is (λ it. bytes ≡ it) → is ≡ Some other → bytes ≡ other
    told-is bytes other None h e = absurd (cc)
    told-is bytes other (Some it) h e = let same : it ≡ other = cc in h ∙ same

    by : (given told : List PartBytes) → map (λ (it : PartBytes). it.0) given ≡ map (λ (it : PartBytes). it.0) told → AllByRecursion (IsHeld holds) given → AllByRecursion (λ (it : PartBytes). holds it.0.path ≡ Some it.1) told → given ≡ told
    by [] [] e h t = refl
    by [] (x ∷ xs) e h t = absurd (cc)
    by (x ∷ xs) [] e h t = absurd (cc)
    by (x ∷ xs) (y ∷ ys) e h t =
        let first : x.0 ≡ y.0 = cc in
        let rest : map (λ (it : PartBytes). it.0) xs ≡ map (λ (it : PartBytes). it.0) ys = cc in
        let bytes : x.1 ≡ y.1 = told-is x.1 y.1 (holds x.0.path) h.0 (ap (λ (p : Part). holds p.path) first ∙ t.0) in
        let one : x ≡ y = (λ i. (first i, bytes i)) in
        (λ i. one i ∷ by xs ys rest h.1 t.1 i)
