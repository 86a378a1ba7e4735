-- Bytes put into a block from a place on.
use Rattle.std.proofs.Common.{◌≡◌, ℕ, ◌+◌, ◌-◌, ◌≤◌, List, [], ◌∷◌, ◌++◌, length, take, drop, sym, ◌∙◌, ap, append_assoc, arith, length-append}
use Rattle.std.specs.Prelude.{Option, None, Some, IfSome, IfNone}
use Rattle.std.proofs.lemmas.List.{take-take, take_at, take_rest, take-append-drop, length-take-le}
use Rattle.pl_write.proofs.PointLaws.{take-behind}

-- of bytes that were put, only the first count
pub put-front : (p bytes new : List ℕ) (at n count : ℕ) → length p ≡ at → count ≤ n → take (at + n) new ≡ p ++ bytes → take (at + count) new ≡ p ++ take count bytes
put-front p bytes new at n count long few put =
    sym (take-take (at + count) (at + n) new (omega arith)) ∙ ap (take (at + count)) put ∙ ap (λ k. take (k + count) (p ++ bytes)) (sym long) ∙ take-behind p bytes count

-- of the first bytes of a buffer that were put, only the first count
pub put-first : (to buffer new : List ℕ) (at n count end : ℕ) → at ≤ length to → n ≤ length buffer → count ≤ n → end ≡ at + length (take n buffer) → take end new ≡ take at to ++ take n buffer
    → take (at + count) new ≡ take at to ++ take count buffer
put-first to buffer new at n count end inside fits few is put =
    let whole : end ≡ at + n = is ∙ ap (λ k. at + k) (length-take-le n buffer fits) in
    put-front (take at to) (take n buffer) new at n count (length-take-le at to inside) few (ap (λ k. take k new) (sym whole) ∙ put)
    ∙ ap (λ l. take at to ++ l) (take-take count n buffer few)

-- two texts one behind the other
pub put-both : (old mid new x y whole : List ℕ) → mid ≡ old ++ x → new ≡ mid ++ y → x ++ y ≡ whole → new ≡ old ++ whole
put-both old mid new x y whole first last both = last ∙ ap (λ l. l ++ y) first ∙ append_assoc old x y ∙ ap (λ l. old ++ l) both

-- three texts with a byte between each two
pub put-three : (old one two three four new x y z : List ℕ) (a b : ℕ) → one ≡ old ++ x → two ≡ one ++ a ∷ [] → three ≡ two ++ y → four ≡ three ++ b ∷ [] → new ≡ four ++ z
    → new ≡ old ++ (x ++ a ∷ (y ++ b ∷ z))
put-three old one two three four new x y z a b first second third fourth last =
    last
    ∙ ap (λ l. l ++ z) (fourth ∙ ap (λ l. l ++ b ∷ []) (third ∙ ap (λ l. l ++ y) (second ∙ ap (λ l. l ++ a ∷ []) first)))
    ∙ regrouped
  where
    regrouped : ((((old ++ x) ++ a ∷ []) ++ y) ++ b ∷ []) ++ z ≡ old ++ (x ++ a ∷ (y ++ b ∷ z))
    regrouped = simp append_assoc

-- what stood in front stays there
pub put-kept : (old new text : List ℕ) (start at : ℕ) → start ≤ length old → at ≤ length new → take at new ≡ take start old ++ text → take start new ≡ take start old
put-kept old new text start at in_old in_new put =
    let short : length (take start old) ≡ start = length-take-le start old in_old in
    let all : length (take at new) ≡ at = length-take-le at new in_new in
    let before : start ≤ at = omega (arith, ap length put, length-append (take start old) text, short, all) in
    sym (take-take start at new before) ∙ ap (take start) put ∙ take_at (take start old) text start short

-- the first bytes of a text, and then the last, which cover it together
pub put-ends : (old text mid new : List ℕ) (at count behind first last : ℕ) → at ≤ length old → count ≤ length text → behind ≤ count
    → take first mid ≡ take at old ++ take count text → first ≡ at + length (take count text)
    → take last new ≡ take (at + behind) mid ++ take (length text - behind) (drop behind text)
    → take last new ≡ take at old ++ text
put-ends old text mid new at count behind first last inside fits before one is two =
    let long : length (take at old) ≡ at = length-take-le at old inside in
    let whole : first ≡ at + count = is ∙ ap (λ k. at + k) (length-take-le count text fits) in
    let front = put-front (take at old) (take count text) mid at count behind long before (ap (λ k. take k mid) (sym whole) ∙ one) in
    two
    ∙ ap (λ l. l ++ take (length text - behind) (drop behind text)) (front ∙ ap (λ l. take at old ++ l) (take-take behind count text before))
    ∙ append_assoc (take at old) (take behind text) (take (length text - behind) (drop behind text))
    ∙ ap (λ l. take at old ++ l) (ap (λ l. take behind text ++ l) (take_rest text behind) ∙ take-append-drop behind text)

-- what follows for the place answered
pub some_map : (r : Option ℕ) (P Q : ℕ → Type 0) → ((end : ℕ) → P end → Q end) → IfSome r P → IfSome r Q
some_map None P Q follows known = tt
some_map (Some end) P Q follows known = follows end known

-- what follows where no place is answered
pub none_map : {P Q : Type 0} (r : Option ℕ) → (P → Q) → IfNone r P → IfNone r Q
none_map None follows known = follows known
none_map (Some end) follows known = tt
