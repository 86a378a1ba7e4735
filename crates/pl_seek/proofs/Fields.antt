-- A part that is read is the part that was written, and what was written is read again.
use Rattle.std.proofs.Common.{◌≡◌, ℕ, zero, suc, ◌+◌, ◌^◌, ◌<◌, ◌≤◌, Bool, true, false, cond, ltb, List, [], ◌∷◌, ◌++◌, length, get_or, take, drop, Option, Some, None, refl, sym, ap, subst, ◌∙◌, append_assoc, arith, inl, inr}
use Rattle.std.specs.Int.{w64, from_be_bytes}
use Rattle.std.proofs.lemmas.Bool.{cases_lt, ltb-false, le-ltb}
use Rattle.std.proofs.lemmas.List.{take_at, drop_at, take-append-drop, length-append, length-take, get_or-drop, get_or-take, get_or_past}
use Rattle.std.proofs.lemmas.Nat.{be_bytes_8, from_be_bytes-to_be_bytes_8}
use Rattle.pl_seek.specs.Index.{number_bytes, flag_bytes, quote_bytes, text_bytes}
use Rattle.pl_seek.specs.Reading.{◌>>=◌, Found, both, mapped, bytes_at, number_at, byte_at, flag_at, quote_at, text_at}

abbrev pub AreBytes : List ℕ → Type 0
AreBytes bytes = (i : ℕ) → get_or bytes i 0 < 256

pub AreBytes-drop : (n : ℕ) (bytes : List ℕ) → AreBytes bytes → AreBytes (drop n bytes)
AreBytes-drop n bytes h i = rw get_or-drop (h (n + i))

pub AreBytes-take : (n : ℕ) (bytes : List ℕ) → AreBytes bytes → AreBytes (take n bytes)
AreBytes-take n bytes h i =
    elim (cases_lt i n) [
      | inl lt ↦ rw (get_or-take n bytes i 0 lt) (h i)
      | inr le ↦ rw (get_or_past (take n bytes) i 0 (omega (arith, length-take n bytes))) (omega arith)
    ]

AreBytes-rest : (b : ℕ) (bytes : List ℕ) → AreBytes (b ∷ bytes) → AreBytes bytes
AreBytes-rest b bytes h i = h (suc i)

-- the value of a step that did not fail
pub bind_some : {A B : Type 0} (r : Option A) (f : A → Option B) (y : B) → (r >>= f) ≡ Some y → (x : A) × (r ≡ Some x) × (f x ≡ Some y)
bind_some (Some x) f y e = (x, refl, e)
bind_some None f y e = absurd cc

-- a test that did not fail
pub guard_some : {A : Type 0} (b : Bool) (x y : A) → cond b None (Some x) ≡ Some y → (b ≡ false) × (x ≡ y)
guard_some true x y e = absurd cc
guard_some false x y e = (refl, cc)

abbrev some : {A : Type 0} → A → Option A
some x = Some x

pub some_is : {A : Type 0} (x y : A) → some x ≡ some y → x ≡ y
some_is x y e = cc

-- what a reader took from the front
pub record Takes (bytes text rest : List ℕ) : Type 0 where
  pub parts : bytes ≡ text ++ rest
  pub rest_fits : AreBytes rest

pub Takes-then : (a x b y c : List ℕ) → Takes a x b → Takes b y c → Takes a (x ++ y) c
Takes-then a x b y c p q = record { parts = p.parts ∙ ap (λ (t : List ℕ). x ++ t) q.parts ∙ sym (append_assoc x y c); rest_fits = q.rest_fits }

-- a reader reads the values that fit from these bytes of theirs, whatever follows, and no other bytes
pub record Spells {A : Type 0} (read : List ℕ → Found A) (spelling : A → List ℕ) (Fits : A → Type 0) : Type 0 where
  pub takes : (bytes : List ℕ) (x : A × List ℕ) → AreBytes bytes → read bytes ≡ Some x → Takes bytes (spelling x.0) x.1 × Fits x.0
  pub again : (x : A) (rest : List ℕ) → Fits x → read (spelling x ++ rest) ≡ Some (x, rest)

-- one behind the other
pub both_spells : {A B : Type 0} (first : List ℕ → Found A) (second : List ℕ → Found B) (s : A → List ℕ) (t : B → List ℕ) (F : A → Type 0) (G : B → Type 0)
    → Spells first s F → Spells second t G → Spells (both first second) (λ x. s x.0 ++ t x.1) (λ x. F x.0 × G x.1)
both_spells {A} {B} first second s t F G p q = record {
  takes = λ bytes x fits e.
      let a = bind_some (first bytes) (λ a. second a.1 >>= λ b. Some ((a.0, b.0), b.1)) x e in
      let b = bind_some (second a.0.1) (λ b. Some ((a.0.0, b.0), b.1)) x a.2 in
      let one = p.takes bytes a.0 fits a.1 in
      let two = q.takes a.0.1 b.0 one.0.rest_fits b.1 in
      let made : (A × B) × List ℕ = ((a.0.0, b.0.0), b.0.1) in
      subst (λ (y : (A × B) × List ℕ). Takes bytes (s y.0.0 ++ t y.0.1) y.1 × (F y.0.0 × G y.0.1)) (some_is made x b.2)
      (Takes-then bytes (s a.0.0) a.0.1 (t b.0.0) b.0.1 one.0 two.0, (one.1, two.1));
  again = λ x rest fits.
      ap (both first second) (append_assoc (s x.0) (t x.1) rest) ∙ rw (p.again x.0 (t x.1 ++ rest) fits.0, q.again x.1 rest fits.1) refl;
}

-- the same values in another form
pub mapped_spells : {A B : Type 0} (read : List ℕ → Found A) (s : A → List ℕ) (F : A → Type 0) (f : A → B) (back : B → A)
    → ((x : A) → back (f x) ≡ x) → ((y : B) → f (back y) ≡ y) → Spells read s F → Spells (mapped f read) (λ y. s (back y)) (λ y. F (back y))
mapped_spells {A} {B} read s F f back there here p = record {
  takes = λ bytes x fits e.
      let a = bind_some (read bytes) (λ a. Some (f a.0, a.1)) x e in
      let one = p.takes bytes a.0 fits a.1 in
      let made : B × List ℕ = (f a.0.0, a.0.1) in
      subst (λ (y : B × List ℕ). Takes bytes (s (back y.0)) y.1 × F (back y.0)) (some_is made x a.2) (rw there one);
  again = λ y rest fits. rw (p.again (back y) rest fits, here y) refl;
}

-- the same spelling in other words
pub respelled : {A : Type 0} (read : List ℕ → Found A) (s t : A → List ℕ) (F : A → Type 0) → ((x : A) → s x ≡ t x) → Spells read s F → Spells read t F
respelled {A} read s t F same p = record {
  takes = λ bytes x fits e. let one = p.takes bytes x fits e in (subst (λ (y : List ℕ). Takes bytes y x.1) (same x.0) one.0, one.1);
  again = λ x rest fits. ap (λ (y : List ℕ). read (y ++ rest)) (sym (same x)) ∙ p.again x rest fits;
}

-- so many bytes
pub bytes_spell : (n : ℕ) → Spells (bytes_at n) (λ x. x) (λ x. length x ≡ n)
bytes_spell n = record {
  takes = λ bytes x fits e.
      let g = guard_some (ltb (length bytes) n) (take n bytes, drop n bytes) x e in
      let long : n ≤ length bytes = ltb-false _ _ g.0 in
      subst (λ (y : List ℕ × List ℕ). Takes bytes y.0 y.1 × (length y.0 ≡ n)) g.1
      (record { parts = sym (take-append-drop n bytes); rest_fits = AreBytes-drop n bytes fits }, omega (arith, length-take n bytes));
  again = λ x rest fits.
      let long : ltb (length (x ++ rest)) n ≡ false = le-ltb _ _ (omega (arith, length-append x rest, fits)) in
      rw (long, take_at x rest n fits, drop_at x rest n fits) refl;
}

pub number_is : (bytes : List ℕ) → length bytes ≡ 8 → AreBytes bytes → (number_bytes (from_be_bytes w64 bytes) ≡ bytes) × (from_be_bytes w64 bytes < 2 ^ 64)
number_is bytes len fits = (be_bytes_8 bytes _ len fits refl, omega (arith, fits 0, fits 1, fits 2, fits 3, fits 4, fits 5, fits 6, fits 7))

number_front : (front rest : List ℕ) → length front ≡ 8 → number_at (front ++ rest) ≡ Some (from_be_bytes w64 front, rest)
number_front front rest len =
    let long : ltb (length (front ++ rest)) 8 ≡ false = le-ltb _ _ (omega (arith, length-append front rest)) in
    rw (long, take_at front rest 8 len, drop_at front rest 8 len) refl

pub number_spells : Spells number_at number_bytes (λ n. n < 2 ^ 64)
number_spells = record {
  takes = λ bytes x fits e.
      let g = guard_some (ltb (length bytes) 8) (from_be_bytes w64 (take 8 bytes), drop 8 bytes) x e in
      let long : 8 ≤ length bytes = ltb-false _ _ g.0 in
      let n = number_is (take 8 bytes) (omega (arith, length-take 8 bytes)) (AreBytes-take 8 bytes fits) in
      subst (λ (y : ℕ × List ℕ). Takes bytes (number_bytes y.0) y.1 × (y.0 < 2 ^ 64)) g.1
      (record { parts = sym (take-append-drop 8 bytes) ∙ ap (λ (t : List ℕ). t ++ drop 8 bytes) (sym n.0); rest_fits = AreBytes-drop 8 bytes fits }, n.1);
  again = λ n rest fits.
      number_front (number_bytes n) rest refl ∙ ap (λ (k : ℕ). some (k, rest)) (from_be_bytes-to_be_bytes_8 n fits);
}

byte_takes : (bytes : List ℕ) (x : ℕ × List ℕ) → AreBytes bytes → byte_at bytes ≡ Some x → Takes bytes (x.0 ∷ []) x.1 × Unit {0}
byte_takes [] x fits e = absurd cc
byte_takes (b ∷ bytes) x fits e =
    subst (λ (y : ℕ × List ℕ). Takes (b ∷ bytes) (y.0 ∷ []) y.1 × Unit {0}) (some_is (b, bytes) x e) (record { parts = refl; rest_fits = AreBytes-rest b bytes fits }, tt)

pub byte_spells : Spells byte_at (λ b. b ∷ []) (λ _. Unit {0})
byte_spells = record { takes = byte_takes; again = λ b rest _. refl }

flag_takes : (bytes : List ℕ) (x : Bool × List ℕ) → AreBytes bytes → flag_at bytes ≡ Some x → Takes bytes (flag_bytes x.0) x.1 × Unit {0}
unfolding flag_at
flag_takes [] x fits e = absurd cc
flag_takes (zero ∷ bytes) x fits e =
    subst (λ (y : Bool × List ℕ). Takes (0 ∷ bytes) (flag_bytes y.0) y.1 × Unit {0}) (some_is (false, bytes) x e) (record { parts = refl; rest_fits = AreBytes-rest 0 bytes fits }, tt)
flag_takes (suc zero ∷ bytes) x fits e =
    subst (λ (y : Bool × List ℕ). Takes (1 ∷ bytes) (flag_bytes y.0) y.1 × Unit {0}) (some_is (true, bytes) x e) (record { parts = refl; rest_fits = AreBytes-rest 1 bytes fits }, tt)
flag_takes (suc (suc b) ∷ bytes) x fits e = absurd cc

flag_again : (b : Bool) (rest : List ℕ) → Unit {0} → flag_at (flag_bytes b ++ rest) ≡ Some (b, rest)
unfolding flag_at
flag_again true rest _ = refl
flag_again false rest _ = refl

pub flag_spells : Spells flag_at flag_bytes (λ _. Unit {0})
flag_spells = record { takes = flag_takes; again = flag_again }

quote_takes : (bytes : List ℕ) (x : Option ℕ × List ℕ) → AreBytes bytes → quote_at bytes ≡ Some x → Takes bytes (quote_bytes x.0) x.1 × Unit {0}
unfolding quote_at
quote_takes [] x fits e = absurd cc
quote_takes (a ∷ []) x fits e = absurd cc
quote_takes (zero ∷ zero ∷ bytes) x fits e =
    subst (λ (y : Option ℕ × List ℕ). Takes (0 ∷ 0 ∷ bytes) (quote_bytes y.0) y.1 × Unit {0}) (some_is (None, bytes) x e) (record { parts = refl; rest_fits = AreBytes-rest 0 bytes (AreBytes-rest 0 (0 ∷ bytes) fits) }, tt)
quote_takes (zero ∷ suc b ∷ bytes) x fits e = absurd cc
quote_takes (suc zero ∷ b ∷ bytes) x fits e =
    subst (λ (y : Option ℕ × List ℕ). Takes (1 ∷ b ∷ bytes) (quote_bytes y.0) y.1 × Unit {0}) (some_is (Some b, bytes) x e) (record { parts = refl; rest_fits = AreBytes-rest b bytes (AreBytes-rest 1 (b ∷ bytes) fits) }, tt)
quote_takes (suc (suc a) ∷ b ∷ bytes) x fits e = absurd cc

quote_again : (o : Option ℕ) (rest : List ℕ) → Unit {0} → quote_at (quote_bytes o ++ rest) ≡ Some (o, rest)
unfolding quote_at
quote_again None rest _ = refl
quote_again (Some b) rest _ = refl

pub quote_spells : Spells quote_at quote_bytes (λ _. Unit {0})
quote_spells = record { takes = quote_takes; again = quote_again }

text_takes : (bytes : List ℕ) (x : List ℕ × List ℕ) → AreBytes bytes → text_at bytes ≡ Some x → Takes bytes (text_bytes x.0) x.1 × (length x.0 < 2 ^ 64)
unfolding text_at
text_takes bytes x fits e =
    let n = bind_some (number_at bytes) (λ n. bytes_at n.0 n.1) x e in
    let one = number_spells.takes bytes n.0 fits n.1 in
    let two = (bytes_spell n.0.0).takes n.0.1 x one.0.rest_fits n.2 in
    let whole = Takes-then bytes (number_bytes n.0.0) n.0.1 x.0 x.1 one.0 two.0 in
    (subst (λ (k : ℕ). Takes bytes (number_bytes k ++ x.0) x.1) (sym two.1) whole, omega (arith, two.1, one.1))

text_again : (text rest : List ℕ) → length text < 2 ^ 64 → text_at (text_bytes text ++ rest) ≡ Some (text, rest)
unfolding text_at
text_again text rest fits =
    ap text_at (append_assoc (number_bytes (length text)) text rest)
    ∙ rw (number_spells.again (length text) (text ++ rest) fits, (bytes_spell (length text)).again text rest refl) refl

pub text_spells : Spells text_at text_bytes (λ text. length text < 2 ^ 64)
text_spells = record { takes = text_takes; again = text_again }
