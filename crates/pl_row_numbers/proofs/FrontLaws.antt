-- The front of a line, and that of the next one.
use Rattle.std.proofs.Common.{◌≡◌, ℕ, suc, ◌+◌, ◌-◌, ◌/◌, ◌%◌, ◌^◌, ◌<◌, ◌≤◌, ◌⊎◌, inl, inr, Bool, true, false, cond, List, [], ◌∷◌, ◌++◌, length, take, set, refl, sym, ◌∙◌, ap, append_assoc, length-append, arith}
use Rattle.std.specs.Prelude.{decimal}
use mir.Val.{bool_byte}
use Rattle.std.proofs.Math.Seq.{take-set-lt, set-append_seam}
use Rattle.std.proofs.lemmas.Bool.{cases_lt}
use Rattle.std.proofs.lemmas.Fmt.{decimal_digit, decimal_step}
use Rattle.std.proofs.lemmas.List.{length-take-le}
use Rattle.pl_row_numbers.specs.Numbered.{IsFront, front_text}
use Rattle.pl_row_numbers.specs.declared.fronts.Front.{Front}
use Rattle.pl_row_numbers.specs.declared.fronts.FrontForm.{FrontForm}

-- numbers that differ in the last digit alone
record Digits (n : ℕ) : Type 0 where
  before : List ℕ
  is : (m : ℕ) → m / 10 ≡ n / 10 → m < 2 ^ 64 → decimal m ≡ before ++ (48 + m % 10) ∷ []

digits : (n : ℕ) → Digits n
digits n = by (cases_lt n 10)
  where
    by : (n < 10) ⊎ (10 ≤ n) → Digits n
    by (inl one) = record {
      before = [];
      is = λ m tens small. let same : 48 + m ≡ 48 + m % 10 = omega arith in decimal_digit m (omega arith) ∙ ap (λ d. d ∷ []) same;
    }
    by (inr more) = record {
      before = decimal (n / 10);
      is = λ m tens small. decimal_step m (omega arith) small ∙ ap (λ t. decimal t ++ (48 + m % 10) ∷ []) tens;
    }

-- the front by its last digit
split : (q ds : List ℕ) (x s : ℕ) → ((q ++ (ds ++ x ∷ [])) ++ q) ++ s ∷ [] ≡ (q ++ ds) ++ x ∷ (q ++ s ∷ [])
split q ds x s = simp append_assoc

front-split : (form : FrontForm) (n x : ℕ) (ds : List ℕ) → decimal n ≡ ds ++ x ∷ []
    → front_text form n ≡ (cond form.quoted (34 ∷ []) [] ++ ds) ++ x ∷ (cond form.quoted (34 ∷ []) [] ++ form.separator ∷ [])
front-split form n x ds is =
    let q = cond form.quoted (34 ∷ []) [] in
    ap (λ d. ((q ++ d) ++ q) ++ form.separator ∷ []) is ∙ split q ds x form.separator

-- the front of a line by its last digit, and what is copied in its place
pub record IsSplit (front : Front) : Type 0 where
  pub before : List ℕ
  pub behind : List ℕ
  pub digit : ℕ
  pub copied : take front.len front.text ≡ before ++ digit ∷ behind
  pub is : front_text front.form front.number ≡ before ++ (48 + front.number % 10) ∷ behind
  pub size : front.len ≡ length before + suc (length behind)
  pub marks : length behind ≡ bool_byte front.form.quoted + 1

pub split-front : (front : Front) → IsFront front → IsSplit front
split-front front is =
    let form = front.form in
    let d = digits front.number in
    let q = cond form.quoted (34 ∷ []) [] in
    let before = q ++ d.before in
    let behind = q ++ form.separator ∷ [] in
    let x = 48 + is.near % 10 in
    let text : take front.len front.text ≡ before ++ x ∷ behind = is.is ∙ front-split form is.near x d.before (d.is is.near is.tens is.small) in
    record {
      before = before;
      behind = behind;
      digit = x;
      copied = text;
      is = front-split form front.number (48 + front.number % 10) d.before (d.is front.number refl is.fits);
      size = sym (length-take-le front.len front.text (omega (arith, is.within, is.size))) ∙ ap length text ∙ length-append before (x ∷ behind);
      marks = marks form.quoted;
    }
  where
    marks : (b : Bool) → length (cond b (34 ∷ []) [] ++ front.form.separator ∷ []) ≡ bool_byte b + 1
    marks true = omega arith
    marks false = omega arith

pub front-size : (front : Front) → IsFront front → length (front_text front.form front.number) ≡ front.len
front-size front is =
    let s = split-front front is in
    ap length s.is ∙ length-append s.before ((48 + front.number % 10) ∷ s.behind) ∙ sym s.size

-- the last digit is put in its place
pub put-digit : (front : Front) (p new : List ℕ) (at place : ℕ) → IsFront front → length p ≡ at → take (at + front.len) new ≡ p ++ take front.len front.text
    → place ≡ at + front.len - 2 - bool_byte front.form.quoted → take (at + front.len) (set new place (48 + front.number % 10)) ≡ p ++ front_text front.form front.number
put-digit front p new at place is long put here =
    let s = split-front front is in
    let d = 48 + front.number % 10 in
    let before = p ++ s.before in
    let there : place ≡ length before = omega (arith, here, long, length-append p s.before, s.size, s.marks) in
    let inside : length before < at + front.len = omega (arith, long, length-append p s.before, s.size) in
    ap (λ k. take (at + front.len) (set new k d)) there
    ∙ take-set-lt (at + front.len) new (length before) d inside
    ∙ ap (λ l. set l (length before) d) (put ∙ ap (λ l. p ++ l) s.copied ∙ sym (append_assoc p s.before (s.digit ∷ s.behind)))
    ∙ set-append_seam before s.digit s.behind d
    ∙ append_assoc p s.before (d ∷ s.behind)
    ∙ ap (λ l. p ++ l) (sym s.is)
