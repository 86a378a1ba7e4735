-- Where records end in a block of 64 bytes, by its words.
use Rattle.std.proofs.Common.{◌≡◌, ℕ, zero, suc, ◌+◌, ◌-◌, ◌/◌, ◌%◌, ◌<◌, ◌≤◌, Bool, true, false, cond, not, ◌&&◌, ◌||◌, ◌==◌, List, [], ◌∷◌, ◌++◌, length, drop, get_or, Option, None, Some, refl, sym, ◌∙◌, ap, ap₂, arith, length-drop}
use Rattle.std.specs.Prelude.{◌≢◌, unwrap_or, IfSome}
use Rattle.std.specs.List.{last_or}
use Rattle.std.proofs.lemmas.Bool.Decides.{nat_tests}
use Rattle.pl_frame.specs.Dialect.{Marks, AreDistinct}
use Rattle.pl_scan.specs.Bits.{xor, test, parity, odd_at, set_bits}
use Rattle.pl_scan.specs.Fields.{is_quote, is_plain}
use Rattle.pl_scan.proofs.SetBitLaws.{test-first, test-half}
use Rattle.pl_seek.specs.RecordEnds.{Stand, AtField, InPlain, InOdd, InEven, is_odd, is_fresh, stand_on, next_stand, ends_record, placed, begins, stand_from, may_open, AreFound, IsCarried, IsScanned}
use Rattle.pl_seek.specs.declared.record_ends.Carry.{Carry}
use Rattle.pl_seek.specs.declared.record_ends.Found.{Found}

-- ---- one byte

abbrev IsStep : Stand → (plain quote : Bool) → Type 0
IsStep s plain quote =
    (is_odd (stand_on s plain quote) ≡ xor quote (is_odd s)) × (((not plain || quote) && not (xor quote (is_odd s))) ≡ true → is_fresh (stand_on s plain quote) ≡ true)

step : (s : Stand) (plain quote : Bool) → (quote ≡ true → plain ≡ true) → (quote ≡ true → xor quote (is_odd s) ≡ true → is_fresh s ≡ true) → IsStep s plain quote
step AtField true true apart known = (refl, λ e. cc)
step AtField true false apart known = (refl, λ e. cc)
step AtField false true apart known = absurd (let e : false ≡ true = apart refl in cc)
step AtField false false apart known = (refl, λ e. refl)
step InPlain true true apart known = absurd (let e : false ≡ true = known refl refl in cc)
step InPlain true false apart known = (refl, λ e. cc)
step InPlain false true apart known = absurd (let e : false ≡ true = apart refl in cc)
step InPlain false false apart known = (refl, λ e. refl)
step InOdd true true apart known = (refl, λ e. refl)
step InOdd true false apart known = (refl, λ e. cc)
step InOdd false true apart known = absurd (let e : false ≡ true = apart refl in cc)
step InOdd false false apart known = (refl, λ e. cc)
step InEven true true apart known = (refl, λ e. cc)
step InEven true false apart known = (refl, λ e. cc)
step InEven false true apart known = absurd (let e : false ≡ true = apart refl in cc)
step InEven false false apart known = (refl, λ e. refl)

odd-more : (p q o : Bool) → xor (xor p q) o ≡ xor q (xor p o)
odd-more true true true = refl
odd-more true true false = refl
odd-more true false o = refl
odd-more false true o = refl
odd-more false false o = refl

-- a line end is no quote, and changes no parity
end-even : (e q o : Bool) → (e ≡ true → q ≡ false) → (e && not (xor q o)) ≡ (e && not o)
end-even true true o free = absurd (let h : true ≡ false = free refl in cc)
end-even true false o free = refl
end-even false q o free = refl

not-false : (p : Bool) → not p ≡ false → p ≡ true
not-false true h = refl
not-false false h = absurd (cc)

module _ (m : Marks) (apart : AreDistinct m) (x : ℕ) where
  quote-other : is_quote m.quote x ≡ true → (x ≢ m.separator) × (x ≢ m.line_end)
  quote-other e = by m.quote apart.1 e
    where
      by : (q : Option ℕ) → IfSome q (λ c. (c ≢ m.separator) × (c ≢ m.line_end)) → is_quote q x ≡ true → (x ≢ m.separator) × (x ≢ m.line_end)
      by None other h = absurd (cc)
      by (Some c) other h = let same : x ≡ c = grind (arith, nat_tests, h) in (λ y. other.0 (sym same ∙ y), λ y. other.1 (sym same ∙ y))

  quote-plain : is_quote m.quote x ≡ true → is_plain m x ≡ true
  quote-plain e =
      let other = quote-other e in
      let no : (x == m.separator) ≡ false = (let differs = other.0 in grind (arith, nat_tests)) in
      let nor : (x == m.line_end) ≡ false = (let differs = other.1 in grind (arith, nat_tests)) in
      (λ i. not (no i || nor i))

  end-no_quote : (x == m.line_end) ≡ true → is_quote m.quote x ≡ false
  end-no_quote e = by (is_quote m.quote x) refl
    where
      by : (q : Bool) → is_quote m.quote x ≡ q → is_quote m.quote x ≡ false
      by false is = is
      by true is = absurd (let same : x ≡ m.line_end = grind (arith, nat_tests, e) in (quote-other is).1 same)

-- ---- a block

module _ (m : Marks) (apart : AreDistinct m) (b : List ℕ) (at : ℕ) (s : Stand) (S E K : ℕ) (carry : Carry) (found : Found) (carried : IsCarried s carry) (are : AreFound S E K carry found)
    (stops : (i : ℕ) → i < 64 → test S i ≡ not (is_plain m (get_or b (at + i) 0))) (line_ends : (i : ℕ) → i < 64 → test E i ≡ (get_or b (at + i) 0 == m.line_end))
    (quotes : (i : ℕ) → i < 64 → test K i ≡ is_quote m.quote (get_or b (at + i) 0)) where
  abbrev byte : ℕ → ℕ
  byte i = get_or b (at + i) 0

  abbrev stand : ℕ → Stand
  stand i = stand_from m s b at i

  record IsTold (i : ℕ) : Type 0 where
    pub odd : odd_at K carry.odd i ≡ is_odd (stand i)
    pub fresh : may_open S K carry.odd carry.fresh i ≡ true → is_fresh (stand i) ≡ true

  odd-suc : (i : ℕ) → odd_at K carry.odd (suc i) ≡ xor (test K i) (odd_at K carry.odd i)
  unfolding parity
  odd-suc i = odd-more (parity K i) (test K i) carry.odd

  odd-next : (i : ℕ) → i < 64 → IsTold i → odd_at K carry.odd (suc i) ≡ xor (is_quote m.quote (byte i)) (is_odd (stand i))
  odd-next i h told = odd-suc i ∙ ap₂ xor (quotes i h) told.odd

  next : (i : ℕ) → i < 64 → IsTold i → IsTold (suc i)
  unfolding stand_from
  next i h told =
      let one = step (stand i) (is_plain m (byte i)) (is_quote m.quote (byte i)) (quote-plain m apart (byte i))
      (λ quote odd. told.fresh (are.known i h (quotes i h ∙ quote) (odd-next i h told ∙ odd))) in
      record {
        odd = odd-next i h told ∙ sym one.0;
        fresh = λ e. one.1 (sym (λ k. (stops i h k || quotes i h k) && not (odd-next i h told k)) ∙ e);
      }

  told : (i : ℕ) → i ≤ 64 → IsTold i
  unfolding stand_from parity
  told zero h = record { odd = carried.odd; fresh = carried.fresh }
  told (suc i) h = next i (omega arith) (told i (omega arith))

  pub scanned : IsScanned m b at s found
  scanned = record {
    ends = λ i h.
        let so = told i (omega arith) in
        are.ends i h ∙ (λ k. line_ends i h k && not (odd-next i h so k))
        ∙ end-even (byte i == m.line_end) (is_quote m.quote (byte i)) (is_odd (stand i)) (end-no_quote m apart (byte i));
    behind =
        let so = told 64 (omega arith) in
        record { odd = are.odd ∙ so.odd; fresh = λ e. so.fresh (sym are.fresh ∙ e) };
  }

-- ---- its bits

stand-more : (m : Marks) (s : Stand) (b : List ℕ) (at i : ℕ) → stand_from m s b at (suc i) ≡ stand_from m (next_stand m s (get_or b at 0)) b (at + 1) i
unfolding stand_from
stand-more m s b at zero = ap (λ k. next_stand m s (get_or b k 0)) (omega arith)
stand-more m s b at (suc i) = ap₂ (λ (t : Stand) k. next_stand m t (get_or b k 0)) (stand-more m s b at i) (omega arith)

drop-step : (b : List ℕ) (at : ℕ) → at < length b → drop at b ≡ get_or b at 0 ∷ drop (at + 1) b
drop-step [] at h = absurd (omega arith)
drop-step (x ∷ b) zero h = refl
drop-step (x ∷ b) (suc at) h = let up : suc (at + 1) ≡ suc at + 1 = omega arith in drop-step b at (omega arith) ∙ ap (λ k. get_or b at 0 ∷ drop k (x ∷ b)) up

placed-at : (size : ℕ) (b : List ℕ) → 0 < length b → placed size b ≡ (size - length b) ∷ []
placed-at size [] h = absurd (omega arith)
placed-at size (x ∷ b) h = refl

true-both : (p q : Bool) → (p && q) ≡ true → (p ≡ true) × (q ≡ true)
true-both true true h = (refl, refl)
true-both true false h = absurd (cc)
true-both false q h = absurd (cc)

-- behind the end of a record a field begins
end-field : (m : Marks) (s : Stand) (x : ℕ) → ends_record m s x ≡ true → next_stand m s x ≡ AtField
end-field m s x e = by s (true-both (x == m.line_end) (not (is_odd s)) e)
  where
    stop : (x == m.line_end) ≡ true → is_plain m x ≡ false
    stop is = by_sep (x == m.separator)
      where
        by_sep : (t : Bool) → not (t || x == m.line_end) ≡ false
        by_sep true = refl
        by_sep false = rw is refl

    by : (s : Stand) → ((x == m.line_end) ≡ true) × (not (is_odd s) ≡ true) → next_stand m s x ≡ AtField
    by AtField h = rw (stop h.0) refl
    by InPlain h = rw (stop h.0) refl
    by InOdd h = absurd (let no : false ≡ true = h.1 in cc)
    by InEven h = rw (stop h.0) refl

module _ (m : Marks) (input : List ℕ) where
  abbrev pub size : ℕ
  size = length input

  abbrev pub left : Stand → ℕ → List ℕ
  left s at = begins m size s (drop at input)

  left-step : (s : Stand) (at : ℕ) → at + 1 < size → left s at ≡ cond (ends_record m s (get_or input at 0)) ((at + 1) ∷ []) [] ++ left (next_stand m s (get_or input at 0)) (at + 1)
  left-step s at within =
      ap (begins m size s) (drop-step input at (omega arith))
      ∙ ap (λ (l : List ℕ). cond (ends_record m s (get_or input at 0)) l [] ++ left (next_stand m s (get_or input at 0)) (at + 1))
      (placed-at size (drop (at + 1) input) (omega (arith, length-drop (at + 1) input))
      ∙ ap (λ k. k ∷ []) (omega (arith, length-drop (at + 1) input)))

  -- the places at the bits come next, and behind the last of them no other begins
  pub record AreTaken (s : Stand) (at n x : ℕ) (o : Option ℕ) (d : ℕ) : Type 0 where
    pub places : left s at ≡ set_bits n (at + 1) x ++ left (stand_from m s input at n) (at + n)
    pub last : left AtField (unwrap_or (last_or o (set_bits n (at + 1) x)) d) ≡ left (stand_from m s input at n) (at + n)

  pub taken : (n : ℕ) (s : Stand) (at x : ℕ) (o : Option ℕ) (d : ℕ) → at + n < size → ((i : ℕ) → i < n → test x i ≡ ends_record m (stand_from m s input at i) (get_or input (at + i) 0))
      → left AtField (unwrap_or o d) ≡ left s at → AreTaken s at n x o d
  unfolding set_bits stand_from
  taken zero s at x o d within told back =
      let here : at ≡ at + 0 = omega arith in
      record { places = ap (left s) here; last = back ∙ ap (left s) here }
  taken (suc n) s at x o d within told back = by (x % 2 == 1) refl (λ so again. taken n (next_stand m s c) (at + 1) (x / 2) so d (omega arith) more again)
    where
      c : ℕ
      c = get_or input at 0

      first : (x % 2 == 1) ≡ ends_record m s c
      first = test-first x ∙ told 0 (omega arith) ∙ ap (λ k. ends_record m s (get_or input k 0)) (omega arith)

      more : (i : ℕ) → i < n → test (x / 2) i ≡ ends_record m (stand_from m (next_stand m s c) input (at + 1) i) (get_or input (at + 1 + i) 0)
      more i h = test-half x i ∙ told (suc i) (omega arith) ∙ ap₂ (λ (t : Stand) k. ends_record m t (get_or input k 0)) (stand-more m s input at i) (omega arith)

      end : left (stand_from m (next_stand m s c) input (at + 1) n) (at + 1 + n) ≡ left (stand_from m s input at (suc n)) (at + suc n)
      end = ap₂ left (sym (stand-more m s input at n)) (omega arith)

      by : (t : Bool) → (x % 2 == 1) ≡ t
          → ((so : Option ℕ) → left AtField (unwrap_or so d) ≡ left (next_stand m s c) (at + 1) → AreTaken (next_stand m s c) (at + 1) n (x / 2) so d)
          → AreTaken s at (suc n) x o d
      by true is deeper =
          let ended : ends_record m s c ≡ true = sym first ∙ is in
          let next = deeper (Some (at + 1)) (ap (λ (t : Stand). left t (at + 1)) (sym (end-field m s c ended))) in
          let bits : set_bits (suc n) (at + 1) x ≡ (at + 1) ∷ set_bits n (at + 1 + 1) (x / 2) = ap (λ (t : Bool). cond t ((at + 1) ∷ set_bits n (at + 1 + 1) (x / 2)) (set_bits n (at + 1 + 1) (x / 2))) is in
          record {
            places = left-step s at (omega arith) ∙ ap (λ (t : Bool). cond t ((at + 1) ∷ []) [] ++ left (next_stand m s c) (at + 1)) ended
                ∙ ap (λ l. (at + 1) ∷ l) (next.places ∙ ap (λ l. set_bits n (at + 1 + 1) (x / 2) ++ l) end)
                ∙ ap (λ l. l ++ left (stand_from m s input at (suc n)) (at + suc n)) (sym bits);
            last = ap (λ l. left AtField (unwrap_or (last_or o l) d)) bits ∙ next.last ∙ end;
          }
      by false is deeper =
          let not_ended : ends_record m s c ≡ false = sym first ∙ is in
          let step : left s at ≡ left (next_stand m s c) (at + 1) = left-step s at (omega arith) ∙ ap (λ (t : Bool). cond t ((at + 1) ∷ []) [] ++ left (next_stand m s c) (at + 1)) not_ended in
          let next = deeper o (back ∙ step) in
          let bits : set_bits (suc n) (at + 1) x ≡ set_bits n (at + 1 + 1) (x / 2) = ap (λ (t : Bool). cond t ((at + 1) ∷ set_bits n (at + 1 + 1) (x / 2)) (set_bits n (at + 1 + 1) (x / 2))) is in
          record {
            places = step ∙ next.places ∙ ap (λ l. set_bits n (at + 1 + 1) (x / 2) ++ l) end ∙ ap (λ l. l ++ left (stand_from m s input at (suc n)) (at + suc n)) (sym bits);
            last = ap (λ l. left AtField (unwrap_or (last_or o l) d)) bits ∙ next.last ∙ end;
          }
