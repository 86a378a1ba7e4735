-- Datetimes that stand as they are printed, or without a fraction.
use Rattle.std.proofs.Common.{◌≡◌, ℕ, ◌+◌, ◌-◌, ◌*◌, ◌/◌, ◌%◌, ◌<◌, ◌≤◌, List, [], ◌∷◌, ◌++◌, length, drop, take, get_or, sym, ◌∙◌, ap, ap₂, arith, append_assoc}
use Rattle.std.specs.List.{slice_range}
use Rattle.std.proofs.lemmas.Bool.{eqb-true}
use Rattle.std.proofs.lemmas.List.{drop-drop, drop-take, length-drop, length-take-le, take_all}
use lib.Lanes.{chunk}
use Rattle.pl_text.specs.ValueText.{padded, date_text, clock_text}
use Rattle.pl_cells.specs.Integers.{number_of}
use Rattle.pl_cells.specs.Lanes.{HasClockDigits}
use Rattle.pl_verbatim.specs.CellTexts.{IsDateText, IsClockText, IsSecondsText, IsMomentText}
use Rattle.pl_verbatim.proofs.DateLaws.{pair_of, two_digits}
use Rattle.pl_verbatim.proofs.DecimalLaws.{padded-digits}
use Rattle.pl_verbatim.proofs.NumberLaws.{number-few, slice-cons, slice-parts, DigitsAt}

-- ---- seconds of the day

-- eight bytes that are digits and colons, where a day has the hour, the minute and the second
pub clock_written : (text : List ℕ) (h m s : ℕ) → length text ≡ 8 → HasClockDigits text
    → h ≡ pair_of (get_or text 0 0) (get_or text 1 0) → m ≡ pair_of (get_or text 3 0) (get_or text 4 0) → s ≡ pair_of (get_or text 6 0) (get_or text 7 0)
    → h < 24 → m < 60 → s < 60 → IsClockText text
clock_written (h₁ ∷ h₂ ∷ c₁ ∷ m₁ ∷ m₂ ∷ c₂ ∷ s₁ ∷ s₂ ∷ []) h m s long is hour minute second hours minutes seconds =
    let all = h * 3600 + m * 60 + s in
    let first : all / 3600 ≡ h = omega (arith, minutes, seconds) in
    let middle : all / 60 % 60 ≡ m = omega (arith, minutes, seconds) in
    let last : all % 60 ≡ s = omega (arith, minutes, seconds) in
    let front : padded 2 (all / 3600) ≡ h₁ ∷ h₂ ∷ [] = ap (padded 2) (first ∙ hour) ∙ two_digits h₁ h₂ is.first is.second in
    let between : padded 2 (all / 60 % 60) ≡ m₁ ∷ m₂ ∷ [] = ap (padded 2) (middle ∙ minute) ∙ two_digits m₁ m₂ is.third is.fourth in
    let behind : padded 2 (all % 60) ≡ s₁ ∷ s₂ ∷ [] = ap (padded 2) (last ∙ second) ∙ two_digits s₁ s₂ is.fifth is.sixth in
    let colon : 58 ≡ c₁ = sym (eqb-true c₁ 58 is.colon) in
    let later : 58 ≡ c₂ = sym (eqb-true c₂ 58 is.later_colon) in
    record {
      second = all;
      few = omega (arith, hours, minutes, seconds);
      text_is = sym (λ i. front i ++ colon i ∷ (between i ++ later i ∷ behind i));
    }
clock_written _ h m s long is hour minute second hours minutes seconds = absurd (omega arith)

-- the last eight of the sixteen bytes that are loaded
pub last_eight : (text : List ℕ) (at : ℕ) → 8 ≤ at → at + 8 ≤ length text → drop 8 (chunk 0 16 (slice_range text (at - 8) (at + 8))) ≡ slice_range text at (at + 8)
last_eight text at low room =
    let all : at + 8 - (at - 8) ≡ 8 + 8 = omega arith in
    let back : at - 8 + 8 ≡ at = omega arith in
    let eight : at + 8 - at ≡ 8 = omega arith in
    let loaded = slice_range text (at - 8) (at + 8) in
    let long : length loaded ≤ 16 = omega (arith, length-take-le (at + 8 - (at - 8)) (drop (at - 8) text) (omega (arith, length-drop (at - 8) text))) in
    ap (drop 8) (take_all 16 loaded long)
    ∙ ap (λ n. drop 8 (take n (drop (at - 8) text))) all
    ∙ drop-take 8 8 (drop (at - 8) text)
    ∙ ap (take 8) (drop-drop 8 (at - 8) text ∙ ap (λ n. drop n text) back)
    ∙ ap (λ n. take n (drop at text)) (sym eight)

-- ---- seconds

-- a day, `T` and a second of the day
pub seconds-at : (text : List ℕ) (at day end : ℕ) → day ≡ at + 10 → end ≡ day + 9 → end ≤ length text → get_or text day 0 ≡ 84
    → IsDateText (slice_range text at day) → IsClockText (slice_range text (day + 1) end) → IsSecondsText (slice_range text at end)
seconds-at text at day end ten nine inside mark date clock = record {
  day = date.day;
  within = date.within;
  second = clock.second;
  few = clock.few;
  text_is =
      slice-parts text at day end (omega (arith, ten)) (omega (arith, nine))
      ∙ ap₂ (λ (d c : List ℕ). d ++ c) date.text_is
      (slice-cons text day end (omega (arith, nine, inside)) (omega (arith, nine)) ∙ ap₂ (λ (x : ℕ) (l : List ℕ). x ∷ l) mark clock.text_is);
}

-- ---- seconds with a fraction

-- a second, a point and digits
pub moment-at : (places : ℕ) (text : List ℕ) (at point end : ℕ) → 0 < places → places ≤ 9 → at < point → point < length text → get_or text point 0 ≡ 46
    → DigitsAt text (point + 1) end → end - (point + 1) ≡ places → IsSecondsText (slice_range text at point) → IsMomentText places (slice_range text at end)
moment-at places text at point end some wide after inside mark digits count seconds =
    let f = slice_range text (point + 1) end in
    let long : length f ≡ places = digits.long ∙ count in
    let front = date_text seconds.day in
    let clock = clock_text seconds.second in
    let fraction : f ≡ padded places (number_of f) =
    sym (padded-digits places f some (omega (arith, long)) (omega (arith, long, wide)) digits.all (λ _. long)) in
    record {
      day = seconds.day;
      within = seconds.within;
      second = seconds.second;
      few = seconds.few;
      fraction = number_of f;
      small = number-few f places digits.all (omega (arith, long));
      text_is =
          slice-parts text at point end (omega (arith, after)) (omega (arith, digits.low))
          ∙ ap₂ (λ (s r : List ℕ). s ++ r) seconds.text_is
          (slice-cons text point end inside (omega (arith, digits.low)) ∙ ap₂ (λ (x : ℕ) (l : List ℕ). x ∷ l) mark fraction)
          ∙ append_assoc front (84 ∷ clock) (46 ∷ padded places (number_of f));
    }
