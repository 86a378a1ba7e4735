-- Times that are printed and read.
use Rattle.std.proofs.Common.{◌≡◌, ℕ, ◌+◌, ◌-◌, ◌*◌, ◌/◌, ◌%◌, ◌^◌, ◌<◌, ◌≤◌, true, List, [], ◌∷◌, ◌++◌, length, take, drop, Option, Some, ℤ, pos, negsuc, refl, ◌∙◌, ap, arith, length-append, nat_le}
use Rattle.std.specs.Option.{option_map}
use Rattle.std.proofs.lemmas.Bool.Decides.{nat_tests}
use Rattle.jiff_core.proofs.SignedLemmas.{signed_arith}
use Rattle.pl_frame.specs.declared.data_type.DataType.TheVariants as dtype
use Rattle.pl_frame.specs.Columns.{is_value_of}
use Rattle.pl_frame.specs.Frame.{Number}
use Rattle.pl_text.specs.ValueText.{padded, clock_text}
use Rattle.pl_cells.specs.Integers.{is_digits, number_of, digits_value}
use Rattle.pl_cells.specs.Times.{second_of_day, clock_value, filled, fraction_value, in_nanoseconds, time_value}
use Rattle.pl_cells.proofs.IntegerLaws.{number_of-filled, is_digits-cons}
use Rattle.pl_round_trip.specs.RoundTrip.{Returns}
use Rattle.pl_round_trip.proofs.NumeralLaws.{padded-writes, padded-length, digits-value}
use Rattle.pl_round_trip.proofs.PartLaws.{take-front, drop-front}

-- three numbers of two digits and the colons between them
clock_parts : (a b c : List ℕ) → length a ≡ 2 → length b ≡ 2 → length c ≡ 2
    → clock_value (a ++ 58 ∷ (b ++ 58 ∷ c)) ≡ second_of_day (digits_value a) (digits_value b) (digits_value c)
clock_parts (a₀ ∷ a₁ ∷ []) (b₀ ∷ b₁ ∷ []) (c₀ ∷ c₁ ∷ []) h j k = refl
clock_parts [] b c h j k = absurd (omega arith)
clock_parts (a₀ ∷ []) b c h j k = absurd (omega arith)
clock_parts (a₀ ∷ a₁ ∷ a₂ ∷ a) b c h j k = absurd (omega arith)
clock_parts (a₀ ∷ a₁ ∷ []) [] c h j k = absurd (omega arith)
clock_parts (a₀ ∷ a₁ ∷ []) (b₀ ∷ []) c h j k = absurd (omega arith)
clock_parts (a₀ ∷ a₁ ∷ []) (b₀ ∷ b₁ ∷ b₂ ∷ b) c h j k = absurd (omega arith)
clock_parts (a₀ ∷ a₁ ∷ []) (b₀ ∷ b₁ ∷ []) [] h j k = absurd (omega arith)
clock_parts (a₀ ∷ a₁ ∷ []) (b₀ ∷ b₁ ∷ []) (c₀ ∷ []) h j k = absurd (omega arith)
clock_parts (a₀ ∷ a₁ ∷ []) (b₀ ∷ b₁ ∷ []) (c₀ ∷ c₁ ∷ c₂ ∷ c) h j k = absurd (omega arith)

clock_length : (a b c : List ℕ) → length a ≡ 2 → length b ≡ 2 → length c ≡ 2 → length (a ++ 58 ∷ (b ++ 58 ∷ c)) ≡ 8
clock_length a b c h j k = omega (arith, length-append a (58 ∷ (b ++ 58 ∷ c)), length-append b (58 ∷ c), h, j, k)

pub two-length : (n : ℕ) → n < 100 → length (padded 2 n) ≡ 2
two-length n small = padded-length 2 n (omega arith) (omega (arith, small)) (omega (arith, small))

pub two-value : (n : ℕ) → n < 100 → digits_value (padded 2 n) ≡ Some n
two-value n small = digits-value n (padded 2 n) (padded-writes 2 n (omega (arith, small)))

pub clock-length : (s : ℕ) → s < 86400 → length (clock_text s) ≡ 8
clock-length s small =
    clock_length (padded 2 (s / 3600)) (padded 2 (s / 60 % 60)) (padded 2 (s % 60))
    (two-length (s / 3600) (omega (arith, small))) (two-length (s / 60 % 60) (omega (arith, small))) (two-length (s % 60) (omega (arith, small)))

second-is : (h m s n : ℕ) → h < 24 → m < 60 → s < 60 → h * 3600 + m * 60 + s ≡ n → second_of_day (Some h) (Some m) (Some s) ≡ Some n
second-is h m s n hours minutes seconds is = grind (arith, nat_tests, hours, minutes, seconds, is)

three_of : (a b c : Option ℕ) (h m s : ℕ) → a ≡ Some h → b ≡ Some m → c ≡ Some s → second_of_day a b c ≡ second_of_day (Some h) (Some m) (Some s)
three_of a b c h m s e f g = cc

pub clock-returns : (s : ℕ) → s < 86400 → clock_value (clock_text s) ≡ Some s
clock-returns s small =
    let h = s / 3600 in
    let m = s / 60 % 60 in
    let r = s % 60 in
    let hours : s / 3600 < 24 = omega (arith, small) in
    let minutes : s / 60 % 60 < 60 = omega (arith, small) in
    let seconds : s % 60 < 60 = omega (arith, small) in
    let sum : s / 3600 * 3600 + s / 60 % 60 * 60 + s % 60 ≡ s = omega (arith) in
    clock_parts (padded 2 h) (padded 2 m) (padded 2 r) (two-length h (omega (arith, hours))) (two-length m (omega (arith, minutes))) (two-length r (omega (arith, seconds)))
    ∙ three_of (digits_value (padded 2 h)) (digits_value (padded 2 m)) (digits_value (padded 2 r)) h m r (two-value h (omega (arith, hours))) (two-value m (omega (arith, minutes))) (two-value r (omega (arith, seconds)))
    ∙ second-is h m r s hours minutes seconds sum

-- a fraction of so many digits
fraction_of : (digits : List ℕ) (n : ℕ) → is_digits digits ≡ true → length digits ≤ 9 → number_of (filled 9 digits) ≡ n → fraction_value (46 ∷ digits) ≡ Some n
fraction_of digits n all few is =
    let short : nat_le (length digits) 9 ≡ true = grind (arith, nat_tests, few) in
    rw (all, short) (ap Some is)

pub fraction-returns : (places n : ℕ) → 0 < places → places ≤ 9 → n < 10 ^ places → n < 10 ^ 64 → fraction_value (46 ∷ padded places n) ≡ Some (n * 10 ^ (9 - places))
fraction-returns places n some few small bound =
    let w = padded-writes places n bound in
    let long = padded-length places n some small bound in
    fraction_of (padded places n) (n * 10 ^ (9 - places)) (is_digits-cons (padded places n) w.some ∙ w.all) (omega (arith, long, few))
    (number_of-filled (padded places n) 9 (omega (arith, long, few)) ∙ ap (λ k. number_of (padded places n) * 10 ^ (9 - k)) long ∙ ap (λ m. m * 10 ^ (9 - places)) w.value)

nanoseconds_of : (text : List ℕ) (a b : Option ℕ) (s f : ℕ) → clock_value (take 8 text) ≡ a → fraction_value (drop 8 text) ≡ b → a ≡ Some s → b ≡ Some f → time_value text ≡ Some (s * 10 ^ 9 + f)
nanoseconds_of text a b s f e g h k = ap (λ o. in_nanoseconds o (fraction_value (drop 8 text))) (e ∙ h) ∙ ap (λ o. in_nanoseconds (Some s) o) (g ∙ k)

-- a clock and a fraction
pub time-returns : (s places n : ℕ) → s < 86400 → 0 < places → places ≤ 9 → n < 10 ^ places → n < 10 ^ 64
    → time_value (clock_text s ++ 46 ∷ padded places n) ≡ Some (s * 10 ^ 9 + n * 10 ^ (9 - places))
time-returns s places n day some few small bound =
    nanoseconds_of (clock_text s ++ 46 ∷ padded places n) (clock_value (clock_text s)) (fraction_value (46 ∷ padded places n)) s (n * 10 ^ (9 - places))
    (ap clock_value (take-front 8 (clock_text s) (46 ∷ padded places n) (clock-length s day)))
    (ap fraction_value (drop-front 8 (clock_text s) (46 ∷ padded places n) (clock-length s day)))
    (clock-returns s day) (fraction-returns places n some few small bound)

pub time_of_day-returns : (n : ℤ) → is_value_of dtype.Time (Number n) ≡ true → Returns dtype.Time (Number n)
time_of_day-returns (pos n) h =
    let bound : n < 86400 * 10 ^ 9 = grind (arith, signed_arith, h) in
    let sum : n / 10 ^ 9 * 10 ^ 9 + n % 10 ^ 9 * 10 ^ (9 - 9) ≡ n = omega (arith) in
    ap (option_map Number) (ap (option_map pos) (time-returns (n / 10 ^ 9) 9 (n % 10 ^ 9) (omega (arith, bound)) (omega arith) (omega arith) (omega arith) (omega arith) ∙ ap Some sum))
time_of_day-returns (negsuc n) h = cc
