-- Dates that are printed and read.
use Rattle.std.proofs.Common.{◌≡◌, ℕ, ◌<◌, true, List, [], ◌∷◌, ◌++◌, length, Option, None, Some, ℤ, pos, refl, sym, ◌∙◌, ap, arith, length-append}
use Rattle.std.specs.Option.{option_map}
use Rattle.jiff_core.proofs.CalendarLemmas.{days_in_month_bounds}
use Rattle.jiff_core.specs.Calendar.{IsCivilDate, days_from_civil}
use Rattle.pl_frame.specs.declared.data_type.DataType.TheVariants as dtype
use Rattle.pl_frame.specs.Columns.{is_value_of}
use Rattle.pl_frame.specs.Frame.{Number}
use Rattle.pl_frame.specs.Days.{civil}
use Rattle.pl_text.specs.ValueText.{padded, civil_text, date_of, date_text}
use Rattle.pl_frame.specs.Types.{is_within, day_range}
use Rattle.pl_cells.specs.Integers.{digits_value}
use Rattle.pl_cells.specs.Dates.{number_of_day, date_value}
use Rattle.pl_cells.proofs.DateLaws.{number_of_day-is}
use Rattle.pl_round_trip.specs.RoundTrip.{Returns}
use Rattle.pl_round_trip.proofs.NumeralLaws.{padded-writes, padded-length, digits-value}
use Rattle.pl_round_trip.proofs.ClockLaws.{two-length, two-value}
use Rattle.pl_round_trip.proofs.CalendarLaws.{HasDate, has_date}
use Rattle.pl_text.proofs.DateLaws.{date_of-is}

-- a number of four digits, two of two, and the hyphens between them
date_parts : (a b c : List ℕ) → length a ≡ 4 → length b ≡ 2 → length c ≡ 2
    → date_value (a ++ 45 ∷ (b ++ 45 ∷ c)) ≡ number_of_day (digits_value a) (digits_value b) (digits_value c)
date_parts (a₀ ∷ a₁ ∷ a₂ ∷ a₃ ∷ []) (b₀ ∷ b₁ ∷ []) (c₀ ∷ c₁ ∷ []) h j k = refl
date_parts [] b c h j k = absurd (omega arith)
date_parts (a₀ ∷ []) b c h j k = absurd (omega arith)
date_parts (a₀ ∷ a₁ ∷ []) b c h j k = absurd (omega arith)
date_parts (a₀ ∷ a₁ ∷ a₂ ∷ []) b c h j k = absurd (omega arith)
date_parts (a₀ ∷ a₁ ∷ a₂ ∷ a₃ ∷ a₄ ∷ a) b c h j k = absurd (omega arith)
date_parts (a₀ ∷ a₁ ∷ a₂ ∷ a₃ ∷ []) [] c h j k = absurd (omega arith)
date_parts (a₀ ∷ a₁ ∷ a₂ ∷ a₃ ∷ []) (b₀ ∷ []) c h j k = absurd (omega arith)
date_parts (a₀ ∷ a₁ ∷ a₂ ∷ a₃ ∷ []) (b₀ ∷ b₁ ∷ b₂ ∷ b) c h j k = absurd (omega arith)
date_parts (a₀ ∷ a₁ ∷ a₂ ∷ a₃ ∷ []) (b₀ ∷ b₁ ∷ []) [] h j k = absurd (omega arith)
date_parts (a₀ ∷ a₁ ∷ a₂ ∷ a₃ ∷ []) (b₀ ∷ b₁ ∷ []) (c₀ ∷ []) h j k = absurd (omega arith)
date_parts (a₀ ∷ a₁ ∷ a₂ ∷ a₃ ∷ []) (b₀ ∷ b₁ ∷ []) (c₀ ∷ c₁ ∷ c₂ ∷ c) h j k = absurd (omega arith)

date_length : (a b c : List ℕ) → length a ≡ 4 → length b ≡ 2 → length c ≡ 2 → length (a ++ 45 ∷ (b ++ 45 ∷ c)) ≡ 10
date_length a b c h j k = omega (arith, length-append a (45 ∷ (b ++ 45 ∷ c)), length-append b (45 ∷ c), h, j, k)

four-length : (n : ℕ) → n < 10000 → length (padded 4 n) ≡ 4
four-length n small = padded-length 4 n (omega arith) (omega (arith, small)) (omega (arith, small))

four-value : (n : ℕ) → n < 10000 → digits_value (padded 4 n) ≡ Some n
four-value n small = digits-value n (padded 4 n) (padded-writes 4 n (omega (arith, small)))

three_of : (a b c : Option ℕ) (y m d : ℕ) → a ≡ Some y → b ≡ Some m → c ≡ Some d → number_of_day a b c ≡ number_of_day (Some y) (Some m) (Some d)
three_of a b c y m d e f g = cc

civil-length : (y m d : ℕ) → IsCivilDate (pos y) m d → y < 10000 → length (civil_text (civil y m d)) ≡ 10
civil-length y m d h few =
    let month : m < 100 = omega (arith, h.1.1) in
    let day : d < 100 = omega (arith, h.2.1, days_in_month_bounds (pos y) m) in
    date_length (padded 4 y) (padded 2 m) (padded 2 d) (four-length y few) (two-length m month) (two-length d day)

civil-returns : (y m d : ℕ) → IsCivilDate (pos y) m d → y < 10000 → date_value (civil_text (civil y m d)) ≡ Some (days_from_civil (pos y) m d)
civil-returns y m d h few =
    let month : m < 100 = omega (arith, h.1.1) in
    let day : d < 100 = omega (arith, h.2.1, days_in_month_bounds (pos y) m) in
    date_parts (padded 4 y) (padded 2 m) (padded 2 d) (four-length y few) (two-length m month) (two-length d day)
    ∙ three_of (digits_value (padded 4 y)) (digits_value (padded 2 m)) (digits_value (padded 2 d)) y m d (four-value y few) (two-value m month) (two-value d day)
    ∙ sym (number_of_day-is y m d (days_from_civil (pos y) m d) h.1 h.2 refl)

pub text_is : (day : ℤ) (date : HasDate day) → civil_text (civil date.y date.m date.d) ≡ date_text day
text_is day date =
    sym (ap (λ o. elim o [ None ↦ [] | Some found ↦ civil_text found ]) (ap date_of (sym date.number) ∙ date_of-is date.y date.m date.d date.is_date date.few))

pub date-length : (day : ℤ) → is_within day_range day ≡ true → length (date_text day) ≡ 10
date-length day h = let date = has_date day h in ap length (sym (text_is day date)) ∙ civil-length date.y date.m date.d date.is_date date.few

pub date-returns : (day : ℤ) → is_within day_range day ≡ true → date_value (date_text day) ≡ Some day
date-returns day h =
    let date = has_date day h in
    ap date_value (sym (text_is day date)) ∙ civil-returns date.y date.m date.d date.is_date date.few ∙ ap Some date.number

pub day-returns : (day : ℤ) → is_value_of dtype.Date (Number day) ≡ true → Returns dtype.Date (Number day)
day-returns day h = ap (option_map Number) (date-returns day h)
