-- The date of a day number.
use Rattle.std.proofs.Common.{◌≡◌, ◌≢◌, ℕ, zero, suc, ◌+◌, ◌<◌, ◌≤◌, ◌==◌, nat_le, Bool, true, false, ℤ, pos, negsuc, neg_ℤ, unsigned_abs, ◌+ℤ◌, ◌<ℤ◌, ◌≤ℤ◌, List, [], ◌∷◌, None, Some, refl, sym, ◌∙◌, ap, subst, arith}
use Rattle.std.proofs.lemmas.Bool.Decides.{nat_tests, Decides-int_eq}
use Rattle.std.proofs.lemmas.List.Concat.{flat_map_single}
use Rattle.std.proofs.lemmas.List.Folds.{find-append}
use Rattle.std.proofs.lemmas.Int.{by_lt_z}
use Rattle.std.specs.Int.{IsInRange}
use Rattle.std.specs.List.{find, flat_map, range_with_len}
use Rattle.std.specs.Ordering.{int_eq}
use Rattle.jiff_core.proofs.CalendarLemmas.{days_from_civil-day_count, day_count-lt_year, day_count-lt_month, day_count-day}
use Rattle.jiff_core.proofs.MarchLemmas.{day_count-early}
use Rattle.jiff_core.proofs.SignedLemmas.{signed_arith}
use Rattle.jiff_core.specs.Calendar.{IsCivilDate, day_count, days_in_month, days_from_civil}
use Rattle.pl_frame.specs.Types.{is_within, day_range}
use Rattle.pl_frame.specs.Days.{CivilDate, civil, day_number}
use Rattle.pl_text.specs.ValueText.{dates_of_month, dates_of_year, civil_dates, date_of, civil_text, date_text}

-- ---- the one place of a list of parts

-- nothing is found where no part has it
find_none : {X : Type 0} (p : X → Bool) (f : ℕ → List X) (from n : ℕ) → ((y : ℕ) → from ≤ y → y < from + n → find p (f y) ≡ None) → find p (flat_map f (range_with_len from n)) ≡ None
find_none p f from zero none = refl
find_none p f from (suc n) none =
    let first = none from (omega (arith)) (omega (arith)) in
    let rest = find_none p f (from + 1) n (λ y low high. none y (omega (arith, low)) (omega (arith, high))) in
    find-append p (f from) (flat_map f (range_with_len (from + 1) n)) ∙ rw (first, rest) refl

-- and what one part has is found where no other part has any
find_one : {X : Type 0} (p : X → Bool) (f : ℕ → List X) (from n k : ℕ) (x : X) → from ≤ k → k < from + n
    → ((y : ℕ) → from ≤ y → y < from + n → y ≢ k → find p (f y) ≡ None) → find p (f k) ≡ Some x → find p (flat_map f (range_with_len from n)) ≡ Some x
find_one p f from zero k x low high others here = absurd (omega (arith, low, high))
find_one {X = X} p f from (suc n) k x low high others here = by_place (from == k) refl (λ later. find_one p f (from + 1) n k x later (omega (arith, high)) (λ y least most. others y (omega (arith, least)) (omega (arith, most))) here)
  where
    by_place : (t : Bool) → (from == k) ≡ t → (from + 1 ≤ k → find p (flat_map f (range_with_len (from + 1) n)) ≡ Some x) → find p (flat_map f (range_with_len from (suc n))) ≡ Some x
    by_place true h deeper =
        let same : from ≡ k = grind (arith, nat_tests, h) in
        find-append p (f from) (flat_map f (range_with_len (from + 1) n)) ∙ rw (ap (λ y. find p (f y)) same ∙ here) refl
    by_place false h deeper =
        let other : from ≢ k = grind (arith, nat_tests, h) in
        let first = others from (omega (arith)) (omega (arith)) other in
        find-append p (f from) (flat_map f (range_with_len (from + 1) n)) ∙ rw first (deeper (grind (arith, low, other)))

-- ---- days

-- one number is below another, or not
by_lt : {P : Type 0} (a b : ℕ) → (a < b → P) → (b ≤ a → P) → P
by_lt {P = P} a b less more = by_test (nat_le b a) refl
  where
    by_test : (t : Bool) → nat_le b a ≡ t → P
    by_test true h = more (grind (arith, nat_tests, h))
    by_test false h = less (grind (arith, nat_tests, h))

-- a date with another day count has another day number
differs : (a b c x y z : ℕ) → day_count (pos a) b c ≢ day_count (pos x) y z → int_eq (day_number (civil a b c)) (days_from_civil (pos x) y z) ≡ false
differs a b c x y z other = by_test (int_eq (day_number (civil a b c)) (days_from_civil (pos x) y z)) (λ h. (Decides-int_eq (day_number (civil a b c)) (days_from_civil (pos x) y z)).0 h)
  where
    by_test : (t : Bool) → (t ≡ true → day_number (civil a b c) ≡ days_from_civil (pos x) y z) → t ≡ false
    by_test false same = refl
    by_test true same =
        let one = days_from_civil-day_count (pos a) b c in
        let two = days_from_civil-day_count (pos x) y z in
        absurd (other (omega (arith, signed_arith, same refl, one, two)))

-- the dates of a month of which none is found
month_none : (p : CivilDate → Bool) (year month : ℕ) → ((day : ℕ) → IsInRange 1 (days_in_month (pos year) month) day → p (civil year month day) ≡ false) → find p (dates_of_month year month) ≡ None
month_none p year month none =
    ap (find p) (sym (flat_map_single (civil year month) (range_with_len 1 (days_in_month (pos year) month))))
    ∙ find_none p (λ day. civil year month day ∷ []) 1 (days_in_month (pos year) month) (λ day low high. rw (none day (low, omega (arith, high))) refl)

year_none : (p : CivilDate → Bool) (year : ℕ) → ((month day : ℕ) → IsInRange 1 12 month → IsInRange 1 (days_in_month (pos year) month) day → p (civil year month day) ≡ false) → find p (dates_of_year year) ≡ None
year_none p year none = find_none p (dates_of_month year) 1 12 (λ month low high. month_none p year month (λ day in_month. none month day (low, omega (arith, high)) in_month))

-- the date of a day number is the one that has it
pub date_of-is : (y m d : ℕ) → IsCivilDate (pos y) m d → y < 10000 → date_of (days_from_civil (pos y) m d) ≡ Some (civil y m d)
unfolding date_of civil_dates
date_of-is y m d h small = find_one p dates_of_year 0 10000 y (civil y m d) (omega (arith)) small other_year here_year
  where
    z : ℤ
    z = days_from_civil (pos y) m d

    p : CivilDate → Bool
    p = λ date. int_eq (day_number date) (days_from_civil (pos y) m d)

    here : p (civil y m d) ≡ true
    here = (Decides-int_eq (day_number (civil y m d)) (days_from_civil (pos y) m d)).1 refl

    other_day : (day : ℕ) → IsInRange 1 (days_in_month (pos y) m) day → day ≢ d → p (civil y m day) ≡ false
    other_day day in_month other = differs y m day y m d (λ same. other (omega (arith, same, day_count-day (pos y) m day d in_month.0 h.2.0)))

    other_month : (month : ℕ) → IsInRange 1 12 month → month ≢ m → find p (dates_of_month y month) ≡ None
    other_month month in_year other = month_none p y month (λ day in_month. differs y month day y m d (λ same. by_order month day in_year in_month same other))
      where
        by_order : (month day : ℕ) → IsInRange 1 12 month → IsInRange 1 (days_in_month (pos y) month) day → day_count (pos y) month day ≡ day_count (pos y) m d → month ≢ m → ⊥
        by_order month day in_year in_month same other = by_lt month m
            (λ lt. omega (arith, same, day_count-lt_month (pos y) month day m d (h.0, in_year, in_month) h.2.0 lt))
            (λ le. omega (arith, same, day_count-lt_month (pos y) m d month day h in_month.0 (grind (arith, le, other))))

    here_month : find p (dates_of_month y m) ≡ Some (civil y m d)
    here_month =
        ap (find p) (sym (flat_map_single (civil y m) (range_with_len 1 (days_in_month (pos y) m))))
        ∙ find_one p (λ day. civil y m day ∷ []) 1 (days_in_month (pos y) m) d (civil y m d) h.2.0 (omega (arith, h.2.1))
        (λ day low high other. rw (other_day day (low, omega (arith, high)) other) refl) (rw here refl)

    here_year : find p (dates_of_year y) ≡ Some (civil y m d)
    here_year = find_one p (dates_of_month y) 1 12 m (civil y m d) h.1.0 (omega (arith, h.1.1)) (λ month low high other. other_month month (low, omega (arith, high)) other) here_month

    other_year : (year : ℕ) → 0 ≤ year → year < 0 + 10000 → year ≢ y → find p (dates_of_year year) ≡ None
    other_year year low high other = year_none p year (λ month day in_year in_month. differs year month day y m d (λ same. by_order month day in_year in_month same))
      where
        by_order : (month day : ℕ) → IsInRange 1 12 month → IsInRange 1 (days_in_month (pos year) month) day → day_count (pos year) month day ≡ day_count (pos y) m d → ⊥
        by_order month day in_year in_month same = by_lt year y
            (λ lt. omega (arith, same, day_count-lt_year (pos year) month day (pos y) m d (omega (arith, signed_arith, high), in_year, in_month) h.2.0 (omega (arith, signed_arith, lt))))
            (λ le. omega (arith, same, day_count-lt_year (pos y) m d (pos year) month day h in_month.0 (grind (arith, signed_arith, le, other))))

first_day : day_count (pos 0) 1 1 ≡ 3652425
first_day = day_count-early (pos 0) 9999 1 1 refl (omega arith) (omega arith) (omega arith)

-- a number that is not negative is its size
not_negative : (z : ℤ) → pos 0 ≤ℤ z → z ≤ℤ pos 9999 → (z ≡ pos (unsigned_abs z)) × (unsigned_abs z < 10000)
not_negative (pos n) low high = (refl, omega (arith, signed_arith, high))
not_negative (negsuc n) low high = absurd (omega (arith, signed_arith, low))

-- a day of the years 0000 to 9999 is one of a year that is not negative
pub year_is : (year : ℤ) (m d : ℕ) (day : ℤ) → IsCivilDate year m d → days_from_civil year m d ≡ day → is_within day_range day ≡ true → (year ≡ pos (unsigned_abs year)) × (unsigned_abs year < 10000)
year_is year m d day h is within = by_lt_z year (pos 0) early late
  where
    low : neg_ℤ (pos 719528) ≤ℤ day
    low = grind (arith, signed_arith, within)

    early : year <ℤ pos 0 → (year ≡ pos (unsigned_abs year)) × (unsigned_abs year < 10000)
    early lt = absurd (omega (arith, signed_arith, low, is, first_day, days_from_civil-day_count year m d, day_count-lt_year year m d (pos 0) 1 1 h (omega (arith)) lt))

    late : pos 0 ≤ℤ year → (year ≡ pos (unsigned_abs year)) × (unsigned_abs year < 10000)
    late le = not_negative year le h.0.1

-- the range of days, as numbers compare
pub in_days : (day : ℤ) → is_within day_range day ≡ true → (neg_ℤ (pos 719528) ≤ℤ day) × (day ≤ℤ pos 2932896)
in_days day within = (grind (arith, signed_arith, within), grind (arith, signed_arith, within))

-- the text of a day number is that of the one date that has it
pub date_text-is : (year : ℤ) (m d : ℕ) (day : ℤ) → IsCivilDate year m d → days_from_civil year m d ≡ day → is_within day_range day ≡ true → civil_text (civil (unsigned_abs year) m d) ≡ date_text day
date_text-is year m d day h is within =
    let number = year_is year m d day h is within in
    let y = unsigned_abs year in
    let civil_date : IsCivilDate (pos y) m d = subst (λ z. IsCivilDate z m d) number.0 h in
    let same : days_from_civil (pos y) m d ≡ day = ap (λ z. days_from_civil z m d) (sym number.0) ∙ is in
    sym (ap (λ o. elim o [ None ↦ [] | Some date ↦ civil_text date ]) (ap date_of (sym same) ∙ date_of-is y m d civil_date number.1))

-- a number that is not negative is its size
size_is : (z : ℤ) → pos 0 ≤ℤ z → pos (unsigned_abs z) ≡ z
size_is (pos n) low = refl
size_is (negsuc n) low = absurd (omega (arith, signed_arith, low))

-- two days that are as far from the first day of the calendar are one
pub same_day : (z day : ℤ) → is_within day_range day ≡ true → z +ℤ pos 4371587 ≡ pos (unsigned_abs (day +ℤ pos 4371587)) → z ≡ day
same_day z day within h =
    let bounds = in_days day within in
    let low : pos 0 ≤ℤ (day +ℤ pos 4371587) = omega (arith, signed_arith, bounds) in
    let sum : z +ℤ pos 4371587 ≡ day +ℤ pos 4371587 = h ∙ size_is (day +ℤ pos 4371587) low in
    omega (arith, signed_arith, sum)
