-- Datetimes, with a fraction as they are printed or without one, are cells of the types that hold them.
use Rattle.std.proofs.Common.{◌≡◌, ℕ, ◌+◌, ◌-◌, ◌*◌, ◌/◌, ◌^◌, ◌<◌, ◌≤◌, Bool, true, false, if◌then◌else◌, List, [], ◌∷◌, ◌++◌, length, take, drop, get_or, Option, None, Some, Ok, Err, ℤ, pos, negsuc, refl, sym, ◌∙◌, ap, ap₂, subst, inl, inr, arith, append-nil, append_assoc}
use Rattle.std.specs.Prelude.{◌+ℤ◌, ◌*ℤ◌}
use Rattle.std.specs.Int.{int_div_euclid}
use Rattle.std.specs.List.{list_any}
use Rattle.std.specs.Option.{option_map}
use Rattle.std.proofs.lemmas.List.{take_all, drop_all}
use Rattle.jiff_core.proofs.SignedLemmas.{signed_arith}
use Rattle.pl_frame.specs.declared.data_type.DataType.{DataType}
use Rattle.pl_frame.specs.declared.data_type.DataType.TheVariants as dtype
use Rattle.pl_frame.specs.declared.data_type.TimeUnit.{TimeUnit}
use Rattle.pl_frame.specs.declared.data_type.TimeUnit.TheVariants as unit
use Rattle.pl_frame.specs.Frame.{Scalar, Number}
use Rattle.pl_text.specs.ValueText.{padded, places_of, date_text, clock_text, datetime_text}
use Rattle.pl_text.specs.FrameText.{WriteOptions, is_special, written_value}
use Rattle.pl_frame.specs.Types.{is_within, day_range, datetime_range, signed_range, is_narrow, units_in_second}
use Rattle.pl_cells.specs.Cells.{Reading, Cell, value_or_null, text_cell, plain_cell, softened, stripped_cell, cell}
use Rattle.pl_cells.specs.Dates.{date_value}
use Rattle.pl_cells.specs.Faults as fault
use Rattle.pl_cells.specs.Integers.{only_within}
use Rattle.pl_cells.specs.NullTest.{nothing_is_null}
use Rattle.pl_cells.specs.Quoting.{quote_of}
use Rattle.pl_cells.specs.Times.{clock_value, fraction_value, in_nanoseconds, time_value, count_of_units, datetime_of, datetime_value}
use Rattle.pl_cells.specs.Values.{value_of_text}
use Rattle.pl_cells.proofs.IntegerLaws.{and_true}
use Rattle.pl_round_trip.specs.RoundTrip.{IsFieldText, are_plain, line_marks, is_printed_byte}
use Rattle.pl_round_trip.specs.Fits.{FitsOptions, has_special}
use Rattle.pl_round_trip.proofs.ClockLaws.{clock-length, clock-returns}
use Rattle.pl_round_trip.proofs.DayLaws.{date-length, date-returns}
use Rattle.pl_round_trip.proofs.FieldLaws.{lacks, lacks-first, lacks-plain, no_end, not_quoted, softened-ok, stripped}
use Rattle.pl_round_trip.proofs.PartLaws.{take-front, drop-front_one, at-front}
use Rattle.pl_round_trip.proofs.PlainLaws.{printed-plain}
use Rattle.pl_round_trip.proofs.ValueLaws.{some_text}
use Rattle.pl_round_trip.proofs.WrittenLaws.{written-field}
use Rattle.pl_round_trip.proofs.MomentLaws.{second, rest}
use Rattle.pl_verbatim.specs.declared.kinds.Kind.{Kind}
use Rattle.pl_verbatim.specs.declared.kinds.Kind.TheVariants as kind
use Rattle.pl_verbatim.specs.CellTexts.{IsSecondsText, IsMomentText, IsCellOptions, IsCellOf, IsChangeOf, IsCopyOf, zeros_text}
use Rattle.pl_verbatim.specs.Kinds.{HoldsMoments, IsKindOf}
use Rattle.pl_verbatim.proofs.CellLaws.{IsCellOfKind, value-fits}
use Rattle.pl_verbatim.proofs.DateLaws.{padded-one}

-- ---- the count of a datetime

-- of a day, a second of the day and so many units
abbrev pub count : ℕ → ℤ → ℕ → ℕ → ℤ
count units d s f = (d *ℤ pos (86400 * units)) +ℤ pos (s * units + f)

-- a count of seconds of a day and a second of the day
abbrev pub seconds : ℤ → ℕ → ℤ
seconds d s = (d *ℤ pos 86400) +ℤ pos s

-- the seconds of a count
seconds-is : (unit : TimeUnit) (d : ℤ) (s f : ℕ) → f < units_in_second unit → second (units_in_second unit) (count (units_in_second unit) d s f) ≡ seconds d s
seconds-is unit.Milliseconds (pos d) s f small = omega (arith, signed_arith)
seconds-is unit.Milliseconds (negsuc d) s f small = omega (arith, signed_arith)
seconds-is unit.Microseconds (pos d) s f small = omega (arith, signed_arith)
seconds-is unit.Microseconds (negsuc d) s f small = omega (arith, signed_arith)
seconds-is unit.Nanoseconds (pos d) s f small = omega (arith, signed_arith)
seconds-is unit.Nanoseconds (negsuc d) s f small = omega (arith, signed_arith)

-- and its rest
rest-is : (unit : TimeUnit) (d : ℤ) (s f : ℕ) → f < units_in_second unit → rest (units_in_second unit) (count (units_in_second unit) d s f) ≡ f
rest-is unit.Milliseconds (pos d) s f small = omega (arith, signed_arith)
rest-is unit.Milliseconds (negsuc d) s f small = omega (arith, signed_arith)
rest-is unit.Microseconds (pos d) s f small = omega (arith, signed_arith)
rest-is unit.Microseconds (negsuc d) s f small = omega (arith, signed_arith)
rest-is unit.Nanoseconds (pos d) s f small = omega (arith, signed_arith)
rest-is unit.Nanoseconds (negsuc d) s f small = omega (arith, signed_arith)

day-is : (d : ℤ) (s : ℕ) → s < 86400 → int_div_euclid (seconds d s) (pos 86400) ≡ d
day-is (pos d) s few = omega (arith, signed_arith)
day-is (negsuc d) s few = omega (arith, signed_arith)

of_day-is : (d : ℤ) (s : ℕ) → s < 86400 → rest 86400 (seconds d s) ≡ s
of_day-is (pos d) s few = omega (arith, signed_arith)
of_day-is (negsuc d) s few = omega (arith, signed_arith)

-- its range
count-within : (unit : TimeUnit) (d : ℤ) (s f : ℕ) → is_within day_range d ≡ true → s < 86400 → f < units_in_second unit
    → is_within (datetime_range (units_in_second unit)) (count (units_in_second unit) d s f) ≡ true
count-within unit.Milliseconds (pos d) s f within few small = grind (arith, signed_arith, within, few, small)
count-within unit.Milliseconds (negsuc d) s f within few small = grind (arith, signed_arith, within, few, small)
count-within unit.Microseconds (pos d) s f within few small = grind (arith, signed_arith, within, few, small)
count-within unit.Microseconds (negsuc d) s f within few small = grind (arith, signed_arith, within, few, small)
count-within unit.Nanoseconds (pos d) s f within few small = grind (arith, signed_arith, within, few, small)
count-within unit.Nanoseconds (negsuc d) s f within few small = grind (arith, signed_arith, within, few, small)

-- in 64 bits, where each of the unit is
count-fits : (unit : TimeUnit) (n : ℤ) → is_narrow (datetime_range (units_in_second unit)) ≡ true → is_within (datetime_range (units_in_second unit)) n ≡ true → is_within (signed_range 64) n ≡ true
count-fits unit.Milliseconds n narrow within = grind (arith, signed_arith, within)
count-fits unit.Microseconds n narrow within = grind (arith, signed_arith, within)
count-fits unit.Nanoseconds n narrow within = cc

-- ---- texts

-- a count is printed as its day, its second of the day and its rest
count-printed : (unit : TimeUnit) (d : ℤ) (s f : ℕ) → s < 86400 → f < units_in_second unit
    → datetime_text unit (count (units_in_second unit) d s f) ≡ date_text d ++ 84 ∷ (clock_text s ++ 46 ∷ padded (places_of unit) f)
count-printed unit d s f few small =
    ap₂ (λ (q : ℤ) (r : ℕ). (date_text (int_div_euclid q (pos 86400)) ++ 84 ∷ clock_text (rest 86400 q)) ++ 46 ∷ padded (places_of unit) r) (seconds-is unit d s f small) (rest-is unit d s f small)
    ∙ ap₂ (λ (e : ℤ) (t : ℕ). (date_text e ++ 84 ∷ clock_text t) ++ 46 ∷ padded (places_of unit) f) (day-is d s few) (of_day-is d s few)
    ∙ append_assoc (date_text d) (84 ∷ clock_text s) (46 ∷ padded (places_of unit) f)

units-is : (unit : TimeUnit) → 10 ^ places_of unit ≡ units_in_second unit
units-is unit.Milliseconds = refl
units-is unit.Microseconds = refl
units-is unit.Nanoseconds = refl

bare : (o : WriteOptions) (text : List ℕ) → o.style ≡ 0 → written_value o false text ≡ text
bare o text e = rw e refl

-- ---- cells

-- a datetime with a fraction in as many digits as the unit has is printed so
pub moment-cell : (o : WriteOptions) (separator quote places : ℕ) (type : DataType) (text : List ℕ) → IsCellOptions o separator quote → HoldsMoments places type → IsMomentText places text → IsCellOf o type text
moment-cell o separator quote places type text is holds w =
    let u = units_in_second holds.unit in
    let small : w.fraction < u = omega (arith, w.small, ap (λ (k : ℕ). 10 ^ k) holds.places_is, units-is holds.unit) in
    let n = count u w.day w.second w.fraction in
    let within = count-within holds.unit w.day w.second w.fraction w.within w.few small in
    subst (λ t. IsCellOf o t text) (sym holds.type_is) (record {
      value = Some (Number n);
      fits = value-fits o separator quote (dtype.Datetime holds.unit) (Number n) is refl within (count-fits holds.unit n holds.fits within);
      text_is =
          w.text_is ∙ ap (λ (k : ℕ). date_text w.day ++ 84 ∷ (clock_text w.second ++ 46 ∷ padded k w.fraction)) holds.places_is
          ∙ sym (bare o (datetime_text holds.unit n) is.style_is ∙ count-printed holds.unit w.day w.second w.fraction w.few small);
    })

pub moment-kind : (separator quote : ℕ) (own : Kind) (places : ℕ) (text : List ℕ) → own ≡ kind.Datetime places → IsMomentText places text → IsCellOfKind separator quote own text
moment-kind separator quote own places text is w =
    subst (λ k. IsCellOfKind separator quote k text) (sym is) (λ o type options holds. moment-cell o separator quote places type text options holds w)

-- ---- without a fraction

-- `T` behind ten bytes
marked : (unit : TimeUnit) (text : List ℕ) → get_or text 10 0 ≡ 84 → datetime_value unit text ≡ datetime_of (units_in_second unit) (date_value (take 10 text)) (time_value (drop 11 text))
marked unit text e = rw e refl

parts-value : (unit : TimeUnit) (date clock : List ℕ) (d : ℤ) (nanoseconds : ℕ) → length date ≡ 10 → date_value date ≡ Some d → time_value clock ≡ Some nanoseconds
    → datetime_value unit (date ++ 84 ∷ clock) ≡ only_within (signed_range 64) (count_of_units (units_in_second unit) d nanoseconds)
parts-value unit date clock d nanoseconds long e h =
    marked unit (date ++ 84 ∷ clock) (at-front 10 date 84 clock long)
    ∙ ap (λ l. datetime_of (units_in_second unit) (date_value l) (time_value (drop 11 (date ++ 84 ∷ clock)))) (take-front 10 date (84 ∷ clock) long)
    ∙ ap (λ l. datetime_of (units_in_second unit) (date_value date) (time_value l)) (drop-front_one 10 date 84 clock long)
    ∙ ap (λ r. datetime_of (units_in_second unit) r (time_value clock)) e
    ∙ ap (λ r. datetime_of (units_in_second unit) (Some d) r) h

-- a second of the day
clock-time : (s : ℕ) → s < 86400 → time_value (clock_text s) ≡ Some (s * 10 ^ 9 + 0)
clock-time s few =
    let long = clock-length s few in
    let short : length (clock_text s) ≤ 8 = omega (arith, long) in
    ap₂ (λ (a b : List ℕ). in_nanoseconds (clock_value a) (fraction_value b)) (take_all 8 (clock_text s) short) (drop_all 8 (clock_text s) short)
    ∙ ap (λ (r : Option ℕ). in_nanoseconds r (Some 0)) (clock-returns s few)

-- the count that is read is the one without a rest
count-read : (unit : TimeUnit) (d : ℤ) (s : ℕ) → count_of_units (units_in_second unit) d (s * 10 ^ 9 + 0) ≡ count (units_in_second unit) d s 0
count-read unit.Milliseconds d s = let same : (s * 1000000000 + 0) / 1000000 ≡ s * 1000 + 0 = omega arith in ap (λ (k : ℕ). (d *ℤ pos (86400 * 1000)) +ℤ pos k) same
count-read unit.Microseconds d s = let same : (s * 1000000000 + 0) / 1000 ≡ s * 1000000 + 0 = omega arith in ap (λ (k : ℕ). (d *ℤ pos (86400 * 1000000)) +ℤ pos k) same
count-read unit.Nanoseconds d s = let same : (s * 1000000000 + 0) / 1 ≡ s * 1000000000 + 0 = omega arith in ap (λ (k : ℕ). (d *ℤ pos (86400 * 1000000000)) +ℤ pos k) same

kept : (n : ℤ) → is_within (signed_range 64) n ≡ true → only_within (signed_range 64) n ≡ Some n
kept n h = rw h refl

seconds-value : (unit : TimeUnit) (d : ℤ) (s : ℕ) → is_within day_range d ≡ true → s < 86400 → is_within (signed_range 64) (count (units_in_second unit) d s 0) ≡ true
    → datetime_value unit (date_text d ++ 84 ∷ clock_text s) ≡ Some (count (units_in_second unit) d s 0)
seconds-value unit d s within few fits =
    parts-value unit (date_text d) (clock_text s) d (s * 10 ^ 9 + 0) (date-length d within) (date-returns d within) (clock-time s few)
    ∙ ap (only_within (signed_range 64)) (count-read unit d s)
    ∙ kept (count (units_in_second unit) d s 0) fits

-- no rest is printed as zeros
no-rest : (unit : TimeUnit) → 46 ∷ padded (places_of unit) 0 ≡ zeros_text (places_of unit)
no-rest unit.Milliseconds = ap (λ (l : List ℕ). 46 ∷ l) (padded-one 2 0 (omega arith))
no-rest unit.Microseconds = ap (λ (l : List ℕ). 46 ∷ l) (padded-one 5 0 (omega arith))
no-rest unit.Nanoseconds = ap (λ (l : List ℕ). 46 ∷ l) (padded-one 8 0 (omega arith))

some-units : (unit : TimeUnit) → 0 < units_in_second unit
some-units unit.Milliseconds = omega arith
some-units unit.Microseconds = omega arith
some-units unit.Nanoseconds = omega arith

seconds-printed : (unit : TimeUnit) (d : ℤ) (s : ℕ) → s < 86400 → datetime_text unit (count (units_in_second unit) d s 0) ≡ (date_text d ++ 84 ∷ clock_text s) ++ zeros_text (places_of unit)
seconds-printed unit d s few =
    count-printed unit d s 0 few (some-units unit)
    ∙ sym (append_assoc (date_text d) (84 ∷ clock_text s) (46 ∷ padded (places_of unit) 0))
    ∙ ap (λ (l : List ℕ). (date_text d ++ 84 ∷ clock_text s) ++ l) (no-rest unit)

-- ---- bytes

-- a part in front of plain bytes is plain
front-plain : (xs ys : List ℕ) → are_plain (xs ++ ys) ≡ true → are_plain xs ≡ true
front-plain [] ys h = refl
front-plain (x ∷ xs) ys h =
    let parts = and_true (is_printed_byte x) (are_plain (xs ++ ys)) h in
    rw (parts.0, front-plain xs ys parts.1) refl

bare-of : (s q : ℕ) (xs : List ℕ) → lacks s xs ≡ true → lacks 10 xs ≡ true → lacks 13 xs ≡ true → lacks q xs ≡ true → list_any (is_special s q) xs ≡ false
bare-of s q [] a b c d = refl
bare-of s q (x ∷ xs) a b c d =
    let p = lacks-first s x xs a in
    let e = lacks-first 10 x xs b in
    let r = lacks-first 13 x xs c in
    let u = lacks-first q x xs d in
    rw (p.0, e.0, r.0, u.0) (bare-of s q xs p.1 e.1 r.1 u.1)

plain-bare : (o : WriteOptions) (xs : List ℕ) → FitsOptions o → are_plain xs ≡ true → has_special o xs ≡ false
plain-bare o xs h plain = bare-of o.separator o.quote xs (lacks-plain o.separator xs h.separator plain) (lacks-plain 10 xs refl plain) (lacks-plain 13 xs refl plain) (lacks-plain o.quote xs h.quote plain)

-- ---- cells of fields

filled : (type : DataType) (text : List ℕ) (value : Scalar) → value_of_text type text ≡ Some value → 0 < length text → value_or_null type text ≡ Ok (Some value)
filled type [] value h some = absurd (omega (arith, some))
filled type (x ∷ xs) value h some = ap (λ (r : Option Scalar). elim r as (λ _. Cell) [ None ↦ Err fault.Value | Some v ↦ Ok (Some v) ]) h

plain-text : (reading : Reading) (type : DataType) (p : List ℕ) → 0 < length p → plain_cell reading type p ≡ text_cell reading type p
plain-text reading type [] h = absurd (omega (arith, h))
plain-text reading type (x ∷ p) h = refl

-- a plain text that has a value is read as it
plain-cell : (reading : Reading) (q : ℕ) (unit : TimeUnit) (text : List ℕ) (value : Scalar) → value_of_text (dtype.Datetime unit) text ≡ Some value → 0 < length text → lacks q text ≡ true → lacks 13 text ≡ true
    → cell reading nothing_is_null (Some q) (dtype.Datetime unit) text ≡ Ok (Some value)
plain-cell reading q unit text value h some quote return =
    let type = dtype.Datetime unit in
    ap (stripped_cell reading nothing_is_null (quote_of (Some q) text) type) (stripped text (no_end 13 (length text - 1) text return))
    ∙ ap (λ (t : Bool). stripped_cell reading nothing_is_null (if t then Some q else None) type text) (not_quoted q text quote)
    ∙ ap (softened reading.ignore_errors) (plain-text reading type text some ∙ filled type text value h some)
    ∙ softened-ok reading.ignore_errors (Some value)

-- A datetime without a fraction is read as the one whose fraction is zero, and written with it.
pub seconds-change : (r o : WriteOptions) (places : ℕ) (type : DataType) (text : List ℕ) → FitsOptions r → HoldsMoments places type → IsSecondsText text
    → IsChangeOf r o nothing_is_null type text (written_value o false (text ++ zeros_text places))
seconds-change r o places type text fits holds w =
    let u = units_in_second holds.unit in
    let own = dtype.Datetime holds.unit in
    let n = count u w.day w.second 0 in
    let plain_text : List ℕ = date_text w.day ++ 84 ∷ clock_text w.second in
    let zeros = zeros_text (places_of holds.unit) in
    let within = count-within holds.unit w.day w.second 0 w.within w.few (some-units holds.unit) in
    let counted = count-fits holds.unit n holds.fits within in
    let value : value_of_text own plain_text ≡ Some (Number n) = ap (option_map Number) (seconds-value holds.unit w.day w.second w.within w.few counted) in
    let printed-is = seconds-printed holds.unit w.day w.second w.few in
    let plain : are_plain plain_text ≡ true =
    front-plain plain_text zeros (ap are_plain (sym printed-is) ∙ (printed-plain own (Number n) refl (record { can = refl; held = within; counted = counted })).1) in
    let special = plain-bare r plain_text fits plain in
    let field : IsFieldText (line_marks r) plain_text = subst (IsFieldText (line_marks r)) (append-nil plain_text) (written-field r plain_text [] fits (inr special) (inl refl)) in
    let change : IsChangeOf r o nothing_is_null own plain_text (written_value o false (plain_text ++ zeros)) = record {
      value = Some (Number n);
      cell_is = λ reading missing. plain-cell reading r.quote holds.unit plain_text (Number n) value (some_text own plain_text (Number n) refl value) (lacks-plain r.quote plain_text fits.quote plain) (lacks-plain 13 plain_text refl plain);
      field_text = field;
      written_is = ap (written_value o false) (sym printed-is);
    } in
    subst (λ t. IsChangeOf r o nothing_is_null t text (written_value o false (text ++ zeros_text places))) (sym holds.type_is)
    (subst (λ (k : ℕ). IsChangeOf r o nothing_is_null own text (written_value o false (text ++ zeros_text k))) (sym holds.places_is)
    (subst (λ (l : List ℕ). IsChangeOf r o nothing_is_null own l (written_value o false (l ++ zeros))) (sym w.text_is) change))

-- all that is written of it is plain
pub seconds-plain : (places : ℕ) (type : DataType) (text : List ℕ) → HoldsMoments places type → IsSecondsText text → are_plain (text ++ zeros_text places) ≡ true
seconds-plain places type text holds w =
    let own = dtype.Datetime holds.unit in
    let n = count (units_in_second holds.unit) w.day w.second 0 in
    let within = count-within holds.unit w.day w.second 0 w.within w.few (some-units holds.unit) in
    let counted = count-fits holds.unit n holds.fits within in
    (λ j. are_plain (w.text_is j ++ zeros_text (holds.places_is j)))
    ∙ ap are_plain (sym (seconds-printed holds.unit w.day w.second w.few))
    ∙ (printed-plain own (Number n) refl (record { can = refl; held = within; counted = counted })).1

seconds-copy : (o : WriteOptions) (separator quote places : ℕ) (type : DataType) (text : List ℕ) → FitsOptions o → IsCellOptions o separator quote → HoldsMoments places type → IsSecondsText text
    → IsCopyOf o type text (text ++ zeros_text places)
seconds-copy o separator quote places type text fits is holds w =
    subst (IsCopyOf o type text) (bare o (text ++ zeros_text places) is.style_is) (seconds-change o o places type text fits holds w)

pub seconds-kind : (separator quote : ℕ) (own : Kind) (places : ℕ) (text : List ℕ) → own ≡ kind.Datetime places → IsSecondsText text → (o : WriteOptions) (type : DataType) → FitsOptions o → IsCellOptions o separator quote
    → IsKindOf type own → IsCopyOf o type text (text ++ zeros_text places)
seconds-kind separator quote own places text is w o type fits options holds =
    seconds-copy o separator quote places type text fits options (subst (λ k. IsKindOf type k) is holds) w
