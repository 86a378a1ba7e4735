-- Dates of the calendar, and their days (docs/types.md, "Dates").
use Rattle.std.specs.Prelude.{ℕ, ℤ, pos}
use Rattle.jiff_core.specs.Calendar.{days_from_civil}

-- a year, a month from 1 and a day from 1
pub record CivilDate : Type 0 where
  pub year : ℕ
  pub month : ℕ
  pub day : ℕ

-- the date of these three
abbrev pub civil : ℕ → ℕ → ℕ → CivilDate
civil year month day = record { year = year; month = month; day = day }

-- the days from 1970-01-01 to a date
abbrev pub day_number : CivilDate → ℤ
day_number date = days_from_civil (pos date.year) date.month date.day
