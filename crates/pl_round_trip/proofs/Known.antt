-- Values at the ends of their ranges, which the laws speak of, and beyond them.
use Rattle.std.proofs.Common.{◌≡◌, ◌-◌, ◌*◌, ◌^◌, true, false, ℕ, [], ◌∷◌, Some, None, pos, neg_ℤ, refl, arith}
use Rattle.pl_frame.specs.declared.data_type.DataType.TheVariants as dtype
use Rattle.pl_frame.specs.declared.data_type.TimeUnit.TheVariants as unit
use Rattle.pl_frame.specs.Columns.{is_value_of}
use Rattle.pl_frame.specs.Frame.{Number}
use Rattle.pl_round_trip.specs.RoundTrip.{IsReadable, IsWritable, fits_count}

least_128 : IsReadable dtype.Int128 (Number (neg_ℤ (pos (2 ^ 127))))
least_128 = record { can = refl; held = refl; counted = refl }

beyond_128 : is_value_of dtype.Int128 (Number (pos (2 ^ 127))) ≡ false
beyond_128 = refl

first_day : IsReadable dtype.Date (Number (neg_ℤ (pos 719528)))
first_day = record { can = refl; held = refl; counted = refl }

before_first : is_value_of dtype.Date (Number (neg_ℤ (pos 719529))) ≡ false
before_first = refl

last_millisecond : IsReadable (dtype.Datetime unit.Milliseconds) (Number (pos (2932897 * 86400 * 1000 - 1)))
last_millisecond = record { can = refl; held = refl; counted = refl }

-- nanoseconds of the year 9999 do not fit
last_nanosecond : fits_count (dtype.Datetime unit.Nanoseconds) (Number (pos (2932897 * 86400 * 10 ^ 9 - 1))) ≡ false
last_nanosecond = refl

most_digits : IsReadable (dtype.Decimal (Some 38) (Some 38)) (Number (neg_ℤ (pos (10 ^ 38 - 1))))
most_digits = record { can = refl; held = refl; counted = refl }

any_precision : IsReadable (dtype.Decimal None (Some 0)) (Number (pos (10 ^ 38 - 1)))
any_precision = record { can = refl; held = refl; counted = refl }

-- a number, between commas and double quotes, where no text means null
written_number : (style : ℕ) → IsWritable (record { separator = 44; quote = 34; null = []; terminator = 10 ∷ []; style = style; include_bom = false; include_header = true }) (λ text. false) dtype.Int8 (Number (neg_ℤ (pos 128)))
written_number style = record {
  readable = record { can = refl; held = refl; counted = refl };
  mark = refl;
  no_return = λ e. omega (arith, e);
  bare = λ style text. cc;
  meant = refl;
}
