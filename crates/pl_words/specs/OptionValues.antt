-- What the values of options write (docs/command-line.md, "Words").
use Rattle.std.specs.Prelude.{ℕ, ◌+◌, ◌-◌, ◌*◌, ◌^◌, ◌&&◌, ◌==◌, nat_lt, nat_le, if◌then◌else◌, List, [], ◌∷◌, length, codes, Option, None, Some}
use Rattle.std.specs.Option.{option_map, option_and_then}
use Rattle.std.specs.Str.{bytes_eq}
use Rattle.pl_cells.specs.Integers.{is_digits, number_below, number_of}
use Rattle.pl_write.specs.declared.options.QuoteStyle.{QuoteStyle}
use Rattle.pl_write.specs.declared.options.QuoteStyle.TheVariants as style

-- what a hexadecimal digit of either case counts
abbrev pub hexadecimal_digit : ℕ → Option ℕ
hexadecimal_digit x =
    if nat_le 48 x && nat_le x 57 then Some (x - 48)
    else if nat_le 65 x && nat_le x 70 then Some (x - 55)
    else if nat_le 97 x && nat_le x 102 then Some (x - 87)
    else None

-- the number that two hexadecimal digits write
abbrev pub hexadecimal_pair : ℕ → ℕ → Option ℕ
hexadecimal_pair high low = option_and_then (λ h. option_map (λ l. 16 * h + l) (hexadecimal_digit low)) (hexadecimal_digit high)

-- BYTE: one ASCII character, or `x` and two hexadecimal digits
abbrev pub byte_of : List ℕ → Option ℕ
byte_of [] = None
byte_of (x ∷ []) = if nat_lt x 128 then Some x else None
byte_of (x ∷ y ∷ []) = None
byte_of (x ∷ high ∷ low ∷ []) = if x == 120 then hexadecimal_pair high low else None
byte_of (x ∷ y ∷ z ∷ w ∷ others) = None

-- a quote: BYTE, or `none` where fields are not quoted
abbrev pub quote_of : List ℕ → Option (Option ℕ)
quote_of text = if bytes_eq text (codes "none") then Some None else option_map (λ byte. Some byte) (byte_of text)

-- NUM: 1 to 18 decimal digits
abbrev pub count_of : List ℕ → Option ℕ
count_of text = if is_digits text && nat_le (length text) 18 then Some (number_of text) else None

-- from how many items types are inferred: NUM, or `all`
abbrev pub sample_of : List ℕ → Option (Option ℕ)
sample_of text = if bytes_eq text (codes "all") then Some None else option_map (λ n. Some n) (count_of text)

-- the number of a first row: 1 to 20 decimal digits, up to 18446744073709551615
abbrev pub offset_of : List ℕ → Option ℕ
offset_of text = if nat_le (length text) 20 then number_below (2 ^ 64) text else None

-- what ends a line of the output: `lf` or `crlf`
abbrev pub terminator_named : List ℕ → Option (List ℕ)
terminator_named text =
    if bytes_eq text (codes "lf") then Some (10 ∷ [])
    else if bytes_eq text (codes "crlf") then Some (13 ∷ 10 ∷ [])
    else None

-- when a cell is quoted: `necessary`, `always`, `nonnumeric` or `never`
abbrev pub style_named : List ℕ → Option QuoteStyle
style_named text =
    if bytes_eq text (codes "necessary") then Some style.Necessary
    else if bytes_eq text (codes "always") then Some style.Always
    else if bytes_eq text (codes "nonnumeric") then Some style.NonNumeric
    else if bytes_eq text (codes "never") then Some style.Never
    else None
