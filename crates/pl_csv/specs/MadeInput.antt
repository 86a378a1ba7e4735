-- The input that a making job makes (docs/command-line.md, "A made input").
use Rattle.std.specs.Prelude.{ℕ, ◌+◌, ◌%◌, ◌==◌, if◌then◌else◌, pos, List, [], ◌∷◌, ◌++◌, codes, decimal}
use Rattle.std.specs.List.{flat_map, join_with_byte, range_with_len}
use Rattle.pl_text.specs.ValueText.{date_text}
use Rattle.pl_text.specs.FrameText.{quoted}

-- the names of the columns
abbrev pub made_names : List (List ℕ)
made_names = codes "id" ∷ codes "name" ∷ codes "day" ∷ codes "amount" ∷ []

-- a text with a quote, a comma and a line end in it, between quotes
abbrev pub quoted_name : List ℕ
quoted_name = quoted 34 (97 ∷ 34 ∷ 98 ∷ 44 ∷ 10 ∷ 99 ∷ [])

-- the name of a row: the last of every four rows has the quoted one, any other `p` and the row's last two digits
abbrev pub name_field : ℕ → List ℕ
name_field row = if row % 4 == 3 then quoted_name else 112 ∷ decimal (row % 100)

-- the day of a row: the 366 days from 2020-01-01 on, again and again
abbrev pub day_field : ℕ → List ℕ
day_field row = date_text (pos (18262 + row % 366))

-- the amount of a row: the last of every ten rows has none, any other the row's last three digits and a quarter
abbrev pub amount_field : ℕ → List ℕ
amount_field row = if row % 10 == 9 then [] else decimal (row % 1000) ++ codes ".25"

-- the fields of a row: its number, a name, a day and an amount
abbrev pub made_fields : ℕ → List (List ℕ)
made_fields row = decimal row ∷ name_field row ∷ day_field row ∷ amount_field row ∷ []

-- a line: fields with commas between them, and a line feed
abbrev pub made_line : List (List ℕ) → List ℕ
made_line fields = join_with_byte 44 fields ++ 10 ∷ []

-- the lines of this many rows, from row 0 on
abbrev pub made_lines : ℕ → List ℕ
made_lines rows = flat_map (λ row. made_line (made_fields row)) (range_with_len 0 rows)

-- the input: the line of the names, and a line for each row
abbrev pub made_input : ℕ → List ℕ
made_input rows = made_line made_names ++ made_lines rows
