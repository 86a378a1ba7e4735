-- The rows of a table, for the crates that read it: how many there are, and what a row is by its number.
use Rattle.std.proofs.Common.{◌≡◌, ℕ, zero, suc, ◌<◌, List, [], ◌∷◌, map, length, get_or, refl, ◌∙◌, arith}
use Rattle.std.proofs.lemmas.List.{get_or-map, length-map}
use Rattle.pl_table.specs.Tables.{Cut, cut_text, fields_of}
use Rattle.pl_table.specs.Rows.{Row, ended_row, table_rows}

pub length-fields_of : (text : List ℕ) (table : List (List Cut)) → length (fields_of text table) ≡ length table
length-fields_of text table = length-map table (λ row. map (cut_text text) row)

pub length-table_rows : (text : List ℕ) (table : List (List Cut)) → length (table_rows text table) ≡ length table
length-table_rows text table = length-map (fields_of text table) ended_row ∙ length-fields_of text table
