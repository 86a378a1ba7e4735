-- The fault line of a record (docs/command-line.md, "Statuses" and "Many files").
use Rattle.std.specs.Prelude.{ℕ, List, ◌++◌, codes, Option, None, Some}
use Rattle.pl_csv.specs.Telling.{place_text}
use Rattle.pl_multi.specs.Telling.{part_text}
use Rattle.pl_tell.specs.declared.fault_line.Place.{Place}

-- what stands before the fault line of an input that is one of many files
abbrev pub part_front : Option ℕ → List ℕ
part_front None = codes ""
part_front (Some part) = part_text part

-- the fault line of a record with a fault, without its line feed
abbrev pub record_line : Place → List ℕ
record_line place = part_front place.part ++ (codes "refusal 14 record" ++ place_text place.row place.column place.kind)
