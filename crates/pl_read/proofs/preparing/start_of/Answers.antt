use Rattle.std.proofs.Common.{◌≡◌, List, ℕ, length, drop, sym, ◌∙◌, ap}
use Rattle.std.specs.Prelude.{◌≤◌, ◌-◌, Some}
use Rattle.pl_options.specs.declared.read_options.CsvReadOptions.{CsvReadOptions}
use Rattle.pl_options.specs.Text.{marks_of, comment_of, skips_of}
use Rattle.pl_scan.proofs.StartLaws.{IsEndOf-data_left, IsEndOf-place}
use Rattle.pl_read.specs.Options.{keeps_ends, data_of}
use Rattle.pl_read.proofs.preparing.start_of.Goals as goal

place : (o : CsvReadOptions) (input records : List ℕ) → data_of o input ≡ Some records → (length records ≤ length input) × (drop (length input - length records) input ≡ records)
place o input records is =
    IsEndOf-place input records (IsEndOf-data_left (skips_of o) (keeps_ends o) (marks_of o.parse_options) (comment_of o.parse_options) input records is)

pub overflow_sub-result : goal.overflow_sub-result
overflow_sub-result c = (place c.args.options.now c.args.input.now c.in-Some.records.now (sym c.in-Some.ensures)).0

pub returns-in-Some-clause-data : goal.returns-in-Some-clause-data
returns-in-Some-clause-data c =
    sym c.in-Some.ensures ∙ ap (λ (l : List ℕ). Some l) (sym (place c.args.options.now c.args.input.now c.in-Some.records.now (sym c.in-Some.ensures)).1)
