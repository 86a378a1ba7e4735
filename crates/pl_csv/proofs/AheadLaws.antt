-- What a front of an input tells of the rows, it tells of the whole.
use Rattle.std.proofs.Common.{◌≡◌, ◌^◌, ◌<◌, ◌≤◌, List, ℕ, length}
use Rattle.std.specs.Prelude.{None}
use Rattle.pl_scan.specs.Laws.{IsEnded}
use Rattle.pl_options.specs.declared.read_options.CsvReadOptions.{CsvReadOptions}
use Rattle.pl_read.specs.Options.{settled_schema}
use Rattle.pl_read.specs.Preparing.{IsPrepared}
use Rattle.pl_read.specs.Steps.{opening_cause}
use Rattle.pl_read.specs.declared.preparing.Prepared.{Prepared}
use Rattle.pl_read.proofs.AheadLaws as read
use Rattle.pl_write.specs.declared.options.CsvWriterOptions.{CsvWriterOptions}
use Rattle.pl_csv.specs.Converting.{IsRowByRow}
use Rattle.pl_csv.specs.Sources.{MayReadAhead, IsReadAhead}

-- A front that ends with a line end, within which the rows begin, tells what the rows of an input are read by.
pub read-ahead : (o : CsvReadOptions) (write : CsvWriterOptions) (first : List ℕ) (prepared : Prepared) → MayReadAhead o write → 4 ≤ length first → IsEnded o.parse_options.eol_char first
    → prepared.start < length first → IsPrepared o (settled_schema o first) first prepared → opening_cause o (settled_schema o first) first ≡ None → ((records : List ℕ) → length records ≤ 2 ^ 36 → IsRowByRow o write prepared.schema records)
    → IsReadAhead o write first prepared
read-ahead o write first prepared may long ended inside is sound plain =
    let ahead = read.read-ahead o first prepared (record { allowed = may.allowed; given = may.given; lines = may.lines }) long ended inside is sound in
    record { within = ahead.within; is = λ rest. record { is = (ahead.is rest).is; sound = (ahead.is rest).sound; plain = plain } }
