use Rattle.std.proofs.Common.{◌≡◌}
use Rattle.pl_scan.specs.Dialect.{marks_of, comment_of}
use Rattle.pl_tell.specs.Records.{from_record}
use Rattle.pl_tell.proofs.records.from_record.Given as goal

abbrev pub invariant-loop-turn : goal.invariant-loop-turn
invariant-loop-turn l = l.rest ≡ from_record (marks_of l.dialect) (comment_of l.dialect) l._turn l.records
