use Rattle.std.proofs.Common.{◌≡◌, ◌<◌, ◌^◌, length, ap, subst, arith}
use Rattle.std.specs.Prelude.{ℕ, List, None}
use Rattle.pl_options.specs.FirstCause.{IsFault}
use Rattle.pl_options.specs.ReaderBytes.{bytes_in}
use Rattle.pl_read.specs.Options.{settled_schema}
use Rattle.pl_read.specs.Preparing.{IsPrepared}
use Rattle.pl_read.specs.Steps.{opening_cause}
use Rattle.pl_read.proofs.BatchStepLaws.{may-start, opened-is, refused-opening}
use Rattle.pl_read.proofs.batched_reader.BatchedCsvReader.open_checked.Goals as goal

pub invariant_of-result : goal.invariant_of-result
invariant_of-result c =
    let o = c.args.options in
    let input = bytes_in c.args.bytes in
    let fits : length input < 2 ^ 64 = omega (arith, c.bytes.type_inv, ap length c.bytes.ensures) in
    may-start o input c.in-Ok.prepared fits c.requires (subst (λ (given : List ℕ). IsPrepared o (settled_schema o given) given c.in-Ok.prepared) c.bytes.ensures c.in-Ok.ensures.prepared)

pub returns-in-Ok-clause-opened : goal.returns-in-Ok-clause-opened
returns-in-Ok-clause-opened c =
    let o = c.args.options in
    let input = bytes_in c.args.bytes in
    opened-is o input c.in-Ok.prepared c.requires (subst (λ (given : List ℕ). opening_cause o (settled_schema o given) given ≡ None) c.bytes.ensures c.in-Ok.ensures.sound)
    (subst (λ (given : List ℕ). IsPrepared o (settled_schema o given) given c.in-Ok.prepared) c.bytes.ensures c.in-Ok.ensures.prepared)

pub returns-in-Err-clause-refused : goal.returns-in-Err-clause-refused
returns-in-Err-clause-refused c =
    let o = c.args.options in
    refused-opening o (bytes_in c.args.bytes) c.in-Err.fault c.requires (subst (λ (given : List ℕ). IsFault (opening_cause o (settled_schema o given) given) c.in-Err.fault) c.bytes.ensures c.in-Err.ensures.refused)
