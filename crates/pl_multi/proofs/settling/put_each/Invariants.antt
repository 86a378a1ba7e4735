use Rattle.std.proofs.Common.{◌≡◌, All, Vec, Global}
use Rattle.pl_options.specs.declared.read_options.CsvReadOptions.{CsvReadOptions}
use Rattle.pl_write.specs.declared.options.CsvWriterOptions.{CsvWriterOptions}
use Rattle.pl_multi.specs.Groups.{IsTakenOf, ArePrintedOf}
use Rattle.pl_multi.specs.declared.settling.TakenPart.{TakenPart}
use Rattle.pl_multi.proofs.GroupLaws.{bytes_of}
use Rattle.pl_multi.proofs.settling.put_each.Given as goal

-- the bytes stay, and what came of the parts that were gone through is put
abbrev pub invariant-loop-taken : goal.invariant-loop-taken
invariant-loop-taken l = record {
  same : bytes_of l.group ≡ bytes_of l.initial.group;
  printed : (read : CsvReadOptions) (write : CsvWriterOptions) → All (λ (taken : Vec TakenPart Global). All (IsTakenOf read write (bytes_of l.initial.group)) taken.items) l.yielded
      → ArePrintedOf read write l.initial.group → ArePrintedOf read write l.group;
}
