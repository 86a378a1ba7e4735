use Rattle.std.proofs.Common.{subst}
use Rattle.pl_options.specs.declared.read_options.CsvReadOptions.{CsvReadOptions}
use Rattle.pl_multi.specs.Groups.{IsPrintedOf}
use Rattle.pl_multi.proofs.GroupLaws.{of-result, one-printed}
use Rattle.pl_multi.proofs.groups.print_part.Goals as goal

pub returns-then-bytes-lt-LARGE : goal.returns-then-bytes-lt-LARGE
returns-then-bytes-lt-LARGE g c =
    let write = c.args.write.now in
    let bytes = c.args.bytes.now in
    one-printed c.args.read.now write bytes c.print_bytes.result
    (subst (λ (o : CsvReadOptions). IsPrintedOf o write bytes c.print_bytes.result) c.requires.single
    (of-result c.args.single.now write bytes c.print_bytes.result c.print_bytes.ensures.lines c.print_bytes.ensures.refused))
