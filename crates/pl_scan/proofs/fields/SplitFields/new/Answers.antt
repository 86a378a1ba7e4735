use Rattle.std.proofs.lemmas.List.{length-map}
use Rattle.pl_frame.specs.Dialect.{marks}
use Rattle.pl_scan.proofs.ItemLaws.{length-fields}
use Rattle.pl_scan.proofs.fields.SplitFields.new.Goals as goal

pub returns-clause-len : goal.returns-clause-len
returns-clause-len c =
    let m = marks c.args.separator c.args.quote_char c.args.eol_char in
    simp length-map (length-fields m c.args.slice.now)
