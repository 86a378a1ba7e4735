use Rattle.std.proofs.Common.{sym, ◌∙◌}
use Rattle.pl_scan.specs.Dialect.{marks_of}
use Rattle.pl_seek.proofs.PlaceLaws.{extent-line, lacks-none, lacks-some}
use Rattle.pl_seek.proofs.places.record_len_by_line.Goals as goal

pub returns-in_default-clause-value : goal.returns-in_default-clause-value
returns-in_default-clause-value c =
    let m = marks_of c.args.dialect.now in
    c.line_len.ensures.value ∙ sym (extent-line m c.args.rest.now c.requires (lacks-none m c.args.rest.now c.in_default.is))

pub returns-in-Some-plain_line_len-clause-value : goal.returns-in-Some-plain_line_len-clause-value
returns-in-Some-plain_line_len-clause-value c =
    let m = marks_of c.args.dialect.now in
    let found = c.in-Some-plain_line_len in
    found.ensures.value
    ∙ sym (extent-line m c.args.rest.now c.requires (lacks-some m c.args.rest.now c.in-Some.quote found.len c.in-Some.is found.ensures.value found.ensures.lacks))
