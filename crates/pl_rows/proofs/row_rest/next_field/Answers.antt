use Rattle.pl_scan.specs.Dialect.{marks_of}
use Rattle.pl_rows.proofs.RestLaws.{field_at-first, fields_left-next, behind_row-next}
use Rattle.pl_rows.proofs.row_rest.next_field.Goals as goal

pub returns-in-Fields-clause-field : goal.returns-in-Fields-clause-field
returns-in-Fields-clause-field c =
    let m = marks_of c.args.dialect.now in
    let b = c.in-Fields.bytes.now in
    rw (c.in-Fields.is, c.split_at.ensures.front) (field_at-first m b c.field_len-len.result c.field_len-len.ensures.cut)

pub returns-in-Fields-clause-left : goal.returns-in-Fields-clause-left
returns-in-Fields-clause-left c =
    let m = marks_of c.args.dialect.now in
    let b = c.in-Fields.bytes.now in
    let is = rw c.split_at.ensures.back at c.behind_field.ensures in
    rw c.in-Fields.is (fields_left-next m b c.field_len-len.result c.behind_field.result c.field_len-len.ensures.cut is)

pub returns-in-Fields-clause-behind : goal.returns-in-Fields-clause-behind
returns-in-Fields-clause-behind c =
    let m = marks_of c.args.dialect.now in
    let b = c.in-Fields.bytes.now in
    let is = rw c.split_at.ensures.back at c.behind_field.ensures in
    rw c.in-Fields.is (behind_row-next m b c.field_len-len.result c.behind_field.result c.field_len-len.ensures.cut c.field_len-len.ensures.fits is)
