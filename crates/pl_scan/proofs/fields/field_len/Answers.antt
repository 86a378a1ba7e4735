use Rattle.std.proofs.Common.{◌∙◌, sym, ◌≡◌, false}
use Rattle.std.specs.Prelude.{Some}
use Rattle.pl_frame.specs.Dialect.{marks}
use Rattle.pl_scan.specs.Fields.{begins_quoted}
use Rattle.pl_scan.proofs.FieldLaws.{cut_field-quoted, cut_field-plain, begins_quoted-none}
use Rattle.pl_scan.proofs.fields.field_len.Goals as goal
use Rattle.pl_scan.proofs.fields.field_len.Goals.{in_default-via-in-Some+else-begins_with, in_default-via-in_default}

pub returns-in-Some-clause-cut : goal.returns-in-Some-clause-cut
returns-in-Some-clause-cut c =
    let quoted = sym c.begins_with.ensures ∙ c.if-begins_with.true in
    rw c.in-Some.is (cut_field-quoted (marks c.args.separator (Some c.in-Some.quote) c.args.eol_char) c.args.slice.now quoted ∙ c.quoted_len.ensures.cut)

pub returns-in_default-clause-cut : goal.returns-in_default-clause-cut
returns-in_default-clause-cut c =
    let plain : begins_quoted c.args.quote_char c.args.slice.now ≡ false = elim c.in_default.branch [
      | in_default-via-in-Some+else-begins_with w ↦ rw w.in-Some.is (sym w.begins_with.ensures ∙ w.if-begins_with.false)
      | in_default-via-in_default w ↦ rw w.in_default.is (begins_quoted-none c.args.slice.now)
    ] in
    cut_field-plain (marks c.args.separator c.args.quote_char c.args.eol_char) c.args.slice.now plain ∙ c.plain_len.ensures.cut
