use Rattle.std.proofs.Common.{◌≡◌, refl}
use Rattle.std.specs.Option.{option_map}
use Rattle.std.specs.Prelude.{slice_get}
use Rattle.std.proofs.lemmas.Iterator.Consumers.{nth_from_yields_List, YieldsList-from_first}
use Rattle.pl_scan.specs.Dialect.{marks_of}
use Rattle.pl_scan.specs.Fields.{field_text, marked_fields}
use Rattle.pl_tell.proofs.records.field_at.Goals as goal

pub returns-in-Some : goal.returns-in-Some
returns-in-Some c =
    let y : option_map field_text c.nth.result ≡ slice_get (marked_fields (marks_of c.args.dialect.now) c.args.bytes.now) c.args.column =
    nth_from_yields_List c.nth.result _ c.args.column c.nth.ensures.ran (YieldsList-from_first field_text (λ rest. rest) _ c.new-fields.ensures.value) in
    let is = c.in-Some.is in
    rw (← y, is) refl

pub returns-in-None : goal.returns-in-None
returns-in-None c =
    let y : option_map field_text c.nth.result ≡ slice_get (marked_fields (marks_of c.args.dialect.now) c.args.bytes.now) c.args.column =
    nth_from_yields_List c.nth.result _ c.args.column c.nth.ensures.ran (YieldsList-from_first field_text (λ rest. rest) _ c.new-fields.ensures.value) in
    let is = c.in-None.is in
    rw (← y, is) refl
