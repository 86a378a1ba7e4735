use Rattle.std.proofs.Common.{◌∙◌, ap, sym, rules, length}
use Rattle.std.proofs.lemmas.List.{take_rest}
use Rattle.pl_frame.specs.Dialect.{marks}
use Rattle.pl_scan.specs.Fields.{behind, fields_left}
use Rattle.std.specs.Option.{option_copied}
use Rattle.pl_scan.proofs.FieldLaws.{marked_fields-at}
use Rattle.pl_scan.proofs.fields.SplitFieldsIterator.next.Goals as goal

pub returns-clause-steps : goal.returns-clause-steps
returns-clause-steps c =
    let m = marks c.self.inside.separator c.self.inside.quote_char c.self.inside.eol_char in
    let step = marked_fields-at m c.in_ok-slice.slice.now c.field_len-len.result c.begins_with-quoted.result (option_copied c.behind_separator-self-inside.result) c.self.invariant c.field_len-len.ensures.cut c.begins_with-quoted.ensures (c.behind_separator-self-inside.ensures ∙ ap (behind c.self.inside.separator) (take_rest c.in_ok-slice.slice.now c.field_len-len.result)) in
    sym c.self.view_is ∙ ap (λ r. fields_left m (option_copied r)) c.in_ok-slice.was ∙ step

pub returns-clause-goes : goal.returns-clause-goes
returns-clause-goes c = let step = ap length (returns-clause-steps c) in search rules
