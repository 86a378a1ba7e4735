use Rattle.std.proofs.Common.{◌≡◌, [], length, sym, ◌∙◌, ap}
use Rattle.std.proofs.lemmas.Result.{IfOk-at_ok}
use Rattle.pl_frame.specs.Dialect.{marks}
use Rattle.pl_infer.specs.Header.{apart_behind, counted_names}
use Rattle.pl_infer.specs.ReadNames.{written}
use Rattle.pl_infer.proofs.NameLaws.{written-fields, length-marked_fields}
use Rattle.pl_infer.proofs.header.column_names.Goals as goal
use Rattle.pl_infer.proofs.header.column_names.Goals.{then-has_header, else-has_header}

pub returns-in-Ok-clause-names : goal.returns-in-Ok-clause-names
returns-in-Ok-clause-names c =
    let quote = c.args.quote_char in
    let m = marks c.args.separator quote c.args.eol_char in
    let text = c.args.from_first_record.now in
    elim c.if-has_header.branch [
      | then-has_header w ↦
          let named : c.in-Ok.names.items ≡ apart_behind [] (written quote c.new-fields.result) =
          IfOk-at_ok _ (sym w.names-is ∙ c.in-Ok.is) w.header_names-names.ensures in
          rw w.if-has_header.true (c.new.ensures ∙ named ∙ ap (λ fs. apart_behind [] (written quote fs)) c.new-fields.ensures.value ∙ ap (apart_behind []) (written-fields m text))
      | else-has_header w ↦
          let named : c.in-Ok.names.items ≡ counted_names (length c.new-fields.result) = IfOk-at_ok _ (sym w.names-is ∙ c.in-Ok.is) w.counted_names-names.ensures in
          rw w.if-has_header.false (c.new.ensures ∙ named ∙ ap (λ fs. counted_names (length fs)) c.new-fields.ensures.value ∙ ap counted_names (length-marked_fields m text))
    ]
