use Rattle.std.proofs.Common.{◌≡◌, None, refl, sym, ap, ◌∙◌, subst, length}
use Rattle.std.specs.Prelude.{IfSome}
use Rattle.std.specs.Bool.{OnTrue}
use Rattle.std.specs.List.{range_with_len}
use Rattle.std.specs.Option.{option_map}
use Rattle.pl_cells.specs.NullValues.{means_null}
use Rattle.pl_write.specs.Options.{cell_options}
use Rattle.pl_verbatim.specs.CellTexts.{as_read}
use Rattle.pl_verbatim.specs.Changes.{IsFormOf}
use Rattle.pl_verbatim.specs.Kinds.{AreKindsOf, read_columns}
use Rattle.pl_verbatim.specs.Verbatim.{IsReadSo}
use Rattle.pl_verbatim.proofs.NullLaws.{alike-nulls}
use Rattle.pl_verbatim.proofs.SchemaLaws.{read-all, reads-all}
use Rattle.pl_verbatim.proofs.verbatim.Verbatim.of.Goals as goal

pub invariant_of-result-clause-whole : goal.invariant_of-result-clause-whole
invariant_of-result-clause-whole c = λ all.
    let schema = c.args.schema.now in
    let places = c.args.plan.now.projection.places.now in
    reads-all schema places c.in_ok-kinds_of.field-0.items (subst (λ n. places ≡ range_with_len 0 n) c.len.ensures.len (subst (λ t. OnTrue t (places ≡ range_with_len 0 c.len.result)) all c.are_all-reads_all.ensures)) c.in_ok-kinds_of.ensures.kinds

pub returns : goal.returns
returns c =
    let o = cell_options c.args.options.now in
    let schema = c.args.schema.now in
    let places = c.args.plan.now.projection.places.now in
    let separator = c.args.plan.now.dialect.separator in
    let form = c.in_ok-form in
    record {
      same = λ none some.
          let alike : o ≡ as_read separator o = form.ensures.same none in
          let none_null : c.args.plan.now.options.null_values ≡ None = form.ensures.none none in
          let all : places ≡ range_with_len 0 (length schema) =
          subst (λ n. places ≡ range_with_len 0 n) c.len.ensures.len (subst (λ t. OnTrue t (places ≡ range_with_len 0 c.len.result)) (form.ensures.all none) c.are_all-reads_all.ensures) in
          record {
            rows = record {
              nulls = λ column. ap (λ nulls. means_null (option_map (λ nulls. nulls.now) nulls) column) none_null;
              read = subst (IsReadSo c.args.plan.now schema) (sym alike) c.if-not-is_read_so.ensures;
              places = all;
              terminator = ap (λ o. o.terminator) alike;
              null = ap (λ o. o.null) alike;
              style = ap (λ o. o.style) alike;
            };
            cells = record { separator_is = ap (λ o. o.separator) alike; quote_is = refl; style_is = ap (λ o. o.style) alike; null_is = ap (λ o. o.null) alike };
            kinds = subst (λ columns. AreKindsOf columns c.in_ok-kinds_of.field-0.items) (ap (read_columns 0 schema) all ∙ read-all 0 schema) (c.in_ok-kinds_of.ensures.kinds some);
          };
      changed = λ own has some. record {
        nulls =
            let nulls_are : own.nulls ≡ option_map (λ nulls. nulls.now) c.args.plan.now.options.null_values =
            subst (λ f. IfSome f (λ own. own.nulls ≡ option_map (λ nulls. nulls.now) c.args.plan.now.options.null_values)) has form.ensures.nulls in
            λ column. alike-nulls (option_map (λ nulls. nulls.now) c.args.plan.now.options.null_values) column c.if-not-are_nulls_alike.ensures ∙ ap (λ n. means_null n 0) (sym nulls_are);
        rows = c.if-not-is_read_so.ensures;
        written = subst (λ f. IfSome f (IsFormOf o c.args.options.now.quote_char)) has form.ensures.form;
        kinds = c.in_ok-kinds_of.ensures.kinds some;
      };
    }
