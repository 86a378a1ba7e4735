use Rattle.std.proofs.Common.{◌≡◌, ◌++◌, ◌∷◌, [], refl, sym, ◌∙◌, ap, append-nil}
use Rattle.pl_infer.specs.Header.{field_name}
use Rattle.pl_infer.specs.ReadNames.{written}
use Rattle.pl_infer.proofs.NameLaws.{written-more}
use Rattle.pl_infer.proofs.header.field_names.Goals as goal

pub loop-field-init : goal.loop-field-init
loop-field-init c = record { can = tt; finite = tt; names = rw (c.into_iter-field-iterator.ensures.into_iter_gives, c.new-names.ensures.items) refl }

pub loop-field-preserved : goal.loop-field-preserved
loop-field-preserved c =
    let quote = c.args.quote_char in
    let names = c.loop-field.names.items in
    let field = c.in-Some.field.now in
    let name : c.as_str.result.now ≡ field_name quote field = c.as_str.ensures.value ∙ c.in_ok-field_name.ensures in
    let pushed : c.push_name.new.names.items ≡ names ++ field_name quote field ∷ [] = c.in_ok-push_name.ensures ∙ ap (λ x. names ++ x ∷ []) name in
    record {
      can = tt;
      finite = tt;
      names = ap (λ ns. ns ++ written quote c.next.new.self) pushed
          ∙ written-more quote names (written quote c.args.fields) c.loop-field.field-iterator field c.in-Some.field-0-1 c.next.new.self c.loop-field.invariant.names c.in-Some.ensures.steps;
    }

pub returns : goal.returns
returns c =
    sym (append-nil c.loop-field.names.items) ∙ ap (λ fs. c.loop-field.names.items ++ written c.args.quote_char fs) (sym c.in-None.ensures.steps.0) ∙ c.loop-field.invariant.names
