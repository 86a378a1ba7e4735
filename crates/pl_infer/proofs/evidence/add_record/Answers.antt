use Rattle.std.proofs.Common.{◌≡◌, ℕ, Bool, List, ◌+◌, ◌<◌, ◌≤◌, ◌++◌, ◌∷◌, length, take, drop, set, sym, ◌∙◌, ap, arith}
use Rattle.std.proofs.lemmas.List.{length-set}
use Rattle.pl_infer.specs.SampleSteps.{with_field, with_fields}
use Rattle.pl_infer.proofs.SampleLaws.{fields-more, fields-all}
use Rattle.pl_infer.proofs.evidence.add_record.Goals as goal

pub loop-column-preserved : goal.loop-column-preserved
loop-column-preserved c =
    let rules = c.args.rules.now in
    let i = c.loop-column.column in
    let now = c.loop-column.columns in
    let old = c.index-columns-column.result in
    let left = c.next.new.self in
    let field : List ℕ × Bool = (c.in-Some.field.now, c.in-Some.field-0-1) in
    let within : i < length now = omega (arith, c.loop-column.auto.columns) in
    let more : c.loop-column.fields ≡ field ∷ left = c.in-Some.ensures.steps in
    let added : c.add_field.new.seen ≡ with_field rules i old c.in-Some.field.now = c.add_field.ensures ∙ ap (λ o. with_field rules i o c.in-Some.field.now) (sym c.index-columns-column.is) in
    record {
      same = length-set now i c.add_field.new.seen ∙ c.loop-column.invariant.same;
      done =
          ap (λ s. take (i + 1) (set now i s) ++ with_fields rules (i + 1) left (drop (i + 1) (set now i s))) added
          ∙ fields-more rules now field left i old within (sym c.index-columns-column.is)
          ∙ ap (λ l. take i now ++ with_fields rules i l (drop i now)) (sym more)
          ∙ c.loop-column.invariant.done;
    }

pub returns : goal.returns
returns c =
    let past : length c.loop-column.columns ≤ c.loop-column.column = omega (arith, c.loop-column.auto.columns) in
    sym (fields-all c.args.rules.now c.loop-column.columns c.loop-column.fields c.loop-column.column past) ∙ c.loop-column.invariant.done
