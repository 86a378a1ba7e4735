use Rattle.std.proofs.Common.{◌≡◌, refl, ◌∙◌, subst}
use Rattle.std.specs.Prelude.{IfOk}
use Rattle.pl_infer.specs.declared.evidence.EvidenceRules.{EvidenceRules}
use Rattle.pl_infer.specs.InferenceOptions.{inference_by}
use Rattle.pl_infer.proofs.InferenceLaws.{types-by, long-by}
use Rattle.pl_infer.proofs.inference.sample_of.Goals as goal

pub returns-clause-types : goal.returns-clause-types
returns-clause-types c =
    let i = inference_by c.args.options.now in
    let rules : EvidenceRules = record { dialect = c.dialect.result; null_values = c.as_ref.result; dates = i.parse.try_parse_dates } in
    subst (λ types. IfOk c.take_sample-sample.result (λ sample. sample.types ≡ types))
    (types-by i rules c.args.names.now c.args.data.now c.dialect.ensures.marks c.dialect.ensures.comment (c.as_ref.ensures.value ∙ c.in_ok-null_values.ensures.compiled) refl) c.take_sample-sample.ensures.types

pub returns-clause-long : goal.returns-clause-long
returns-clause-long c =
    let i = inference_by c.args.options.now in
    let rules : EvidenceRules = record { dialect = c.dialect.result; null_values = c.as_ref.result; dates = i.parse.try_parse_dates } in
    subst (λ long. IfOk c.take_sample-sample.result (λ sample. sample.has_long_text ≡ long))
    (long-by i rules c.args.names.now c.args.data.now c.dialect.ensures.marks c.dialect.ensures.comment (c.as_ref.ensures.value ∙ c.in_ok-null_values.ensures.compiled) refl) c.take_sample-sample.ensures.long
