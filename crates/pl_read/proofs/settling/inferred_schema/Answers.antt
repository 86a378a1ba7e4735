use Rattle.std.proofs.Common.{◌≡◌, sym, ◌∙◌, ap, subst}
use Rattle.std.specs.Prelude.{None}
use Rattle.pl_frame.specs.Dialect.{AreDistinct}
use Rattle.pl_options.specs.FirstCause.{first_some, IsFault}
use Rattle.pl_options.specs.Text.{marks_of}
use Rattle.pl_infer.specs.Inference.{Inference, inferred, inference_causes}
use Rattle.pl_infer.specs.declared.inference_result.SchemaInferenceResult.{SchemaInferenceResult}
use Rattle.pl_read.proofs.settling.inferred_schema.Goals as goal

pub infer_schema-requires : goal.infer_schema-requires
infer_schema-requires c = record { apart = subst (λ (i : Inference). AreDistinct (marks_of i.parse)) (sym c.of-inference.ensures) c.requires }

pub returns-in-Ok : goal.returns-in-Ok
returns-in-Ok c =
    let input = c.args.input.now in
    record {
      inferred = ap (λ (found : SchemaInferenceResult). found.inferred_schema) c.in-Ok.ensures.inferred ∙ ap (λ (i : Inference). inferred i input) c.of-inference.ensures;
      sound = subst (λ (i : Inference). first_some (inference_causes i input) ≡ None) c.of-inference.ensures c.in-Ok.ensures.sound;
      refused = tt;
    }

pub returns-in-Err-clause-refused : goal.returns-in-Err-clause-refused
returns-in-Err-clause-refused c =
    subst (λ (i : Inference). IsFault (first_some (inference_causes i c.args.input.now)) c.in-Err.fault) c.of-inference.ensures c.in-Err.ensures.refused
