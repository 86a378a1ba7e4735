use Rattle.std.proofs.Common.{[], length, ◌∙◌, ap}
use Rattle.std.specs.Prelude.{unwrap_or}
use Rattle.std.specs.Option.{option_copied}
use Rattle.pl_infer.specs.Inference.{inference, inferred, sample_of, data_in, sampled_bytes}
use Rattle.pl_infer.specs.declared.inference_result.SchemaInferenceResult.{SchemaInferenceResult}
use Rattle.pl_infer.proofs.inference.infer_file_schema.Goals as goal

pub returns-in-Ok-clause-inferred : goal.returns-in-Ok-clause-inferred
returns-in-Ok-clause-inferred c =
    let a = c.args in
    let i = inference a.parse_options.now a.max_read_rows a.has_header (unwrap_or (option_copied a.schema_overwrite) []) a.skip_rows a.skip_lines a.skip_rows_after_header a.raise_if_empty in
    let found = c.in-Ok.ensures.inferred in (
      ap (λ (f : SchemaInferenceResult). f.inferred_schema) found ∙ ap (inferred i) c.bytes.ensures,
      ap (λ (f : SchemaInferenceResult). f.rows_read) found ∙ ap (λ input. length (sample_of i (data_in i input))) c.bytes.ensures,
      ap (λ (f : SchemaInferenceResult). f.bytes_read) found ∙ ap (sampled_bytes i) c.bytes.ensures,
    )
