-- What the options of an inference say, which stand where they are lent.
use Rattle.std.specs.Prelude.{[], unwrap_or}
use Rattle.std.specs.Option.{option_copied}
use Rattle.pl_infer.specs.declared.inference_options.InferenceOptions.{InferenceOptions}
use Rattle.pl_infer.specs.Inference.{Inference, inference}

abbrev pub inference_by : InferenceOptions → Inference
inference_by o =
    inference o.parse_options.now o.infer_schema_length o.has_header (unwrap_or (option_copied o.schema_overwrite) []) o.skip_rows o.skip_lines o.skip_rows_after_header o.raise_if_empty
