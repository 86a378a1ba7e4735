use Rattle.std.proofs.Common.{◌∙◌, sym, ap, subst, length}
use Rattle.pl_options.specs.FirstCause.{IsFault}
use Rattle.pl_infer.specs.Inference.{repeated, sample_of, data_in, has_long_texts}
use Rattle.pl_infer.specs.InferenceOptions.{inference_by}
use Rattle.pl_infer.proofs.InferenceLaws.{columns-are, length-types, result-is}
use Rattle.pl_infer.proofs.inference.infer_types.Goals as goal

pub schema_of_names-requires : goal.schema_of_names-requires
schema_of_names-requires c =
    ap length (c.dtypes-types.ensures ∙ c.in_ok-sample.ensures.types) ∙ length-types (inference_by c.args.options.now) c.args.names.now c.data_in-data.result.now

pub returns-in-Err-clause-refused : goal.returns-in-Err-clause-refused
returns-in-Err-clause-refused c =
    let i = inference_by c.args.options.now in
    subst (λ columns. IsFault (repeated columns) c.in-Err.fault)
    (columns-are i c.args.bytes.now c.args.names.now c.dtypes-types.result.now c.data_in-data.result.now c.requires.names c.data_in-data.ensures (c.dtypes-types.ensures ∙ c.in_ok-sample.ensures.types)) c.in-Err.ensures.refused

pub returns-clause-inferred : goal.returns-clause-inferred
returns-clause-inferred c =
    let i = inference_by c.args.options.now in
    let input = c.args.bytes.now in
    let names = c.args.names.now in
    let records = c.data_in-data.result.now in
    let columns = columns-are i input names c.dtypes-types.result.now records c.requires.names c.data_in-data.ensures (c.dtypes-types.ensures ∙ c.in_ok-sample.ensures.types) in
    let items = c.in_ok-sample.ensures.items ∙ ap (λ left. length (sample_of i left)) c.data_in-data.ensures in
    let long = c.in_ok-sample.ensures.long ∙ ap (has_long_texts i names) c.data_in-data.ensures ∙ ap (λ ns. has_long_texts i ns (data_in i input)) c.requires.names in
    ap (λ workers. record { inferred_schema = c.in-Ok.schema; rows_read = c.in_ok-sample.sample.items; bytes_read = c.sampled_bytes-bytes_read.result; bytes_total = length input; n_threads = workers }) c.workers_left-n_threads.ensures
    ∙ result-is i c.args.n_threads input c.in-Ok.schema c.in_ok-sample.sample.items c.sampled_bytes-bytes_read.result c.in_ok-sample.sample.has_long_text
    (c.in-Ok.ensures.schema ∙ columns) items c.sampled_bytes-bytes_read.ensures long

pub returns-clause-sound : goal.returns-clause-sound
returns-clause-sound c =
    let i = inference_by c.args.options.now in
    ap repeated (sym (columns-are i c.args.bytes.now c.args.names.now c.dtypes-types.result.now c.data_in-data.result.now c.requires.names c.data_in-data.ensures (c.dtypes-types.ensures ∙ c.in_ok-sample.ensures.types)))
    ∙ c.in-Ok.ensures.distinct
