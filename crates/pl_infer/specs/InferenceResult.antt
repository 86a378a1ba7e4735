-- What inference gives beside a schema.
use Rattle.std.specs.Prelude.{ℕ, ◌*◌, ◌-◌, ◌/◌, ◌^◌, ◌==◌, if◌then◌else◌, [], None, min}
use Rattle.pl_infer.specs.declared.inference_result.SchemaInferenceResult.{SchemaInferenceResult}

-- before anything is read: no columns, no rows, no bytes
abbrev pub empty_result : SchemaInferenceResult
empty_result = record { inferred_schema = []; rows_read = 0; bytes_read = 0; bytes_total = 0; n_threads = None }

-- how many rows all bytes have, where those that were read have so many: the whole part of the proportion, at most the
-- greatest number of 64 bits, and 0 where nothing was read
abbrev pub estimated_rows : ℕ → ℕ → ℕ → ℕ
estimated_rows rows read total = if read == 0 then 0 else min (rows * total / read) (2 ^ 64 - 1)
