-- A range of an input, read on its own (docs/pieces.md, "How a read uses pieces").
use Rattle.std.specs.Prelude.{◌≡◌, ℕ, Bool, List, length, Option, None}
use Rattle.pl_frame.specs.Schema.{Entry}
use Rattle.pl_scan.specs.Dialect as scan
use Rattle.pl_cells.specs.declared.null_values.NullValuesCompiled.{NullValuesCompiled}
use Rattle.pl_options.specs.declared.parse_options.CsvParseOptions.{CsvParseOptions}
use Rattle.pl_options.specs.Text.{marks_of, comment_of}
use Rattle.pl_rows.specs.declared.plan.RangePlan.{RangePlan}
use Rattle.pl_rows.specs.Cells.{RowRules}
use Rattle.pl_rows.specs.Columns.{columns_in}
use Rattle.pl_rows.specs.Plan.{rules_of as plan_rules}
use Rattle.pl_rows.specs.Ranges.{range_end, range_frame}
use Rattle.pl_read.specs.declared.chunk.ChunkDone.{ChunkDone}

-- how fields are read as cells, by the options of the parse and the texts that mean null
abbrev pub chunk_rules : CsvParseOptions → Bool → Option NullValuesCompiled → RowRules
chunk_rules o ignore_errors nulls = record {
  quote_char = o.quote_char;
  reading = record { encoding = o.encoding; missing_is_null = o.missing_is_null; ignore_errors = ignore_errors };
  nulls = nulls;
  truncate_ragged_lines = o.truncate_ragged_lines;
}

-- a plan reads a range by these options, and the columns of a schema at these places, without a limit
pub record IsChunkPlan (plan : RangePlan) (o : CsvParseOptions) (schema : List Entry) (ignore_errors : Bool) (places : List ℕ) (nulls : Option NullValuesCompiled) (last : Bool) : Type 0 where
  pub marks_are : scan.marks_of plan.dialect ≡ marks_of o
  pub comment_is : scan.comment_of plan.dialect ≡ comment_of o
  pub rules_are : plan_rules plan ≡ chunk_rules o ignore_errors nulls
  pub places_are : plan.projection.places.now ≡ places
  pub width_is : plan.projection.width ≡ length schema
  pub limit_is : plan.limit ≡ None
  pub last_is : plan.last ≡ last

-- there is such a plan, and the frame and the end are those of the range by it
pub record IsChunkRead (o : CsvParseOptions) (schema : List Entry) (ignore_errors : Bool) (places : List ℕ) (nulls : Option NullValuesCompiled) (last : Bool) (range : List ℕ) (done : ChunkDone) : Type 0 where
  pub plan : RangePlan
  pub plan_is : IsChunkPlan plan o schema ignore_errors places nulls last
  pub frame_is : done.frame ≡ range_frame plan schema range
  pub end_is : done.end ≡ range_end plan (columns_in schema places) range
