-- What a plan of a reading says: which columns are read, by which rules, and into which buffers (docs/types.md, "Reading a range").
use Rattle.std.specs.Prelude.{◌≡◌, ℕ, ◌+◌, ◌<◌, ◌≤◌, List, [], ◌∷◌, length, map, Option}
use Rattle.std.specs.List.{AllByRecursion, zip}
use Rattle.std.specs.Option.{option_map}
use Rattle.pl_frame.specs.declared.data_type.DataType.{DataType}
use Rattle.pl_frame.specs.Dialect.{AreDistinct}
use Rattle.pl_scan.specs.Dialect.{marks_of}
use Rattle.pl_cells.specs.declared.buffer.Buffer.{Buffer}
use Rattle.pl_cells.specs.InitBuffers.{state_of}
use Rattle.pl_cells.specs.BufferValue.{BufferValue}
use Rattle.pl_cells.specs.NullValues.{HaveTexts}
use Rattle.pl_rows.specs.declared.plan.RangePlan.{RangePlan}
use Rattle.pl_rows.specs.declared.plan.RowOptions.{RowOptions}
use Rattle.pl_rows.specs.Cells.{RowRules}

-- the rules that a quote and the options of a reading state
abbrev pub stated_rules : Option ℕ → RowOptions → RowRules
stated_rules quote options = record {
  quote_char = quote;
  reading = record { encoding = options.encoding; missing_is_null = options.missing_is_null; ignore_errors = options.ignore_errors };
  nulls = option_map (λ nulls. nulls.now) options.null_values;
  truncate_ragged_lines = options.truncate_ragged_lines;
}

-- the rules of a plan
abbrev pub rules_of : RangePlan → RowRules
rules_of plan = stated_rules plan.dialect.quote_char plan.options

-- the columns that are read, by their places in the schema, each with its type; and how many columns the schema has
pub record Columns : Type 0 where
  pub read : List (ℕ × DataType)
  pub width : ℕ

-- what buffers hold
abbrev pub states : List Buffer → List BufferValue
states buffers = map state_of buffers

abbrev pub state_types : List BufferValue → List DataType
state_types given = map (λ buffer. buffer.dtype) given

-- the columns that a plan reads into buffers
abbrev pub plan_columns : RangePlan → List BufferValue → Columns
plan_columns plan buffers = record { read = zip plan.projection.places.now (state_types buffers); width = plan.projection.width }

-- the places rise, from a number on, and are below another
abbrev pub AreRising : ℕ → ℕ → List ℕ → Type 0
AreRising from width [] = Unit {0}
AreRising from width (place ∷ places) = (from ≤ place) × (place < width) × AreRising (place + 1) width places

-- the buffer reads texts by the rules
abbrev pub FollowsRules : RowRules → BufferValue → Type 0
FollowsRules rules buffer = (buffer.quote_char ≡ rules.quote_char) × (buffer.encoding ≡ rules.reading.encoding)

-- each of the buffers does
abbrev pub FollowRules : RowRules → List BufferValue → Type 0
FollowRules rules given = AllByRecursion (FollowsRules rules) given

-- Buffers into which a plan can read: the marks differ from one another, the places rise and are places of the schema, each
-- has a buffer that reads by the plan's rules, and each column of the schema has its null texts.
pub record CanRead (plan : RangePlan) (buffers : List BufferValue) : Type 0 where
  pub apart : AreDistinct (marks_of plan.dialect)
  pub rising : AreRising 0 plan.projection.width plan.projection.places.now
  pub count : length plan.projection.places.now ≡ length buffers
  pub rules : FollowRules (rules_of plan) buffers
  pub texts : HaveTexts plan.options.null_values plan.projection.width
