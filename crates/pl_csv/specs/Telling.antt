-- Statuses and fault lines (docs/command-line.md, "Statuses").
use Rattle.std.specs.Prelude.{◌≡◌, ℕ, ◌≤◌, ◌⊎◌, Bool, true, false, List, [], ◌++◌, codes, decimal}
use Rattle.std.specs.Io.KnownBytes.{Appends}
use Rattle.pl_frame.specs.Causes.{Rose}
use Rattle.pl_frame.specs.declared.error.FaultKind.{FaultKind}
use Rattle.pl_frame.specs.declared.error.FaultKind.TheVariants as kind
use Rattle.pl_frame.specs.declared.error.PolarsError.{PolarsError}
use Rattle.pl_frame.specs.declared.error.PolarsError.TheVariants as error
use Rattle.pl_frame.specs.declared.error.OpFault.TheVariants as op_fault
use Rattle.pl_frame.specs.declared.error.ComputeFault.TheVariants as compute_fault
use Rattle.pl_frame.specs.declared.error.NoDataFault.TheVariants as no_data
use Rattle.pl_frame.specs.declared.error.NamePlace.TheVariants as name_place
use Rattle.pl_write.specs.Writing.{AppendsPrefix}
use Rattle.pl_csv.specs.declared.run.Refusal.{Refusal}
use Rattle.pl_csv.specs.declared.run.Refusal.TheVariants as refusal
use Rattle.pl_csv.specs.Views.{SinkView}

-- ---- statuses

-- the status of a fault for which an input was not transcoded
abbrev pub status_of_fault : PolarsError → ℕ
status_of_fault error.IO = 4
status_of_fault error.OutOfMemory = 5
status_of_fault (error.InvalidOperation op_fault.Dialect) = 11
status_of_fault (error.InvalidOperation op_fault.Option) = 12
status_of_fault (error.ComputeError compute_fault.Quote) = 13
status_of_fault (error.ComputeError compute_fault.Compressed) = 14
status_of_fault (error.NoData no_data.Empty) = 15
status_of_fault (error.Duplicate name name_place.Schema) = 16
status_of_fault (error.InvalidOperation (op_fault.Overrides given columns)) = 17
status_of_fault (error.ComputeError (compute_fault.Dtype column)) = 18
status_of_fault (error.ColumnNotFound name) = 19
status_of_fault (error.NoData no_data.Skip) = 20
status_of_fault (error.OutOfBounds index length) = 21
status_of_fault (error.Duplicate name name_place.Projection) = 22
status_of_fault error.EmptyProjection = 23
status_of_fault (error.ComputeError (compute_fault.Record row column kind)) = 24
status_of_fault (error.ComputeError (compute_fault.Index offset rows)) = 25

-- the status of a refusal
abbrev pub status_of : Refusal → ℕ
status_of refusal.Words = 2
status_of refusal.Source = 3
status_of refusal.TooLong = 6
status_of (refusal.Polars fault) = status_of_fault fault

-- ---- fault lines

-- what a fault is called
abbrev pub fault_name : PolarsError → List ℕ
fault_name error.IO = codes "sink"
fault_name error.OutOfMemory = codes "memory"
fault_name (error.InvalidOperation op_fault.Dialect) = codes "refusal 1 dialect"
fault_name (error.InvalidOperation op_fault.Option) = codes "refusal 2 option"
fault_name (error.ComputeError compute_fault.Quote) = codes "refusal 3 quote"
fault_name (error.ComputeError compute_fault.Compressed) = codes "refusal 4 compressed"
fault_name (error.NoData no_data.Empty) = codes "refusal 5 empty"
fault_name (error.Duplicate name name_place.Schema) = codes "refusal 6 duplicate"
fault_name (error.InvalidOperation (op_fault.Overrides given columns)) = codes "refusal 7 overrides"
fault_name (error.ComputeError (compute_fault.Dtype column)) = codes "refusal 8 dtype"
fault_name (error.ColumnNotFound name) = codes "refusal 9 not found"
fault_name (error.NoData no_data.Skip) = codes "refusal 10 skip"
fault_name (error.OutOfBounds index length) = codes "refusal 11 bounds"
fault_name (error.Duplicate name name_place.Projection) = codes "refusal 12 duplicate"
fault_name error.EmptyProjection = codes "refusal 13 projection"
fault_name (error.ComputeError (compute_fault.Record row column kind)) = codes "refusal 14 record"
fault_name (error.ComputeError (compute_fault.Index offset rows)) = codes "refusal 15 index"

-- how the kind of a record's fault is called
abbrev pub kind_name : FaultKind → List ℕ
kind_name kind.Escape = codes "escape"
kind_name kind.Utf8 = codes "utf8"
kind_name kind.Value = codes "value"
kind_name kind.Fields = codes "fields"

-- two numbers, a blank before each
abbrev pub numbers_text : ℕ → ℕ → List ℕ
numbers_text number other = (codes " " ++ decimal number) ++ (codes " " ++ decimal other)

-- the place of a record's fault
abbrev pub place_text : ℕ → ℕ → FaultKind → List ℕ
place_text row column kind = (codes " " ++ decimal row) ++ ((codes " column " ++ decimal column) ++ (codes " " ++ kind_name kind))

-- the detail of a fault
abbrev pub fault_detail : PolarsError → List ℕ
fault_detail (error.Duplicate name at) = codes " " ++ name
fault_detail (error.InvalidOperation (op_fault.Overrides given columns)) = numbers_text given columns
fault_detail (error.ComputeError (compute_fault.Dtype column)) = codes " column " ++ decimal column
fault_detail (error.ColumnNotFound name) = codes " " ++ name
fault_detail (error.OutOfBounds index length) = numbers_text index length
fault_detail (error.ComputeError (compute_fault.Record row column kind)) = place_text row column kind
fault_detail _ = []

-- the line that the error sink is told begins with what the refusal is called
abbrev pub refusal_name : Refusal → List ℕ
refusal_name refusal.Words = codes "words"
refusal_name refusal.Source = codes "source"
refusal_name refusal.TooLong = codes "too long"
refusal_name (refusal.Polars fault) = fault_name fault

-- and goes on with the detail of a fault
abbrev pub refusal_detail : Refusal → List ℕ
refusal_detail (refusal.Polars fault) = fault_detail fault
refusal_detail _ = []

-- the line ends with a line feed
abbrev pub fault_line : Refusal → List ℕ
fault_line given = refusal_name given ++ (refusal_detail given ++ codes "\n")

-- ---- telling

-- a sink received a line, or a prefix of it where one of its counts rose
abbrev pub IsTold : List ℕ → SinkView → SinkView → Type 0
IsTold line before now =
    Appends before.received now.received line ⊎ (AppendsPrefix before.received now.received line × (Rose before.faults now.faults ⊎ Rose before.wants now.wants))

-- a sink received a text, where the answer is so, and else a prefix of it, and then one of its counts rose
pub record IsTelling (answer : Bool) (text : List ℕ) (before now : SinkView) : Type 0 where
  pub all : answer ≡ true → Appends before.received now.received text
  pub part : AppendsPrefix before.received now.received text
  pub rose : answer ≡ false → Rose before.faults now.faults ⊎ Rose before.wants now.wants
  pub later : before.faults ≤ now.faults
  pub later_wants : before.wants ≤ now.wants
