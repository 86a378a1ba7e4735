-- Statuses and fault lines of a run over many files (docs/command-line.md, "Many files").
use Rattle.std.specs.Prelude.{ℕ, List, ◌++◌, codes, decimal}
use Rattle.pl_frame.specs.declared.error.ComputeFault.TheVariants as compute_fault
use Rattle.pl_frame.specs.declared.error.PolarsError.TheVariants as error
use Rattle.pl_csv.specs.declared.run.Refusal.TheVariants as refusal
use Rattle.pl_csv.specs.Telling.{status_of, fault_line}
use Rattle.pl_multi.specs.declared.run.MultiRefusal.{MultiRefusal}
use Rattle.pl_multi.specs.declared.run.MultiRefusal.TheVariants as multi
use Rattle.pl_multi.specs.declared.scan.MultiFault.{MultiFault}
use Rattle.pl_multi.specs.declared.scan.MultiFault.TheVariants as fault

-- the status of a refusal: a part is refused with that of an input
abbrev pub multi_status : MultiRefusal → ℕ
multi_status (multi.Run given) = status_of given
multi_status (multi.Part place given) = status_of given
multi_status (multi.Partitions place) = 30
multi_status (multi.Duplicate name) = 31
multi_status multi.Index = 32

-- what stands before the fault line of an input that is a part
abbrev pub part_text : ℕ → List ℕ
part_text place = (codes "part " ++ decimal place) ++ codes " "

-- the fault line of a refusal
abbrev pub multi_line : MultiRefusal → List ℕ
multi_line (multi.Run given) = fault_line given
multi_line (multi.Part place given) = part_text place ++ fault_line given
multi_line (multi.Partitions place) = (codes "partitions part " ++ decimal place) ++ codes "\n"
multi_line (multi.Duplicate name) = (codes "duplicate " ++ name) ++ codes "\n"
multi_line multi.Index = codes "index\n"

-- the refusal for a cause against a joined read
abbrev pub refusal_of : MultiFault → MultiRefusal
refusal_of fault.Options = multi.Run refusal.Words
refusal_of (fault.Read cause) = multi.Run (refusal.Polars cause)
refusal_of (fault.Partitions place) = multi.Partitions place
refusal_of (fault.Duplicate name) = multi.Duplicate name
refusal_of (fault.Part place cause) = multi.Part place (refusal.Polars cause)
refusal_of (fault.Io place) = multi.Part place refusal.Source
refusal_of (fault.Index offset rows) = multi.Index
refusal_of fault.OutOfMemory = multi.Run (refusal.Polars error.OutOfMemory)

-- the refusal of a quote that is not ASCII
abbrev pub quote_refusal : MultiRefusal
quote_refusal = multi.Run (refusal.Polars (error.ComputeError compute_fault.Quote))
