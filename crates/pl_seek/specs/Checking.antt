-- The steps of a check. Only the proofs of the code need this.
use Rattle.pl_frame.specs.declared.error.PolarsError.{PolarsError}
use Rattle.pl_frame.specs.declared.error.PolarsError.TheVariants as error
use Rattle.pl_seek.specs.declared.fault.SeekFault.{SeekFault}
use Rattle.pl_seek.specs.declared.fault.SeekFault.TheVariants as fault

-- the refusal for a cause, or want of memory
abbrev pub fault_of : PolarsError → SeekFault
fault_of error.OutOfMemory = fault.OutOfMemory
fault_of cause = fault.Polars cause
