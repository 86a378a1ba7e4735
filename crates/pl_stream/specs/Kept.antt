-- The fault that a state keeps; only the proofs of the code need this.
use Rattle.pl_frame.specs.declared.error.PolarsError.{PolarsError}
use Rattle.pl_frame.specs.declared.error.PolarsError.TheVariants as error
use Rattle.pl_stream.specs.declared.state.KeptFault.{KeptFault}
use Rattle.pl_stream.specs.declared.state.KeptFault.TheVariants as kept

-- the error that it answers
abbrev pub error_of : KeptFault → PolarsError
error_of (kept.Compute fault) = error.ComputeError fault
error_of (kept.NoData fault) = error.NoData fault
