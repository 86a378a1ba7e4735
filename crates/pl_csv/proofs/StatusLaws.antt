-- Statuses of refusals.
use Rattle.std.proofs.Common.{◌≡◌, ℕ, arith}
use Rattle.pl_frame.specs.declared.error.ComputeFault.TheVariants as compute_fault
use Rattle.pl_frame.specs.declared.error.NamePlace.TheVariants as name_place
use Rattle.pl_frame.specs.declared.error.NoDataFault.TheVariants as no_data
use Rattle.pl_frame.specs.declared.error.OpFault.TheVariants as op_fault
use Rattle.pl_frame.specs.declared.error.PolarsError.{PolarsError}
use Rattle.pl_frame.specs.declared.error.PolarsError.TheVariants as error
use Rattle.pl_csv.specs.declared.run.Refusal.{Refusal}
use Rattle.pl_csv.specs.declared.run.Refusal.TheVariants as refusal
use Rattle.pl_csv.specs.Telling.{status_of, status_of_fault}

-- no refusal has status 0
pub refusal-not_zero : (r : Refusal) (status : ℕ) → status ≡ status_of r → status ≡ 0 → ⊥
refusal-not_zero refusal.Words status is zero = omega (arith, is, zero)
refusal-not_zero refusal.Source status is zero = omega (arith, is, zero)
refusal-not_zero refusal.TooLong status is zero = omega (arith, is, zero)
refusal-not_zero (refusal.Polars fault) status is zero = fault-not_zero fault status is zero
  where
    fault-not_zero : (fault : PolarsError) (status : ℕ) → status ≡ status_of_fault fault → status ≡ 0 → ⊥
    fault-not_zero error.IO status is zero = omega (arith, is, zero)
    fault-not_zero error.OutOfMemory status is zero = omega (arith, is, zero)
    fault-not_zero (error.InvalidOperation op_fault.Dialect) status is zero = omega (arith, is, zero)
    fault-not_zero (error.InvalidOperation op_fault.Option) status is zero = omega (arith, is, zero)
    fault-not_zero (error.ComputeError compute_fault.Quote) status is zero = omega (arith, is, zero)
    fault-not_zero (error.ComputeError compute_fault.Compressed) status is zero = omega (arith, is, zero)
    fault-not_zero (error.NoData no_data.Empty) status is zero = omega (arith, is, zero)
    fault-not_zero (error.Duplicate name name_place.Schema) status is zero = omega (arith, is, zero)
    fault-not_zero (error.InvalidOperation (op_fault.Overrides given columns)) status is zero = omega (arith, is, zero)
    fault-not_zero (error.ComputeError (compute_fault.Dtype column)) status is zero = omega (arith, is, zero)
    fault-not_zero (error.ColumnNotFound name) status is zero = omega (arith, is, zero)
    fault-not_zero (error.NoData no_data.Skip) status is zero = omega (arith, is, zero)
    fault-not_zero (error.OutOfBounds index length) status is zero = omega (arith, is, zero)
    fault-not_zero (error.Duplicate name name_place.Projection) status is zero = omega (arith, is, zero)
    fault-not_zero error.EmptyProjection status is zero = omega (arith, is, zero)
    fault-not_zero (error.ComputeError (compute_fault.Record row column kind)) status is zero = omega (arith, is, zero)
    fault-not_zero (error.ComputeError (compute_fault.Index offset rows)) status is zero = omega (arith, is, zero)
