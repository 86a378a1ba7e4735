-- What is prepared for a read.
use Rattle.std.proofs.Common.{◌≡◌, ℕ, ◌≤◌, Bool, true, false, ◌&&◌, ◌==◌, List, length, drop, refl, sym, ◌∙◌, subst, arith, nat_lt}
use Rattle.std.specs.Prelude.{None}
use Rattle.std.specs.Option.{option_copied}
use Rattle.std.proofs.lemmas.Bool.Decides.{nat_tests}
use Rattle.pl_frame.specs.Schema.{Entry, HaveDistinctNames}
use Rattle.pl_frame.specs.declared.error.PolarsError.TheVariants as error
use Rattle.pl_options.specs.declared.read_options.CsvReadOptions.{CsvReadOptions}
use Rattle.pl_options.specs.FirstCause.{when}
use Rattle.pl_rows.specs.declared.plan.RangePlan.{RangePlan}
use Rattle.pl_read.specs.declared.preparing.Prepared.{Prepared}
use Rattle.pl_read.specs.Preparing.{IsPrepared}
use Rattle.pl_read.specs.Projection.{projected}
use Rattle.pl_read.specs.Refusals.{nothing_read}
use Rattle.pl_read.specs.Steps.{MayRead, IsPlanOf, CanReadData}
use Rattle.pl_read.proofs.DataLaws.{may-dialect, may-pieces, texts-compiled}

-- under its own schema
pub IsPrepared-own : (o : CsvReadOptions) (schema : List Entry) (input : List ℕ) (prepared : Prepared) → IsPrepared o schema input prepared → IsPrepared o prepared.schema input prepared
IsPrepared-own o schema input prepared is = subst (λ s. IsPrepared o s input prepared) (sym is.schema_is) is

-- where columns are read of data, they are of fewer bytes
pub nothing-fewer : (o : CsvReadOptions) (schema : List Entry) (records rest : List ℕ) → length rest ≤ length records → nothing_read o schema records ≡ None → nothing_read o schema rest ≡ None
nothing-fewer o schema records rest less none = by (length (projected o schema) == 0) none
  where
    by : (t : Bool) → when (t && nat_lt 0 (length records)) error.EmptyProjection ≡ None → when (t && nat_lt 0 (length rest)) error.EmptyProjection ≡ None
    by false none = refl
    by true none = by_bytes (nat_lt 0 (length records)) refl none
      where
        by_bytes : (s : Bool) → nat_lt 0 (length records) ≡ s → when s error.EmptyProjection ≡ None → when (nat_lt 0 (length rest)) error.EmptyProjection ≡ None
        by_bytes true e none = absurd (cc)
        by_bytes false e none = let test : nat_lt 0 (length rest) ≡ false = grind (arith, nat_tests) in rw test refl

-- data, or some of its bytes, can be read by the plan of what is prepared
pub can-read : (o : CsvReadOptions) (input records : List ℕ) (prepared : Prepared) (plan : RangePlan) → MayRead o → IsPrepared o prepared.schema input prepared → IsPlanOf plan o prepared.schema
    → option_copied plan.options.null_values ≡ prepared.null_values → HaveDistinctNames prepared.schema → length records ≤ length (drop prepared.start input) → CanReadData plan o prepared.schema records
can-read o input records prepared plan may is plan_is nulls distinct less = record {
  plan_is = plan_is;
  dialect = may-dialect o may;
  pieces = may-pieces o may;
  readable = is.readable;
  texts = texts-compiled plan.options.null_values o.parse_options.null_values prepared.schema (nulls ∙ is.nulls_are);
  distinct = distinct;
  free = is.free;
  some = nothing-fewer o prepared.schema (drop prepared.start input) records less is.some;
}
