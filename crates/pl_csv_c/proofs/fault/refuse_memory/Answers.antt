use Rattle.std.proofs.Common.{refl, inl}
use Rattle.std.specs.Prelude.{codes}
use Rattle.pl_csv.specs.declared.run.Refusal.TheVariants as refusal
use Rattle.pl_frame.specs.declared.error.PolarsError.TheVariants as error
use Rattle.pl_csv_c.proofs.fault.refuse_memory.Goals as goal

pub returns-clause-told : goal.returns-clause-told
returns-clause-told c = record {
  given = refusal.Polars error.OutOfMemory;
  cause = inl refl;
  status_is = refl;
  line = record { text = codes "memory"; line_is = refl; put = c.put_front.ensures; len_is = refl };
}
