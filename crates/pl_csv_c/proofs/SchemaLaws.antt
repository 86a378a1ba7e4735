-- Whether two schemas are one.
use Rattle.std.proofs.Common.{◌≡◌, ℕ, Bool, true, false, ◌&&◌, List, Option, None, Some, refl, sym, ◌∙◌, ap, subst, inr, true≢false}
use Rattle.std.specs.Prelude.{Result, Ok, Err, IfOk, IfErr}
use Rattle.std.specs.Bool.{Decides}
use Rattle.std.specs.Cmp.Lexicographic.{pointwise, pointwise_decides, bytes_decides}
use Rattle.pl_frame.specs.Equal.{entries_equal}
use Rattle.pl_frame.specs.EqualLaws.{types_decide, entries_equiv}
use Rattle.pl_frame.specs.Schema.{Entry}
use Rattle.pl_frame.specs.declared.error.PolarsError.{PolarsError}
use Rattle.pl_csv_c.specs.SchemaText.{schema_text}
use Rattle.pl_csv_c.specs.Schemas.{IsTold, HasNoText, IsToldSchema, HasNoToldSchema}
use Rattle.pl_options.specs.declared.read_options.CsvReadOptions.{CsvReadOptions}
use Rattle.pl_read.specs.declared.preparing.Prepared.{Prepared}
use Rattle.pl_read.specs.Options.{settled_schema}
use Rattle.pl_read.specs.Preparing.{IsPrepared}
use Rattle.pl_read.specs.Steps.{MayRead, opening_cause}
use Rattle.pl_read.proofs.BatchStepLaws.{opened-is}
use Rattle.pl_words.specs.SchemaText.{schema_of}

both : (a b : Bool) → (a && b) ≡ true → (a ≡ true) × (b ≡ true)
both true b e = (refl, e)
both false b e = absurd (true≢false (sym e))

entries_decide : (a b : Entry) → Decides (entries_equal a b) (a ≡ b)
entries_decide (n, t) (m, u) = (
  λ e.
      let h = both _ _ e in
      let x : n ≡ m = (bytes_decides n m).0 h.0 in
      let y : t ≡ u = (types_decide t u).0 h.1 in
      cc,
  λ e. subst (λ (b : Entry). entries_equal (n, t) b ≡ true) e (entries_equiv.refl (n, t)),
)

-- a schema that was read is the one that is asked for where the two are equal
pub told-if : (a b : List Entry) (read : Option (List Entry)) (same : Bool) → read ≡ Some a → same ≡ pointwise entries_equal a b → Decides same (read ≡ Some b)
told-if a b read same is e = (
  λ yes. is ∙ ap Some ((pointwise_decides entries_decide a b).0 (sym e ∙ yes)),
  λ one. let ab : a ≡ b = cc in e ∙ (pointwise_decides entries_decide a b).1 ab,
)

-- where no schema was read
pub told-none : (b : List Entry) (read : Option (List Entry)) → read ≡ None → Decides false (read ≡ Some b)
told-none b read none = (λ yes. absurd (true≢false (sym yes)), λ one. cc)

-- ---- the text of the schema that an input has

-- it was told
pub told-is : (o : CsvReadOptions) (input text : List ℕ) (prepared : Prepared) → MayRead o → opening_cause o (settled_schema o input) input ≡ None → IsPrepared o (settled_schema o input) input prepared
    → text ≡ schema_text prepared.schema → IsTold prepared.schema → IsToldSchema o input text
told-is o input text prepared may none is text_is told = record {
  sound = (opened-is o input prepared may none is).0;
  text_is = text_is ∙ ap schema_text is.schema_is;
  told = ap schema_of text_is ∙ told ∙ ap Some is.schema_is;
}

-- it was not told
pub untold-is : (o : CsvReadOptions) (input : List ℕ) (prepared : Prepared) (fault : PolarsError) → MayRead o → opening_cause o (settled_schema o input) input ≡ None → IsPrepared o (settled_schema o input) input prepared
    → HasNoText prepared.schema fault → HasNoToldSchema o input fault
untold-is o input prepared fault may none is untold =
    inr (record {
      sound = (opened-is o input prepared may none is).0;
      untold = subst (λ s. HasNoText s fault) is.schema_is untold;
    })

-- what was answered of it
pub told-answer : {X : Type 0} (bytes : X → List ℕ) (o : CsvReadOptions) (input : List ℕ) (prepared : Prepared) (answer : Result X PolarsError) → MayRead o → opening_cause o (settled_schema o input) input ≡ None → IsPrepared o (settled_schema o input) input prepared
    → IfOk answer (λ text. bytes text ≡ schema_text prepared.schema) → IfOk answer (λ text. IsTold prepared.schema)
    → IfOk answer (λ text. IsToldSchema o input (bytes text))
told-answer bytes o input prepared (Ok text) may none is text_is told = told-is o input (bytes text) prepared may none is text_is told
told-answer bytes o input prepared (Err fault) may none is text_is told = tt

pub untold-answer : {X : Type 0} (bytes : X → List ℕ) (o : CsvReadOptions) (input : List ℕ) (prepared : Prepared) (answer : Result X PolarsError) → MayRead o → opening_cause o (settled_schema o input) input ≡ None → IsPrepared o (settled_schema o input) input prepared
    → IfErr answer (HasNoText prepared.schema) → IfErr answer (HasNoToldSchema o input)
untold-answer bytes o input prepared (Ok text) may none is untold = tt
untold-answer bytes o input prepared (Err fault) may none is untold = untold-is o input prepared fault may none is untold
