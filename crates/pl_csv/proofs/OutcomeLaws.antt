-- An input has a frame that can be written or a first cause against it, and not both.
use Rattle.std.proofs.Common.{◌≡◌, ℕ, ◌<◌, Bool, true, false, List, [], ◌∷◌, ◌++◌, length, refl, sym, ap, arith, inl, inr}
use Rattle.std.specs.Prelude.{◌≢◌, ◌⊎◌, Option, None, Some, IfSome, nat_eq, nat_lt, not, ◌==◌}
use Rattle.std.specs.List.{list_all}
use Rattle.std.proofs.lemmas.Bool.Decides.{nat_tests}
use Rattle.pl_frame.specs.Causes.{Rose}
use Rattle.pl_frame.specs.Dialect.{Marks, IsMark, IsCommentPrefix, IsDialect}
use Rattle.pl_frame.specs.Frame.{ColumnValue}
use Rattle.pl_frame.specs.Schema.{Entry}
use Rattle.pl_frame.specs.declared.error.ComputeFault.TheVariants as compute_fault
use Rattle.pl_frame.specs.declared.error.PolarsError.{PolarsError}
use Rattle.pl_frame.specs.declared.error.PolarsError.TheVariants as error
use Rattle.pl_options.specs.declared.read_options.CsvReadOptions.{CsvReadOptions}
use Rattle.pl_options.specs.FirstCause.{when, first_some, Tells}
use Rattle.pl_options.specs.Text.{marks_of, comment_of}
use Rattle.pl_read.specs.Options.{settled_schema}
use Rattle.pl_read.specs.Reading.{frame_of}
use Rattle.pl_read.specs.Refusals.{early_causes, late_causes}
use Rattle.pl_write.specs.declared.options.CsvWriterOptions.{CsvWriterOptions}
use Rattle.pl_csv.specs.Transcoding.{all_causes, quote_cause, IsCause, IsValidRead, IsTranscodeFault, HasOneOutcome}
use Rattle.pl_csv.specs.Views.{SinkView}
use Rattle.pl_csv.proofs.RunLaws.{none_some, no_cause, one_cause}

-- ---- whether marks are a dialect can be told

-- a truth value that tells whether something holds
abbrev Decided : Type 0 → Type 0
Decided holds = (answer : Bool) × Tells answer holds

both : {P Q : Type 0} → Decided P → Decided Q → Decided (P × Q)
both (true, p) (true, q) = (true, (p, q))
both (true, p) (false, q) = (false, λ h. q h.1)
both (false, p) other = (false, λ h. p h.0)

same_as : {P Q : Type 0} → (P → Q) → (Q → P) → Decided P → Decided Q
same_as there back (true, p) = (true, there p)
same_as there back (false, p) = (false, λ q. p (back q))

less : (n m : ℕ) → Decided (n < m)
less n m = by (nat_lt n m) refl
  where
    by : (t : Bool) → nat_lt n m ≡ t → Decided (n < m)
    by true e = (true, grind (arith, nat_tests, e))
    by false e = (false, λ h. grind (arith, nat_tests, e, h))

unlike : (n m : ℕ) → Decided (n ≢ m)
unlike n m = by (nat_eq n m) refl
  where
    by : (t : Bool) → nat_eq n m ≡ t → Decided (n ≢ m)
    by true e = (false, λ h. h (grind (arith, nat_tests, e)))
    by false e = (true, λ h. grind (arith, nat_tests, e, h))

holds : (t : Bool) → Decided (t ≡ true)
holds true = (true, refl)
holds false = (false, λ h. cc)

mark : (x : ℕ) → Decided (IsMark x)
mark x = both (less x 128) (unlike x 13)

quote : (quote : Option ℕ) → Decided (IfSome quote IsMark)
quote None = (true, tt)
quote (Some q) = mark q

apart : (separator line_end : ℕ) (quote : Option ℕ) → Decided (IfSome quote (λ q. (q ≢ separator) × (q ≢ line_end)))
apart separator line_end None = (true, tt)
apart separator line_end (Some q) = both (unlike q separator) (unlike q line_end)

prefix : (line_end : ℕ) (comment : Option (List ℕ)) → Decided (IsCommentPrefix line_end comment)
prefix line_end None = (true, tt)
prefix line_end (Some bytes) = both (less 0 (length bytes)) (holds (list_all (λ x. not (x == line_end)) bytes))

dialect : (m : Marks) (comment : Option (List ℕ)) → Decided (IsDialect m comment)
dialect m comment =
    same_as
    (λ h. record { separator = h.0.0; line_end = h.0.1; quote = h.1.0.0; distinct = (h.1.0.1.0, h.1.0.1.1); prefix = h.1.1 })
    (λ (d : IsDialect m comment). ((d.separator, d.line_end), ((d.quote, (d.distinct.0, d.distinct.1)), d.prefix)))
    (both
    (both (mark m.separator) (less m.line_end 128))
    (both
    (both (quote m.quote) (both (unlike m.separator m.line_end) (apart m.separator m.line_end m.quote)))
    (prefix m.line_end comment)))

-- ---- where no cause is there

-- where none of the causes is there, neither is the one in the middle, nor one of the others
none_there : {X : Type 0} (early : List (Option X)) (q : Option X) (late : List (Option X)) → first_some (early ++ q ∷ late) ≡ None → (q ≡ None) × (first_some (early ++ late) ≡ None)
none_there [] None late e = (refl, e)
none_there [] (Some x) late e = absurd (none_some (Some x) x e refl)
none_there (None ∷ early) q late e = none_there early q late e
none_there (Some x ∷ early) q late e = absurd (none_some (Some x) x e refl)

-- the quote is ASCII where it is no cause
ascii : (quote : ℕ) → when (not (nat_lt quote 128)) (error.ComputeError compute_fault.Quote) ≡ None → quote < 128
ascii quote none = by (nat_lt quote 128) refl
  where
    by : (t : Bool) → nat_lt quote 128 ≡ t → quote < 128
    by true e = grind (arith, nat_tests, e)
    by false e = absurd (none_some (when (not (nat_lt quote 128)) (error.ComputeError compute_fault.Quote)) (error.ComputeError compute_fault.Quote) none (ap (λ t. when (not t) (error.ComputeError compute_fault.Quote)) e))

-- ---- the outcome

-- a frame that can be written, or else a cause
pub outcome : (read : CsvReadOptions) (schema : List Entry) (input : List ℕ) (write : CsvWriterOptions)
    → ((frame : List ColumnValue) × IsValidRead read schema input write frame) ⊎ ((first : PolarsError) × IsCause read schema input write first)
outcome read schema input write = by_dialect (dialect (marks_of read.parse_options) (comment_of read.parse_options))
  where
    by_first : (d : Bool) → Tells d (IsDialect (marks_of read.parse_options) (comment_of read.parse_options)) → (first : Option PolarsError)
        → first_some (all_causes read schema input write d) ≡ first
        → ((frame : List ColumnValue) × IsValidRead read schema input write frame) ⊎ ((first : PolarsError) × IsCause read schema input write first)
    by_first d tells None none =
        let quiet = none_there (early_causes read d) (quote_cause write) (late_causes read schema input) none in
        inl (frame_of read schema input, (ascii write.serialize_options.quote_char quiet.0, (record { is_dialect = d; tells = tells; is = sym quiet.1 }, refl)))
    by_first d tells (Some first) some = inr (first, record { is_dialect = d; tells = tells; is = sym some })

    by_dialect : Decided (IsDialect (marks_of read.parse_options) (comment_of read.parse_options))
        → ((frame : List ColumnValue) × IsValidRead read schema input write frame) ⊎ ((first : PolarsError) × IsCause read schema input write first)
    by_dialect (d, tells) = by_first d tells (first_some (all_causes read schema input write d)) refl

pub one_outcome : (read : CsvReadOptions) (schema : List Entry) (input : List ℕ) (write : CsvWriterOptions) → HasOneOutcome read schema input write
one_outcome read schema input write = record {
  some = outcome read schema input write;
  apart = λ frame first valid is. no_cause read schema input write frame first valid is;
  one = λ first other is other_is. one_cause read schema input write first other is other_is;
}

-- ---- valid input

-- an input whose frame can be written is not transcoded only for a fault of the sink or want of memory
pub valid_transcoded : (read : CsvReadOptions) (write : CsvWriterOptions) (input : List ℕ) (before now : SinkView) (frame : List ColumnValue) (fault : PolarsError)
    → IsValidRead read (settled_schema read input) input write frame → IsTranscodeFault read write input before now fault → (Rose before.faults now.faults → ⊥) → fault ≡ error.OutOfMemory
valid_transcoded read write input before now frame error.IO valid is quiet = absurd (quiet is.0)
valid_transcoded read write input before now frame error.OutOfMemory valid is quiet = refl
valid_transcoded read write input before now frame (error.InvalidOperation op) valid is quiet = absurd (no_cause read (settled_schema read input) input write frame (error.InvalidOperation op) valid is.0)
valid_transcoded read write input before now frame (error.ComputeError fault) valid is quiet = absurd (no_cause read (settled_schema read input) input write frame (error.ComputeError fault) valid is.0)
valid_transcoded read write input before now frame (error.NoData fault) valid is quiet = absurd (no_cause read (settled_schema read input) input write frame (error.NoData fault) valid is.0)
valid_transcoded read write input before now frame (error.ColumnNotFound name) valid is quiet = absurd (no_cause read (settled_schema read input) input write frame (error.ColumnNotFound name) valid is.0)
valid_transcoded read write input before now frame (error.OutOfBounds index length) valid is quiet = absurd (no_cause read (settled_schema read input) input write frame (error.OutOfBounds index length) valid is.0)
valid_transcoded read write input before now frame (error.Duplicate name at) valid is quiet = absurd (no_cause read (settled_schema read input) input write frame (error.Duplicate name at) valid is.0)
valid_transcoded read write input before now frame error.EmptyProjection valid is quiet = absurd (no_cause read (settled_schema read input) input write frame error.EmptyProjection valid is.0)
