-- What a run answers, by its outcome.
use Rattle.std.proofs.Common.{◌≡◌, ℕ, ◌^◌, ◌<◌, ◌≤◌, Bool, true, false, List, [], ◌∷◌, ◌++◌, length, refl, sym, ◌∙◌, ap, subst, append-nil, arith, inl, inr, length-append}
use Rattle.std.specs.Prelude.{◌⊎◌, ◌==◌, ◌||◌, if◌then◌else◌, Option, None, Some}
use Rattle.std.proofs.lemmas.Bool.Decides.{nat_tests}
use Rattle.std.specs.Io.KnownBytes.{Consumes, IsAtEnd}
use Rattle.pl_frame.specs.declared.error.PolarsError.{PolarsError}
use Rattle.pl_frame.specs.declared.error.PolarsError.TheVariants as error
use Rattle.pl_frame.specs.Frame.{ColumnValue}
use Rattle.pl_frame.specs.Schema.{Entry}
use Rattle.pl_options.specs.declared.parse_options.CsvParseOptions.{CsvParseOptions}
use Rattle.pl_options.specs.declared.read_options.CsvReadOptions.{CsvReadOptions}
use Rattle.pl_options.specs.FirstCause.{first_some, IsFirstCause, Tells}
use Rattle.pl_read.specs.Options.{settled_schema}
use Rattle.pl_read.specs.Refusals.{early_causes, late_causes, read_causes}
use Rattle.pl_words.specs.declared.job.Job.{Job}
use Rattle.pl_words.specs.declared.job.Job.TheVariants as job
use Rattle.pl_words.specs.Words.{Conversion, converting, job_of_words}
use Rattle.pl_write.specs.declared.options.CsvWriterOptions.{CsvWriterOptions}
use Rattle.pl_csv.specs.declared.convert_source.Unconverted.TheVariants as unconverted
use Rattle.pl_csv.specs.declared.run.Refusal.{Refusal}
use Rattle.pl_csv.specs.declared.run.Refusal.TheVariants as refusal
use Rattle.pl_csv.specs.Making.{IsZero, making_status}
use Rattle.pl_csv.specs.Run.{Converts, Makes, HasRead, HasWrongOption, IsRefused, IsDue, EndsAsDue, EndsAsMade, Converted, Made, MadePart, PartWritten, HasNoRead}
use Rattle.pl_csv.specs.Sources.{IsSourceConverted, IsUnconverted}
use Rattle.pl_csv.specs.Telling.{status_of, status_of_fault}
use Rattle.pl_csv.specs.Transcoding.{all_causes, HasAsciiQuote, IsCause, IsValidRead, IsTranscodeFault}
use Rattle.pl_csv.specs.Views.{Views}
use Rattle.pl_csv.proofs.TranscodeLaws.{quote_none}

-- an input that is known is the one that was read
pub same_input : (input came : List ℕ) (now : Option (List ℕ)) → Consumes (Some input) now came → IsAtEnd now → input ≡ came
same_input input came None h end = absurd h
same_input input came (Some rest) h end = h ∙ ap (λ l. came ++ l) end ∙ append-nil came

-- a known input is at least as long as what came of it
pub longer_input : (input came : List ℕ) (now : Option (List ℕ)) → Consumes (Some input) now came → length came ≤ length input
longer_input input came None h = absurd h
longer_input input came (Some rest) h = omega (arith, length-append came rest, ap length h)

-- the input of a reading whose source told its bytes
known_input : (words : List (List ℕ)) (told came : List ℕ) (left left_now : Option (List ℕ)) (conversion : Conversion) (read : HasRead words left left_now conversion came) → left ≡ Some told → told ≡ came
known_input words told came left left_now conversion read is = same_input told came left_now (subst (λ l. Consumes l left_now came) is read.came) read.end

pub none_some : {X : Type 0} (o : Option X) (x : X) → o ≡ None → o ≡ Some x → ⊥
none_some {X = X} o x none some = impossible (sym none ∙ some)
  where
    impossible : ◌≡◌ {A = Option X} None (Some x) → ⊥
    impossible h = cc

pub same_some : {X : Type 0} (o : Option X) (x y : X) → o ≡ Some x → o ≡ Some y → x ≡ y
same_some {X = X} o x y one other = same (sym one ∙ other)
  where
    same : ◌≡◌ {A = Option X} (Some x) (Some y) → x ≡ y
    same h = cc

-- ---- words mean one job

-- words that mean two conversions mean one
pub same_conversion : (o : Option Job) (c d : Conversion) → o ≡ Some (converting c) → o ≡ Some (converting d) → c ≡ d
same_conversion o c d one other =
    let same : job.Convert c.read c.write ≡ job.Convert d.read d.write = same_some o (converting c) (converting d) one other in
    let read : c.read ≡ d.read = cc in
    let write : c.write ≡ d.write = cc in
    λ i. record { read = read i; write = write i }

-- no words mean a conversion and a making job
pub not_both : {X : Type 0} (o : Option Job) (c : Conversion) (rows workers piece : ℕ) → o ≡ Some (converting c) → o ≡ Some (job.Make rows workers piece) → X
not_both o c rows workers piece one other =
    let same : job.Convert c.read c.write ≡ job.Make rows workers piece = same_some o (converting c) (job.Make rows workers piece) one other in
    cc

-- words that mean two making jobs mean one
pub same_making : (o : Option Job) (rows workers piece rows' workers' piece' : ℕ) → o ≡ Some (job.Make rows workers piece) → o ≡ Some (job.Make rows' workers' piece')
    → (workers ≡ workers') × (piece ≡ piece')
same_making o rows workers piece rows' workers' piece' one other =
    let same : job.Make rows workers piece ≡ job.Make rows' workers' piece' = same_some o (job.Make rows workers piece) (job.Make rows' workers' piece') one other in
    (cc, cc)

-- ---- an input has one first cause, or none

-- a truth value that tells whether something holds is one
same_answer : (a b : Bool) (holds : Type 0) → Tells a holds → Tells b holds → a ≡ b
same_answer true true holds x y = refl
same_answer true false holds x y = absurd (y x)
same_answer false true holds x y = absurd (x y)
same_answer false false holds x y = refl

same_first : (causes : Bool → List (Option PolarsError)) (o : CsvParseOptions) (f g : Option PolarsError) → IsFirstCause causes o f → IsFirstCause causes o g → f ≡ g
same_first causes o f g x y = x.is ∙ ap (λ d. first_some (causes d)) (same_answer x.is_dialect y.is_dialect _ x.tells y.tells) ∙ sym y.is

-- what is none is passed
first_some-pass : {X : Type 0} (early late : List (Option X)) → first_some (early ++ None ∷ late) ≡ first_some (early ++ late)
first_some-pass [] late = refl
first_some-pass (None ∷ early) late = first_some-pass early late
first_some-pass (Some x ∷ early) late = refl

-- where the quote is ASCII, the causes are those against the frame
plain_causes : (read : CsvReadOptions) (schema : List Entry) (input : List ℕ) (write : CsvWriterOptions) (is_dialect : Bool) → HasAsciiQuote write
    → first_some (all_causes read schema input write is_dialect) ≡ first_some (read_causes read schema input is_dialect)
plain_causes read schema input write is_dialect small =
    ap (λ q. first_some (early_causes read is_dialect ++ q ∷ late_causes read schema input)) (quote_none write small)
    ∙ first_some-pass (early_causes read is_dialect) (late_causes read schema input)

-- an input whose frame can be written has no cause
pub no_cause : (read : CsvReadOptions) (schema : List Entry) (input : List ℕ) (write : CsvWriterOptions) (frame : List ColumnValue) (first : PolarsError) → IsValidRead read schema input write frame
    → IsCause read schema input write first → ⊥
no_cause read schema input write frame first valid is =
    let plain : IsFirstCause (read_causes read schema input) read.parse_options (Some first) = record { is_dialect = is.is_dialect; tells = is.tells; is = is.is ∙ plain_causes read schema input write is.is_dialect valid.0 } in
    none_some (Some first) first (sym (same_first (read_causes read schema input) read.parse_options None (Some first) valid.1.0 plain)) refl

-- and one cause
pub one_cause : (read : CsvReadOptions) (schema : List Entry) (input : List ℕ) (write : CsvWriterOptions) (f g : PolarsError) → IsCause read schema input write f → IsCause read schema input write g → f ≡ g
one_cause read schema input write f g x y = same_some (Some f) f g refl (same_first (all_causes read schema input write) read.parse_options (Some f) (Some g) x y)

-- ---- what is due

-- words and a known input that were read have a conversion and a length that are known
pub record WasRead (words : List (List ℕ)) (input : List ℕ) (conversion : Conversion) : Type 0 where
  pub meaning : job_of_words words ≡ Some (converting conversion)
  pub within : length input ≤ 2 ^ 36

abbrev was_read : (words : List (List ℕ)) (told came : List ℕ) (left left_now : Option (List ℕ)) (conversion : Conversion) (read : HasRead words left left_now conversion came) → left ≡ Some told
    → WasRead words told conversion
was_read words told came left left_now conversion read is =
    record { meaning = read.meaning; within = subst (λ i. length i ≤ 2 ^ 36) (sym (known_input words told came left left_now conversion read is)) read.within }

-- the frame of a conversion
abbrev pub Valid : Conversion → List ℕ → List ColumnValue → Type 0
Valid c input frame = IsValidRead c.read (settled_schema c.read input) input c.write frame

-- the first cause against it
abbrev pub Cause : Conversion → List ℕ → PolarsError → Type 0
Cause c input first = IsCause c.read (settled_schema c.read input) input c.write first

-- what is due to an input that has a reference read
pub due-read : (words : List (List ℕ)) (input : List ℕ) (status : ℕ) (c : Conversion) (was : WasRead words input c) (frame : List ColumnValue) → Valid c input frame → IsDue words input status → status ≡ 0
due-read words input status c was frame read (inl due) = absurd (none_some _ (converting c) due.0 was.meaning)
due-read words input status c was frame read (inr (inl due)) = absurd (omega (arith, due.1, was.within))
due-read words input status c was frame read (inr (inr (inl due))) = due.1
due-read words input status c was frame read (inr (inr (inr (inr due)))) = not_both _ c due.rows due.workers due.piece was.meaning due.meaning
due-read words input status c was frame read (inr (inr (inr (inl due)))) =
    let invalid = due.1 in
    let d = invalid.conversion in
    let same = same_conversion _ c d was.meaning invalid.meaning in
    absurd (no_cause d.read (settled_schema d.read input) input d.write frame due.0 (subst (λ e. Valid e input frame) same read) invalid.is)

-- what is due to an input that has a cause
pub due-invalid : (words : List (List ℕ)) (input : List ℕ) (status : ℕ) (c : Conversion) (was : WasRead words input c) (first : PolarsError) → Cause c input first → IsDue words input status
    → status ≡ status_of_fault first
due-invalid words input status c was first is (inl due) = absurd (none_some _ (converting c) due.0 was.meaning)
due-invalid words input status c was first is (inr (inl due)) = absurd (omega (arith, due.1, was.within))
due-invalid words input status c was first is (inr (inr (inl due))) =
    let valid = due.0 in
    let d = valid.conversion in
    let same = same_conversion _ c d was.meaning valid.meaning in
    absurd (no_cause d.read (settled_schema d.read input) input d.write valid.frame first valid.read (subst (λ e. Cause e input first) same is))
due-invalid words input status c was first is (inr (inr (inr (inr due)))) = not_both _ c due.rows due.workers due.piece was.meaning due.meaning
due-invalid words input status c was first is (inr (inr (inr (inl due)))) =
    let invalid = due.1 in
    let d = invalid.conversion in
    let same = same_conversion _ c d was.meaning invalid.meaning in
    due.2 ∙ ap status_of_fault (one_cause d.read (settled_schema d.read input) input d.write due.0 first invalid.is (subst (λ e. Cause e input first) same is))

-- what is due where a cause was found
due-cause : (words : List (List ℕ)) (left left_now : Option (List ℕ)) (input : List ℕ) (status : ℕ) (first : PolarsError) → HasNoRead words left left_now first
    → left ≡ Some input → IsDue words input status → status ≡ status_of_fault first
due-cause words left left_now input status first has told due =
    let c = has.conversion in
    let same = known_input words input has.input left left_now c has.read told in
    due-invalid words input status c (was_read words input has.input left left_now c has.read told) first (subst (λ i. Cause c i first) (sym same) has.is) due

-- a told input that was converted was due to be
pub due-converted : (words : List (List ℕ)) (before now : Views) (input : List ℕ) (status : ℕ) → Converted words before.source.left now.source.left before.out.received now.out.received
    → before.source.left ≡ Some input → IsDue words input status → EndsAsDue status 0 before now
due-converted words before now input status converted told due =
    let c = converted.conversion in
    let same = known_input words input converted.input before.source.left now.source.left c converted.read told in
    inl (sym (due-read words input status c (was_read words input converted.input before.source.left now.source.left c converted.read told) converted.frame (subst (λ i. Valid c i converted.frame) (sym same) converted.is.is) due))

-- what is due where the words have no meaning
pub due-words : (words : List (List ℕ)) (input : List ℕ) (status : ℕ) → job_of_words words ≡ None → IsDue words input status → status ≡ 2
due-words words input status none (inl due) = due.1
due-words words input status none (inr (inl due)) = absurd (none_some _ (converting due.0.0) none due.0.1)
due-words words input status none (inr (inr (inl due))) = absurd (none_some _ (converting due.0.conversion) none due.0.meaning)
due-words words input status none (inr (inr (inr (inl due)))) = absurd (none_some _ (converting due.1.conversion) none due.1.meaning)
due-words words input status none (inr (inr (inr (inr due)))) = absurd (none_some _ (job.Make due.rows due.workers due.piece) none due.meaning)

-- what is due where the input is too long
pub due-long : (words : List (List ℕ)) (input : List ℕ) (status : ℕ) → Converts words → 2 ^ 36 < length input → IsDue words input status → status ≡ 6
due-long words input status (c, meaning) long (inl due) = absurd (none_some _ (converting c) due.0 meaning)
due-long words input status (c, meaning) long (inr (inl due)) = due.2
due-long words input status (c, meaning) long (inr (inr (inl due))) = absurd (omega (arith, long, due.0.within))
due-long words input status (c, meaning) long (inr (inr (inr (inl due)))) = absurd (omega (arith, long, due.1.within))
due-long words input status (c, meaning) long (inr (inr (inr (inr due)))) = not_both _ c due.rows due.workers due.piece meaning due.meaning

-- what is due to a making job
pub due-made : (words : List (List ℕ)) (input : List ℕ) (status rows workers piece : ℕ) → Makes words rows workers piece → IsDue words input status → status ≡ making_status workers piece
due-made words input status rows workers piece meaning (inl due) = absurd (none_some _ (job.Make rows workers piece) due.0 meaning)
due-made words input status rows workers piece meaning (inr (inl due)) = not_both _ due.0.0 rows workers piece due.0.1 meaning
due-made words input status rows workers piece meaning (inr (inr (inl due))) = not_both _ due.0.conversion rows workers piece due.0.meaning meaning
due-made words input status rows workers piece meaning (inr (inr (inr (inl due)))) = not_both _ due.1.conversion rows workers piece due.1.meaning meaning
due-made words input status rows workers piece meaning (inr (inr (inr (inr due)))) =
    let same = same_making _ rows workers piece due.rows due.workers due.piece meaning due.meaning in
    due.is ∙ sym (λ i. making_status (same.0 i) (same.1 i))

-- ---- what becomes of a making job

-- 12 where an option is wrong
abbrev status_by : Bool → Bool → ℕ
status_by a b = if a || b then 12 else 0

zero_status : (workers piece : ℕ) → IsZero workers piece → making_status workers piece ≡ 12
zero_status workers piece (inl zero) = ap (λ n. making_status n piece) zero
zero_status workers piece (inr zero) = ap (λ n. making_status workers n) zero ∙ by (workers == 0)
  where
    by : (t : Bool) → ◌≡◌ {A = ℕ} (status_by t true) 12
    by true = refl
    by false = refl

-- and else 0
some_status : (workers piece : ℕ) → 0 < workers → 0 < piece → making_status workers piece ≡ 0
some_status workers piece some more =
    let no_workers : (workers == 0) ≡ false = grind (arith, nat_tests) in
    let no_bytes : (piece == 0) ≡ false = grind (arith, nat_tests) in
    (λ i. status_by (no_workers i) (no_bytes i))

-- a making job that was done, or cut short, was due to be
pub made_status : (words : List (List ℕ)) (before now : Option (List ℕ)) (rows workers piece : ℕ) → Makes words rows workers piece → Made words before now → making_status workers piece ≡ 0
made_status words before now rows workers piece meaning made =
    let same = same_making _ rows workers piece made.rows made.workers made.piece meaning made.meaning in
    (λ i. making_status (same.0 i) (same.1 i)) ∙ some_status made.workers made.piece made.is.is.some_workers made.is.is.some_bytes

pub part_status : (words : List (List ℕ)) (before now : Option (List ℕ)) (rows workers piece : ℕ) → Makes words rows workers piece → MadePart words before now → making_status workers piece ≡ 0
part_status words before now rows workers piece meaning part =
    let same = same_making _ rows workers piece part.rows part.workers part.piece meaning part.meaning in
    (λ i. making_status (same.0 i) (same.1 i)) ∙ some_status part.workers part.piece part.is.is.some_workers part.is.is.some_bytes

pub wrong_status : (words : List (List ℕ)) (first : PolarsError) (rows workers piece : ℕ) → Makes words rows workers piece → HasWrongOption words first → making_status workers piece ≡ status_of_fault first
wrong_status words first rows workers piece meaning wrong =
    let same = same_making _ rows workers piece wrong.rows wrong.workers wrong.piece meaning wrong.meaning in
    (λ i. making_status (same.0 i) (same.1 i)) ∙ zero_status wrong.workers wrong.piece wrong.zero ∙ sym (ap status_of_fault wrong.is)

-- ---- refusals

-- what is due where a cause was found, or an option is wrong
due-first : (words : List (List ℕ)) (left left_now : Option (List ℕ)) (input : List ℕ) (status : ℕ) (first : PolarsError) → HasNoRead words left left_now first ⊎ HasWrongOption words first
    → left ≡ Some input → IsDue words input status → status ≡ status_of_fault first
due-first words left left_now input status first (inl has) told due = due-cause words left left_now input status first has told due
due-first words left left_now input status first (inr wrong) told due =
    due-made words input status wrong.rows wrong.workers wrong.piece wrong.meaning due ∙ wrong_status words first wrong.rows wrong.workers wrong.piece wrong.meaning wrong

-- and where a part was written
due-part : (words : List (List ℕ)) (before now : Views) (input : List ℕ) (status : ℕ) → PartWritten words before now → before.source.left ≡ Some input → IsDue words input status → status ≡ 0
due-part words before now input status (inl part) told due =
    let c = part.conversion in
    let same = known_input words input part.input before.source.left now.source.left c part.read told in
    due-read words input status c (was_read words input part.input before.source.left now.source.left c part.read told) part.is.frame (subst (λ i. Valid c i part.is.frame) (sym same) part.is.is) due
due-part words before now input status (inr part) told due =
    due-made words input status part.rows part.workers part.piece part.meaning due ∙ part_status words before.out.received now.out.received part.rows part.workers part.piece part.meaning part

-- a told input of which all was done was due to be
pub due-done : (words : List (List ℕ)) (before now : Views) (input : List ℕ) (status : ℕ)
    → Converted words before.source.left now.source.left before.out.received now.out.received ⊎ Made words before.out.received now.out.received
    → before.source.left ≡ Some input → IsDue words input status → EndsAsDue status 0 before now
due-done words before now input status (inl converted) told due = due-converted words before now input status converted told due
due-done words before now input status (inr made) told due =
    inl (sym (due-made words input status made.rows made.workers made.piece made.meaning due ∙ made_status words before.out.received now.out.received made.rows made.workers made.piece made.meaning made))

-- a told input that was refused ends as is due
pub due-refused : (words : List (List ℕ)) (before now : Views) (input : List ℕ) (status : ℕ) (r : Refusal) → IsRefused words before now r → before.source.left ≡ Some input → IsDue words input status
    → EndsAsDue status (status_of r) before now
due-refused words before now input status refusal.Words is told due = inl (sym (due-words words input status is.0 due))
due-refused words before now input status refusal.Source is told due = inr (inr (inl (refl, is.1)))
due-refused words before now input status refusal.TooLong is told due =
    let came = is.1 in
    let least = longer_input input came.0 now.source.left (subst (λ l. Consumes l now.source.left came.0) told came.1) in
    inl (sym (due-long words input status is.0 (omega (arith, came.2, least)) due))
due-refused words before now input status (refusal.Polars error.IO) is told due = inr (inr (inr (refl, due-part words before now input status is.1 told due, is.0)))
due-refused words before now input status (refusal.Polars error.OutOfMemory) is told due = inr (inl refl)
due-refused words before now input status (refusal.Polars (error.InvalidOperation op)) is told due = inl (sym (due-first words before.source.left now.source.left input status (error.InvalidOperation op) is.0 told due))
due-refused words before now input status (refusal.Polars (error.ComputeError fault)) is told due = inl (sym (due-first words before.source.left now.source.left input status (error.ComputeError fault) is.0 told due))
due-refused words before now input status (refusal.Polars (error.NoData fault)) is told due = inl (sym (due-first words before.source.left now.source.left input status (error.NoData fault) is.0 told due))
due-refused words before now input status (refusal.Polars (error.ColumnNotFound name)) is told due = inl (sym (due-first words before.source.left now.source.left input status (error.ColumnNotFound name) is.0 told due))
due-refused words before now input status (refusal.Polars (error.OutOfBounds index length)) is told due = inl (sym (due-first words before.source.left now.source.left input status (error.OutOfBounds index length) is.0 told due))
due-refused words before now input status (refusal.Polars (error.Duplicate name at)) is told due = inl (sym (due-first words before.source.left now.source.left input status (error.Duplicate name at) is.0 told due))
due-refused words before now input status (refusal.Polars error.EmptyProjection) is told due = inl (sym (due-first words before.source.left now.source.left input status error.EmptyProjection is.0 told due))

-- an input that was read and not transcoded was refused
pub refused-fault : (words : List (List ℕ)) (before now : Views) (c : Conversion) (input : List ℕ) (fault : PolarsError) → HasRead words before.source.left now.source.left c input
    → IsTranscodeFault c.read c.write input before.out now.out fault → IsRefused words before now (refusal.Polars fault)
refused-fault words before now c input error.IO read (rose, is) = (rose, inl (record { conversion = c; input = input; read = read; is = is }))
refused-fault words before now c input error.OutOfMemory read (inl same) = inl same
refused-fault words before now c input error.OutOfMemory read (inr is) = inr (inl (record { conversion = c; input = input; read = read; is = is }))
refused-fault words before now c input (error.InvalidOperation op) read (is, same) = (inl (record { conversion = c; input = input; read = read; is = is }), same)
refused-fault words before now c input (error.ComputeError fault) read (is, same) = (inl (record { conversion = c; input = input; read = read; is = is }), same)
refused-fault words before now c input (error.NoData fault) read (is, same) = (inl (record { conversion = c; input = input; read = read; is = is }), same)
refused-fault words before now c input (error.ColumnNotFound name) read (is, same) = (inl (record { conversion = c; input = input; read = read; is = is }), same)
refused-fault words before now c input (error.OutOfBounds index length) read (is, same) = (inl (record { conversion = c; input = input; read = read; is = is }), same)
refused-fault words before now c input (error.Duplicate name at) read (is, same) = (inl (record { conversion = c; input = input; read = read; is = is }), same)
refused-fault words before now c input error.EmptyProjection read (is, same) = (inl (record { conversion = c; input = input; read = read; is = is }), same)

-- what a source gives and was not converted was refused
pub refused-source : (words : List (List ℕ)) (before now : Views) (c : Conversion) (fault : PolarsError) → job_of_words words ≡ Some (converting c)
    → IsUnconverted c.read c.write before now (unconverted.Polars fault) → IsRefused words before now (refusal.Polars fault)
refused-source words before now c fault meaning (inl (wanting, same)) = subst (λ f. IsRefused words before now (refusal.Polars f)) (sym wanting) (inl same)
refused-source words before now c fault meaning (inr (input, come, is)) =
    refused-fault words before now c input fault (record { meaning = meaning; came = come.came; end = come.end; within = come.within }) is

-- and what was converted was
pub converted-source : (words : List (List ℕ)) (left left_now received received_now : Option (List ℕ)) (c : Conversion) → job_of_words words ≡ Some (converting c)
    → IsSourceConverted c.read c.write left left_now received received_now → Converted words left left_now received received_now
converted-source words left left_now received received_now c meaning (input, come, (frame, is)) = record {
  conversion = c;
  input = input;
  read = record { meaning = meaning; came = come.came; end = come.end; within = come.within };
  frame = frame;
  is = is;
}

-- a making job that was done ends as is due
pub made-done : (words : List (List ℕ)) (before now : Views) (rows workers piece : ℕ)
    → Converted words before.source.left now.source.left before.out.received now.out.received ⊎ Made words before.out.received now.out.received
    → Makes words rows workers piece → EndsAsMade workers piece 0 before.out.faults now.out.faults
made-done words before now rows workers piece (inl converted) meaning = not_both _ converted.conversion rows workers piece converted.read.meaning meaning
made-done words before now rows workers piece (inr made) meaning = inl (sym (made_status words before.out.received now.out.received rows workers piece meaning made))

-- where an option of a making job is wrong
made-first : (words : List (List ℕ)) (left left_now : Option (List ℕ)) (faults faults_now : ℕ) (first : PolarsError) (rows workers piece : ℕ) → HasNoRead words left left_now first ⊎ HasWrongOption words first
    → Makes words rows workers piece → EndsAsMade workers piece (status_of_fault first) faults faults_now
made-first words left left_now faults faults_now first rows workers piece (inl has) meaning = not_both _ has.conversion rows workers piece has.read.meaning meaning
made-first words left left_now faults faults_now first rows workers piece (inr wrong) meaning = inl (sym (wrong_status words first rows workers piece meaning wrong))

-- where a part of its line was written
made-part : (words : List (List ℕ)) (before now : Views) (rows workers piece : ℕ) → PartWritten words before now → Makes words rows workers piece → making_status workers piece ≡ 0
made-part words before now rows workers piece (inl part) meaning = not_both _ part.conversion rows workers piece part.read.meaning meaning
made-part words before now rows workers piece (inr part) meaning = part_status words before.out.received now.out.received rows workers piece meaning part

-- a making job that was refused ends as is due
pub made-refused : (words : List (List ℕ)) (before now : Views) (rows workers piece : ℕ) (r : Refusal) → IsRefused words before now r → Makes words rows workers piece
    → EndsAsMade workers piece (status_of r) before.out.faults now.out.faults
made-refused words before now rows workers piece refusal.Words is meaning = absurd (none_some _ (job.Make rows workers piece) is.0 meaning)
made-refused words before now rows workers piece refusal.Source is meaning = not_both _ is.0.0 rows workers piece is.0.1 meaning
made-refused words before now rows workers piece refusal.TooLong is meaning = not_both _ is.0.0 rows workers piece is.0.1 meaning
made-refused words before now rows workers piece (refusal.Polars error.IO) is meaning = inr (inr (refl, made-part words before now rows workers piece is.1 meaning, is.0))
made-refused words before now rows workers piece (refusal.Polars error.OutOfMemory) is meaning = inr (inl refl)
made-refused words before now rows workers piece (refusal.Polars (error.InvalidOperation op)) is meaning = made-first words before.source.left now.source.left before.out.faults now.out.faults (error.InvalidOperation op) rows workers piece is.0 meaning
made-refused words before now rows workers piece (refusal.Polars (error.ComputeError fault)) is meaning = made-first words before.source.left now.source.left before.out.faults now.out.faults (error.ComputeError fault) rows workers piece is.0 meaning
made-refused words before now rows workers piece (refusal.Polars (error.NoData fault)) is meaning = made-first words before.source.left now.source.left before.out.faults now.out.faults (error.NoData fault) rows workers piece is.0 meaning
made-refused words before now rows workers piece (refusal.Polars (error.ColumnNotFound name)) is meaning = made-first words before.source.left now.source.left before.out.faults now.out.faults (error.ColumnNotFound name) rows workers piece is.0 meaning
made-refused words before now rows workers piece (refusal.Polars (error.OutOfBounds index length)) is meaning = made-first words before.source.left now.source.left before.out.faults now.out.faults (error.OutOfBounds index length) rows workers piece is.0 meaning
made-refused words before now rows workers piece (refusal.Polars (error.Duplicate name at)) is meaning = made-first words before.source.left now.source.left before.out.faults now.out.faults (error.Duplicate name at) rows workers piece is.0 meaning
made-refused words before now rows workers piece (refusal.Polars error.EmptyProjection) is meaning = made-first words before.source.left now.source.left before.out.faults now.out.faults error.EmptyProjection rows workers piece is.0 meaning
