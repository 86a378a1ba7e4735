-- Lemmas on runs over a stream.
use Rattle.std.proofs.Common.{◌≡◌, ◌≤◌, ◌<◌, ◌+◌, ◌^◌, ◌++◌, ◌∙◌, ap, sym, subst, refl, ℕ, Bool, true, false, List, [], ◌∷◌, length, arith, append-nil, append_assoc, length-append, inl, inr}
use Rattle.std.specs.Prelude.{◌⊎◌, Option, None, Some, IsSome, nat_le, ◌&&◌}
use Rattle.std.specs.Option.{option_map}
use Rattle.std.specs.Io.KnownBytes.{Consumes, IsAtEnd}
use Rattle.std.proofs.lemmas.Bool.Decides.{nat_tests}
use Rattle.pl_frame.specs.Causes.{Rose}
use Rattle.pl_frame.specs.Compression.{is_compressed}
use Rattle.pl_frame.specs.Dialect.{IsDialect}
use Rattle.pl_frame.specs.declared.error.ComputeFault.TheVariants as compute_fault
use Rattle.pl_frame.specs.declared.error.FaultKind.{FaultKind}
use Rattle.pl_frame.specs.declared.error.PolarsError.{PolarsError}
use Rattle.pl_frame.specs.declared.error.PolarsError.TheVariants as error
use Rattle.pl_options.specs.declared.read_options.CsvReadOptions.{CsvReadOptions}
use Rattle.pl_options.specs.FirstCause.{when, first_some}
use Rattle.pl_options.specs.Text.{marks_of, comment_of}
use Rattle.pl_read.specs.Options.{rules_of}
use Rattle.pl_read.specs.Refusals.{numbers_past}
use Rattle.pl_read.specs.Rows.{columns_read}
use Rattle.pl_read.specs.SettleGiven.{given_schema}
use Rattle.pl_read.proofs.NextLaws.{faulty-none}
use Rattle.pl_read.proofs.ReaderLaws.{first-same}
use Rattle.pl_rows.specs.Rows.{first_faulty}
use Rattle.pl_table.specs.Rows.{Row}
use Rattle.pl_words.specs.declared.job.Job.{Job}
use Rattle.pl_words.specs.declared.job.Job.TheVariants as job
use Rattle.pl_words.specs.Words.{job_of_words}
use Rattle.pl_write.specs.declared.options.CsvWriterOptions.{CsvWriterOptions}
use Rattle.pl_csv.specs.Views.{SinkView, SourceView}
use Rattle.pl_stream.specs.declared.fault.StreamFault.{StreamFault}
use Rattle.pl_stream.specs.declared.fault.StreamFault.TheVariants as fault
use Rattle.pl_stream.specs.declared.run.StreamRefusal.{StreamRefusal}
use Rattle.pl_stream.specs.Feeding.{feed_cause, finish_cause, faulty_of, numbers_of, all_rows}
use Rattle.pl_stream.specs.Options.{option_causes, first_categorical, IsAccepted, IsRefused}
use Rattle.pl_stream.specs.Run.{Asks, HasNoStream, asks_nothing, IsOutcome, IsRunRefused, MustStream, EndsStreamed}
use Rattle.pl_stream.specs.Settled.{settled_rows}
use Rattle.pl_stream.specs.Streaming.{IsUnstreamed, IsStreamRefused, HasFed, most_bytes}
use Rattle.pl_stream.specs.Telling.{refusal_of, stream_status}
use Rattle.pl_stream.proofs.FedLaws.{compressed-more}
use Rattle.pl_stream.proofs.FeedLaws.{none-before}
use Rattle.pl_stream.proofs.StreamingLaws.{accepted-dialect}
use Rattle.pl_stream.proofs.TextLaws.{rows-front}

-- ---- causes

-- there is a first cause where a cause is told
when-some : (t : Bool) (x : PolarsError) → when t x ≡ None → t ≡ false
when-some true x none = absurd (some-none x none)
  where
    some-none : (x : PolarsError) → ◌≡◌ {A = Option PolarsError} (Some x) None → ⊥
    some-none x h = cc
when-some false x none = refl

-- none of four causes stands
pub record AllNone (a b c d : Option PolarsError) : Type 0 where
  pub first : a ≡ None
  pub second : b ≡ None
  pub third : c ≡ None
  pub fourth : d ≡ None

all-none : (a b c d : Option PolarsError) → first_some (a ∷ b ∷ c ∷ d ∷ []) ≡ None → AllNone a b c d
all-none None None None None none = record { first = refl; second = refl; third = refl; fourth = refl }
all-none None None None (Some x) none = absurd (let h : ◌≡◌ {A = Option PolarsError} (Some x) None = none in cc)
all-none None None (Some x) d none = absurd (let h : ◌≡◌ {A = Option PolarsError} (Some x) None = none in cc)
all-none None (Some x) c d none = absurd (let h : ◌≡◌ {A = Option PolarsError} (Some x) None = none in cc)
all-none (Some x) b c d none = absurd (let h : ◌≡◌ {A = Option PolarsError} (Some x) None = none in cc)

none-of : (a b c : Option PolarsError) → a ≡ None → b ≡ None → c ≡ None → first_some (a ∷ b ∷ c ∷ []) ≡ None
none-of a b c x y z = ap (λ o. first_some (o ∷ b ∷ c ∷ [])) x ∙ ap (λ o. first_some (o ∷ c ∷ [])) y ∙ ap (λ o. first_some (o ∷ [])) z

numbers_of-fewer : (o : CsvReadOptions) (xs ys : List Row) → numbers_of o (length (xs ++ ys)) ≡ None → numbers_of o (length xs) ≡ None
numbers_of-fewer o [] ys none = refl
numbers_of-fewer o (x ∷ xs) ys none = none-before o.row_index (length (x ∷ xs)) (length ((x ∷ xs) ++ ys)) (omega (arith, length-append (x ∷ xs) ys)) none

faulty_of-fewer : (o : CsvReadOptions) (xs ys : List Row) → faulty_of o (xs ++ ys) ≡ None → faulty_of o xs ≡ None
faulty_of-fewer o xs ys none =
    let rules = rules_of o (given_schema o) in
    let columns = columns_read o (given_schema o) in
    ap (option_map told) (faulty-none rules columns 0 xs ys (unmapped (first_faulty rules columns 0 (xs ++ ys)) none))
  where
    told : ℕ × (ℕ × FaultKind) → PolarsError
    told found = error.ComputeError (compute_fault.Record found.0 found.1.0 found.1.1)

    unmapped : (given : Option (ℕ × (ℕ × FaultKind))) → option_map told given ≡ None → given ≡ None
    unmapped None none = refl
    unmapped (Some x) none = absurd (let h : ◌≡◌ {A = Option PolarsError} (Some (told x)) None = none in cc)

-- where no cause stands against an input, none stands against the first of its bytes
pub feed-sound : (o : CsvReadOptions) (b more : List ℕ) → IsDialect (marks_of o.parse_options) (comment_of o.parse_options) → finish_cause o (b ++ more) ≡ None → feed_cause o b ≡ None
feed-sound o b more apart none =
    let causes = all-none _ _ _ _ none in
    let front = rows-front o b more apart in
    let plain : is_compressed (b ++ more) ≡ false = when-some (is_compressed (b ++ more)) (error.ComputeError compute_fault.Compressed) causes.first in
    none-of _ _ _
    (ap (λ t. when t (error.ComputeError compute_fault.Compressed)) (marked (nat_le 4 (length b)) refl plain))
    (faulty_of-fewer o (settled_rows o b) front.0 (subst (λ (given : List Row). faulty_of o given ≡ None) front.1 causes.third))
    (numbers_of-fewer o (settled_rows o b) front.0 (subst (λ (given : List Row). numbers_of o (length given) ≡ None) front.1 causes.fourth))
  where
    marked : (t : Bool) → nat_le 4 (length b) ≡ t → is_compressed (b ++ more) ≡ false → (t && is_compressed b) ≡ false
    marked false few plain = refl
    marked true enough plain = sym (compressed-more b more (grind (arith, nat_tests, enough))) ∙ plain

-- ---- a source that tells its input

-- what came of it is a front of it
front-of : (input bytes : List ℕ) (now : Option (List ℕ)) → Consumes (Some input) now bytes → (rest : List ℕ) × (now ≡ Some rest) × (input ≡ bytes ++ rest)
front-of input bytes None came = absurd came
front-of input bytes (Some rest) came = (rest, refl, came)

module _ (o : CsvReadOptions) (write : CsvWriterOptions) (source source_now : SourceView) (out out_now : SinkView) (accepted : IsAccepted o write) (input : List ℕ) (told : source.left ≡ Some input)
    (sound : finish_cause o input ≡ None) (within : length input ≤ most_bytes)
  where
    abbrev Ends : StreamFault → Type 0
    Ends given = EndsStreamed (stream_status (refusal_of given)) source.faults source_now.faults out.faults out_now.faults

    came-front : (bytes : List ℕ) → Consumes source.left source_now.left bytes → (rest : List ℕ) × (source_now.left ≡ Some rest) × (input ≡ bytes ++ rest)
    came-front bytes came = front-of input bytes source_now.left (subst (λ (left : Option (List ℕ)). Consumes left source_now.left bytes) told came)

    some-none : {X : Type 0} (x : PolarsError) (given : Option PolarsError) → given ≡ Some x → given ≡ None → X
    some-none x given some none = absurd (let h : ◌≡◌ {A = Option PolarsError} (Some x) None = sym some ∙ none in cc)

    ends-cut : (given : StreamFault) → IsUnstreamed o write source source_now out out_now given → Ends given
    ends-cut fault.Source is = inr (inr (inl (refl, is.0)))
    ends-cut fault.Sink is = inr (inr (inr (refl, is.0)))
    ends-cut fault.OutOfMemory is = inr (inl refl)
    ends-cut fault.TooLong (fed, last, has, many) = let front = came-front (fed ++ last) has.came in absurd (omega (arith, many, within, ap length front.2, length-append (fed ++ last) front.0))
    ends-cut (fault.Polars refusal) (fed, last, has, few, inl cause) =
        let front = came-front (fed ++ last) has.came in
        some-none refusal (feed_cause o (fed ++ last)) cause (feed-sound o (fed ++ last) front.0 (accepted-dialect o write accepted) (subst (λ (l : List ℕ). finish_cause o l ≡ None) front.2 sound))
    ends-cut (fault.Polars refusal) (fed, last, has, few, inr (empty, end, cause)) =
        let front = came-front (fed ++ last) has.came in
        let none : front.0 ≡ [] = subst IsAtEnd front.1 end in
        let all : input ≡ fed = front.2 ∙ ap (λ l. (fed ++ last) ++ l) none ∙ append-nil (fed ++ last) ∙ ap (λ l. fed ++ l) empty ∙ append-nil fed in
        some-none refusal (finish_cause o fed) cause (subst (λ (l : List ℕ). finish_cause o l ≡ None) all sound)
    ends-cut fault.NoSchema is = absurd is
    ends-cut (fault.Category column) is = absurd is
    ends-cut fault.NoColumn is = absurd is

    ends-refused : (given : StreamFault) → IsRefused o write given → Ends given
    ends-refused fault.NoSchema none = absurd (let h : false ≡ true = subst IsSome none accepted.given in cc)
    ends-refused (fault.Polars refusal) (given, first) = absurd (let h : ◌≡◌ {A = Option PolarsError} None (Some refusal) = first-same (option_causes o write) o.parse_options None (Some refusal) accepted.sound first in cc)
    ends-refused (fault.Category column) (may, some) = absurd (let h : ◌≡◌ {A = Option ℕ} (Some column) None = sym some ∙ accepted.uncoded in cc)
    ends-refused fault.NoColumn (may, uncoded, none) = absurd (omega (arith, accepted.some, ap length none))
    ends-refused fault.OutOfMemory is = inr (inl refl)
    ends-refused fault.Source is = absurd is
    ends-refused fault.Sink is = absurd is
    ends-refused fault.TooLong is = absurd is

    pub ends-stream : (given : StreamFault) → IsStreamRefused o write source source_now out out_now given → Ends given
    ends-stream given (inl (refused, source_same, out_same)) = ends-refused given refused
    ends-stream given (inr (accepted, cut)) = ends-cut given cut

-- ---- a run

-- the options of words that ask for a stream
same-job : (read other : CsvReadOptions) (write another : CsvWriterOptions) → ◌≡◌ {A = Option Job} (Some (job.Convert read write)) (Some (job.Convert other another)) → (read ≡ other) × (write ≡ another)
same-job read other write another h = (cc, cc)

pub due-refused : (words : List (List ℕ)) (source source_now : SourceView) (out out_now : SinkView) (given : StreamRefusal) → MustStream words source.left → IsRunRefused words source source_now out out_now given
    → EndsStreamed (stream_status given) source.faults source_now.faults out.faults out_now.faults
due-refused words source source_now out out_now given must (inl (is, nothing, source_same, out_same)) = absurd (subst asks_nothing must.asks nothing)
due-refused words source source_now out out_now given must (inr (inl (is, source_same, out_same))) = inr (inl (ap stream_status is))
due-refused words source source_now out out_now given must (inr (inr (read, write, asks, (cause, is, refused)))) =
    let same = same-job read must.read write must.write (sym asks ∙ must.asks) in
    let moved : IsStreamRefused must.read must.write source source_now out out_now cause = subst (λ (o : CsvReadOptions). IsStreamRefused o must.write source source_now out out_now cause) same.0 (subst (λ (w : CsvWriterOptions). IsStreamRefused read w source source_now out out_now cause) same.1 refused) in
    subst (λ (r : StreamRefusal). EndsStreamed (stream_status r) source.faults source_now.faults out.faults out_now.faults) (sym is)
    (ends-stream must.read must.write source source_now out out_now must.accepted must.input must.told must.sound must.within cause moved)
