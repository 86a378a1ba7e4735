-- The steps of a reader of batches.
use Rattle.std.proofs.Common.{◌≡◌, ℕ, ◌+◌, ◌-◌, ◌<◌, ◌≤◌, ◌^◌, Bool, true, false, ◌||◌, ◌==◌, List, [], ◌++◌, length, take, drop, refl, sym, ◌∙◌, ap, subst, inl, inr, arith, length-append, length-drop}
use Rattle.std.specs.Prelude.{Option, None, Some, unwrap_or}
use Rattle.std.proofs.lemmas.Bool.Decides.{nat_tests}
use Rattle.std.proofs.lemmas.List.{length-take, take_all, take-append-drop, drop-drop}
use Rattle.pl_frame.specs.Schema.{Entry}
use Rattle.pl_frame.specs.declared.error.ComputeFault.{ComputeFault}
use Rattle.pl_frame.specs.declared.error.PolarsError.{PolarsError}
use Rattle.pl_options.specs.declared.read_options.CsvReadOptions.{CsvReadOptions}
use Rattle.pl_options.specs.FirstCause.{IsFirstCause, IsFault}
use Rattle.pl_options.specs.Text.{marks_of, comment_of}
use Rattle.pl_rows.specs.Ranges.{limited}
use Rattle.pl_rows.proofs.RangeLaws.{few_rows}
use Rattle.pl_table.specs.Rows.{Row, rows}
use Rattle.pl_read.specs.declared.next_frames.NextFrames.{NextFrames}
use Rattle.pl_read.specs.declared.preparing.Prepared.{Prepared}
use Rattle.pl_read.specs.Batches.{Batches, StandsInData, batch_rows, AreBatches, is_reached, is_over, IsOpened}
use Rattle.pl_read.specs.BatchSteps.{held, MayReadOn, AreNext, IsOpeningFaultOf}
use Rattle.pl_read.specs.Options.{settled_schema}
use Rattle.pl_read.specs.Preparing.{IsPrepared}
use Rattle.pl_read.specs.Refusals.{early_causes, causes_before_rows}
use Rattle.pl_read.specs.Rows.{rows_in}
use Rattle.pl_read.specs.Steps.{MayRead, opening_cause}
use Rattle.pl_read.proofs.BatchLaws.{StandsInData-fresh, StandsInData-next}
use Rattle.pl_read.proofs.CauseLaws.{first_some-early, first_some-late}
use Rattle.pl_read.proofs.DataLaws.{may-dialect}
use Rattle.pl_read.proofs.PreparingLaws.{IsPrepared-own}

-- ---- the opening

-- a cause against the options
pub refused-options : (o : CsvReadOptions) (input : List ℕ) (fault : PolarsError) → IsFirstCause (early_causes o) o.parse_options (Some fault) → IsOpeningFaultOf o input fault
refused-options o input fault first =
    inl (record {
      is_dialect = first.is_dialect;
      tells = first.tells;
      is = sym (first_some-early (early_causes o first.is_dialect) (causes_before_rows o (settled_schema o input) input) fault (sym first.is));
    })

-- a later one, or want of memory
pub refused-opening : (o : CsvReadOptions) (input : List ℕ) (fault : PolarsError) → MayRead o → IsFault (opening_cause o (settled_schema o input) input) fault → IsOpeningFaultOf o input fault
refused-opening o input fault may (inl some) =
    inl (record {
      is_dialect = may.is_dialect;
      tells = may.tells;
      is = sym (first_some-late (early_causes o may.is_dialect) (causes_before_rows o (settled_schema o input) input) (sym may.is) ∙ some);
    })
refused-opening o input fault may (inr wanting) = inr wanting

-- none
pub opened-is : (o : CsvReadOptions) (input : List ℕ) (prepared : Prepared) → MayRead o → opening_cause o (settled_schema o input) input ≡ None → IsPrepared o (settled_schema o input) input prepared
    → IsOpened o input (held o input prepared prepared.start 0 None)
opened-is o input prepared may none is = (
  record {
    is_dialect = may.is_dialect;
    tells = may.tells;
    is = sym (first_some-late (early_causes o may.is_dialect) (causes_before_rows o (settled_schema o input) input) (sym may.is) ∙ none);
  },
  ap (λ (schema : List Entry). over schema (drop prepared.start input)) is.schema_is ∙ ap (λ (some : Option (List ℕ)). over (settled_schema o input) (unwrap_or some [])) (sym is.data_is),
)
  where
    over : List Entry → List ℕ → Batches
    over schema records = record { options = o; schema = schema; records = records; rest = records; rows = 0; fault = None }

pub may-start : (o : CsvReadOptions) (input : List ℕ) (prepared : Prepared) → length input < 2 ^ 64 → MayRead o → IsPrepared o (settled_schema o input) input prepared → MayReadOn o input prepared prepared.start 0 None
may-start o input prepared fits may is = record {
  fits = fits;
  allowed = may;
  prepared_is = IsPrepared-own o (settled_schema o input) input prepared is;
  within = is.within;
  stands = StandsInData-fresh o prepared.schema (drop prepared.start input);
}

-- ---- whether there is a batch

or-false : (a b : Bool) → (a || b) ≡ false → (a ≡ false) × (b ≡ false)
or-false true b e = absurd (cc)
or-false false b e = (refl, e)

-- a batch is asked for, the limit is not reached, and something is left
pub record HasBatch (b : Batches) (n : ℕ) : Type 0 where
  pub asked : 0 < n
  pub below : is_reached b.options.n_rows b.rows ≡ false
  pub some : 0 < length b.rest

pub not-over : (b : Batches) (n : ℕ) → is_over b n ≡ false → HasBatch b n
not-over b n e =
    let first = or-false (n == 0) (is_reached b.options.n_rows b.rows || length b.rest == 0) e in
    let second = or-false (is_reached b.options.n_rows b.rows) (length b.rest == 0) first.1 in
    let none : (n == 0) ≡ false = first.0 in
    let left : (length b.rest == 0) ≡ false = second.1 in
    record { asked = grind (arith, nat_tests); below = second.0; some = grind (arith, nat_tests) }

-- ---- how many rows

few_limited : (limit : Option ℕ) (xs : List Row) → length (limited limit xs) ≤ length xs
few_limited None xs = omega arith
few_limited (Some n) xs = omega (arith, length-take n xs)

-- the rows before what is left, and its bytes, are no more than the bytes of the input
pub rows-fit : (o : CsvReadOptions) (input : List ℕ) (prepared : Prepared) (at count : ℕ) (fault : Option ComputeFault) → MayReadOn o input prepared at count fault → count + length (drop at input) ≤ length input
rows-fit o input prepared at count fault may =
    let stands = may.stands in
    let m = marks_of o.parse_options in
    let comment = comment_of o.parse_options in
    let front = stands.front in
    let few : length (rows m comment front) ≤ length front = few_rows m comment (may-dialect o may.allowed).distinct (length front) front (omega arith) in
    let fewer : length (rows_in o front) ≤ length (rows m comment front) = few_limited o.n_rows (rows m comment front) in
    omega (arith, stands.count, few, fewer, ap length stands.cut_is, length-append front (drop at input), length-drop prepared.start input)

-- ---- the next batches

module _ (o : CsvReadOptions) (input : List ℕ) (prepared : Prepared) (at count n : ℕ) (next : NextFrames) (may : MayReadOn o input prepared at count None)
    (some : 0 < length (drop at input)) (are : AreNext (held o input prepared at count None) n next) where
  -- what they are
  pub next-batches : AreBatches (held o input prepared at count None) (held o input prepared (at + next.end) (count + next.rows) None) n next.frames.items
  next-batches = record {
    some = are.some;
    few = are.few;
    frames_are = are.frames_are;
    sound = are.sound;
    numbered = are.numbered;
    read = take next.end (drop at input);
    left = sym (take-append-drop next.end (drop at input)) ∙ ap (λ l. take next.end (drop at input) ++ l) (drop-drop next.end at input);
    rows_are = are.ends.rows_are;
    shorter = omega (arith, some, are.ends.some, length-drop at input, length-drop (at + next.end) input);
    new_is = ap (λ k. held o input prepared (at + next.end) (count + k) None) are.count;
  }

  -- and where the reader stands behind them
  pub next-within : at + next.end ≤ length input
  next-within = omega (arith, may.within, are.ends.within, length-drop at input)

  pub may-next : MayReadOn o input prepared (at + next.end) (count + next.rows) None
  may-next = record {
    fits = may.fits;
    allowed = may.allowed;
    prepared_is = may.prepared_is;
    within = next-within;
    stands = subst (λ k. StandsInData (held o input prepared (at + next.end) (count + k) None)) (sym are.count)
        (StandsInData-next o input prepared at count next.end None (batch_rows (held o input prepared at count None) n) (may-dialect o may.allowed) some may.stands are.ends are.sound);
  }

  -- the count of rows is a number of 64 bits
  pub next-fits : count + next.rows < 2 ^ 64
  next-fits = omega (arith, rows-fit o input prepared (at + next.end) (count + next.rows) None may-next, may.fits)

-- the same of a reader as it is seen
module _ (o : CsvReadOptions) (input : List ℕ) (prepared : Prepared) (at count n : ℕ) (fault : Option ComputeFault) (next : NextFrames) (b : Batches) (none : fault ≡ None)
    (view : held o input prepared at count fault ≡ b) (may : MayReadOn o input prepared at count fault) (over : is_over b n ≡ false) (are : AreNext b n next) where
  abbrev old : Batches
  old = held o input prepared at count None

  seen : b ≡ old
  seen = sym view ∙ ap (held o input prepared at count) none

  may_read : MayReadOn o input prepared at count None
  may_read = subst (MayReadOn o input prepared at count) none may

  some_left : 0 < length (drop at input)
  some_left = (not-over old n (ap (λ b. is_over b n) (sym seen) ∙ over)).some

  are_next : AreNext old n next
  are_next = subst (λ b. AreNext b n next) seen are

  pub step-fits : count + next.rows < 2 ^ 64
  step-fits = next-fits o input prepared at count n next may_read some_left are_next

  pub step-may : MayReadOn o input prepared (at + next.end) (count + next.rows) fault
  step-may = subst (MayReadOn o input prepared (at + next.end) (count + next.rows)) (sym none) (may-next o input prepared at count n next may_read some_left are_next)

  pub step-batches : AreBatches b (held o input prepared (at + next.end) (count + next.rows) fault) n next.frames.items
  step-batches =
      subst (λ b. AreBatches b (held o input prepared (at + next.end) (count + next.rows) fault) n next.frames.items) (sym seen)
      (subst (λ f. AreBatches old (held o input prepared (at + next.end) (count + next.rows) f) n next.frames.items) (sym none) (next-batches o input prepared at count n next may_read some_left are_next))

-- ---- what is left

-- all from a place on
pub rest-is : (at : ℕ) (bytes input : List ℕ) → bytes ≡ input → take (length bytes - at) (drop at bytes) ≡ drop at input
rest-is at bytes input same = take_all (length bytes - at) (drop at bytes) (omega (arith, length-drop at bytes)) ∙ ap (drop at) same

-- it is no longer than the data
pub rest-fewer : (o : CsvReadOptions) (input : List ℕ) (prepared : Prepared) (at count : ℕ) (fault : Option ComputeFault) → MayReadOn o input prepared at count fault → length (drop at input) ≤ length (drop prepared.start input)
rest-fewer o input prepared at count fault may =
    let cut : drop prepared.start input ≡ may.stands.front ++ drop at input = may.stands.cut_is in
    omega (arith, ap length cut, length-append may.stands.front (drop at input))
