-- A step of a state: bytes that were accepted, and bytes that were refused.
use Rattle.std.proofs.Common.{◌≡◌, ℕ, zero, suc, ◌+◌, ◌<◌, ◌≤◌, ◌^◌, Bool, true, false, ◌&&◌, List, [], ◌∷◌, ◌++◌, length, take, drop, Option, None, Some, refl, sym, ◌∙◌, ap, subst, arith, append_assoc, append-nil, length-append, length-drop, drop-drop, nat_le, nat_lt, inl, inr}
use Rattle.std.specs.Prelude.{◌⊎◌, IfSome}
use Rattle.std.specs.Option.{option_map}
use Rattle.std.proofs.lemmas.Bool.Decides.{nat_tests}
use Rattle.std.proofs.lemmas.List.{drop_all, take-append-drop}
use Rattle.pl_frame.specs.Compression.{is_compressed}
use Rattle.pl_frame.specs.Dialect.{IsDialect}
use Rattle.pl_frame.specs.declared.error.ComputeFault.TheVariants as compute_fault
use Rattle.pl_frame.specs.declared.error.FaultKind.{FaultKind}
use Rattle.pl_frame.specs.declared.error.PolarsError.{PolarsError}
use Rattle.pl_frame.specs.declared.error.PolarsError.TheVariants as error
use Rattle.pl_options.specs.declared.read_options.CsvReadOptions.{CsvReadOptions}
use Rattle.pl_options.specs.declared.row_index.RowIndex.{RowIndex}
use Rattle.pl_options.specs.FirstCause.{when, first_some}
use Rattle.pl_options.specs.Text.{marks_of, comment_of}
use Rattle.pl_read.specs.Options.{data_of}
use Rattle.pl_read.specs.Refusals.{numbers_past}
use Rattle.pl_read.proofs.CauseLaws.{first_some-here, first_some-one}
use Rattle.pl_rows.specs.Pieces.{left_limit}
use Rattle.pl_rows.specs.Steps.{is_below}
use Rattle.pl_table.specs.Rows.{Row, rows}
use Rattle.pl_write.specs.declared.options.CsvWriterOptions.{CsvWriterOptions}
use Rattle.pl_stream.specs.Feeding.{feed_cause, faulty_of, numbers_of, IsFed, IsStreamFault}
use Rattle.pl_stream.specs.Head.{HasNoStep}
use Rattle.pl_stream.specs.Kept.{error_of}
use Rattle.pl_stream.specs.Printing.{IsPrintFault, front_rows, rows_cause, gained_text}
use Rattle.pl_stream.specs.Settled.{has_lines, tells_head, settled_rows}
use Rattle.pl_stream.specs.Stream.{Stream, StandsFor, IsInHead, IsAtRecords, IsPastLimit, IsOnWay, HasCome, most_kept}
use Rattle.pl_stream.specs.Stepping.{is_in_head, is_full, waits, is_marked, kept_of, IsSettledStep, IsOut, IsWaitStep, IsHeadStep, IsFullStep, IsStepped, IsStepFault}
use Rattle.pl_stream.specs.declared.fault.StreamFault.{StreamFault}
use Rattle.pl_stream.specs.declared.fault.StreamFault.TheVariants as fault
use Rattle.pl_stream.specs.declared.head.Reached.{Reached}
use Rattle.pl_stream.specs.declared.place.Place.{Place}
use Rattle.pl_stream.specs.declared.place.Place.TheVariants as place
use Rattle.pl_stream.specs.declared.stepping.Step.{Step}
use Rattle.pl_stream.proofs.FeedLaws.{Sound, few-settled, cause-next, sound-next, cause-fits, gains, head-of, way-of, out-head, four-told, come-head, few-head, at-next, rows-next, few-behind, past-next}
use Rattle.pl_stream.proofs.StandLaws.{head-moves, head-none, none-told}
use Rattle.pl_stream.proofs.StayLaws.{tells-more}
use Rattle.pl_stream.proofs.StepLaws.{at-piece, at-head}
use Rattle.pl_stream.proofs.SettledLaws.{settled_rows_stay}

-- what a step makes of a state: what is kept then stands where it is read on, and so many records more are settled
pub record IsNext (o : CsvReadOptions) (write : CsvWriterOptions) (b piece bytes old now : List ℕ) (step : Step) : Type 0 where
  pub come : HasCome o step.place (b ++ piece)
  pub read : IsOnWay o (b ++ piece) step.place (drop step.at bytes) step.rows
  pub few : length (drop step.at bytes) ≤ most_kept o (b ++ piece)
  pub plain : 4 ≤ length (b ++ piece) → is_compressed (b ++ piece) ≡ false
  pub others : List Row
  pub more : settled_rows o (b ++ piece) ≡ settled_rows o b ++ others
  pub rows_is : step.rows ≡ length (settled_rows o b) + length others
  pub sound : rows_cause o (length (settled_rows o b)) others ≡ None
  pub gained : now ≡ old ++ gained_text o write (length (settled_rows o b)) others

-- ---- bytes that are let go

pub settled-within : (o : CsvReadOptions) (write : CsvWriterOptions) (rows : ℕ) (bytes : List ℕ) (at : ℕ) (old now : List ℕ) (step : Step) → at ≤ length bytes → IsSettledStep o write rows (drop at bytes) at old now step → step.at ≤ length bytes
settled-within o write rows bytes at old now step fits is = by is.left
  where
    by : ((is_below o.n_rows step.rows ≡ true) × (step.place ≡ place.Records) × (step.at ≡ at + is.whole.end)) ⊎ ((is_below o.n_rows step.rows ≡ false) × (step.place ≡ place.Full) × (step.at ≡ at + length (drop at bytes))) → step.at ≤ length bytes
    by (inl (free, place_is, at_is)) = omega (arith, at_is, is.settled.front.within, length-drop at bytes, fits)
    by (inr (met, place_is, at_is)) = omega (arith, at_is, length-drop at bytes, fits)

pub step-within : (o : CsvReadOptions) (write : CsvWriterOptions) (from : Place) (rows : ℕ) (bytes old now : List ℕ) (step : Step) → IsStepped o write from rows bytes old now step → step.at ≤ length bytes
step-within o write from rows bytes old now step (inl (inl is)) = omega (arith, ap (λ (s : Step). s.at) is.is)
step-within o write from rows bytes old now step (inl (inr (inl is))) = omega (arith, ap (λ (s : Step). s.at) is.is, is.moved.within)
step-within o write from rows bytes old now step (inl (inr (inr is))) = settled-within o write rows bytes is.reached.at old now step is.out.moved.within is.settled
step-within o write from rows bytes old now step (inr (inl is)) = settled-within o write rows bytes 0 old now step (omega arith) is.settled
step-within o write from rows bytes old now step (inr (inr is)) = omega (arith, ap (λ (s : Step). s.at) is.is)

-- ---- numbers

settled-fits : (o : CsvReadOptions) (write : CsvWriterOptions) (count : ℕ) (records : List ℕ) (at : ℕ) (old now : List ℕ) (step : Step) → IsSettledStep o write count records at old now step → numbers_past o.row_index step.rows ≡ None
settled-fits o write count records at old now step is =
    let given = front_rows o records is.whole in
    let all : step.rows ≡ count + length given = omega (arith, is.rows_is, is.settled.front.count_is) in
    ap (numbers_past o.row_index) all ∙ cause-fits o count given is.settled.sound

-- the number behind the settled records fits
pub step-fits : (o : CsvReadOptions) (write : CsvWriterOptions) (from : Place) (count : ℕ) (bytes old now : List ℕ) (step : Step) → numbers_past o.row_index count ≡ None → IsStepped o write from count bytes old now step → numbers_past o.row_index step.rows ≡ None
step-fits o write from count bytes old now step fits (inl (inl is)) = ap (λ (s : Step). numbers_past o.row_index s.rows) is.is ∙ fits
step-fits o write from count bytes old now step fits (inl (inr (inl is))) = ap (λ (s : Step). numbers_past o.row_index s.rows) is.is ∙ fits
step-fits o write from count bytes old now step fits (inl (inr (inr is))) = settled-fits o write count (drop is.reached.at bytes) is.reached.at old now step is.settled
step-fits o write from count bytes old now step fits (inr (inl is)) = settled-fits o write count bytes 0 old now step is.settled
step-fits o write from count bytes old now step fits (inr (inr is)) = ap (λ (s : Step). numbers_past o.row_index s.rows) is.is ∙ fits

-- ---- places

four-head : (o : CsvReadOptions) (p : Place) (b kept piece : List ℕ) (count : ℕ) → is_in_head p ≡ true → HasCome o p b → IsOnWay o b p kept count → waits p (kept ++ piece) ≡ false → 4 ≤ length (b ++ piece)
four-head o place.Start b kept piece count within come way enough =
    let many : 4 ≤ length (kept ++ piece) = grind (arith, nat_tests, enough) in
    subst (λ l. 4 ≤ length (l ++ piece)) (sym way.0) many
four-head o (place.Lines n) b kept piece count within come way enough = omega (arith, come, length-append b piece)
four-head o place.Ends b kept piece count within come way enough = omega (arith, four-told o b come, length-append b piece)
four-head o (place.Rows n) b kept piece count within come way enough = omega (arith, four-told o b come, length-append b piece)
four-head o place.Header b kept piece count within come way enough = omega (arith, four-told o b come, length-append b piece)
four-head o (place.Behind n) b kept piece count within come way enough = omega (arith, four-told o b come, length-append b piece)
four-head o place.Records b kept piece count within come way enough = absurd (cc)
four-head o place.Full b kept piece count within come way enough = absurd (cc)

-- four bytes tell whether a text is compressed
pub compressed-more : (b more : List ℕ) → 4 ≤ length b → is_compressed (b ++ more) ≡ is_compressed b
compressed-more [] more h = absurd (omega arith)
compressed-more (x ∷ []) more h = absurd (omega arith)
compressed-more (x ∷ y ∷ []) more h = absurd (omega arith)
compressed-more (x ∷ y ∷ z ∷ []) more h = absurd (omega arith)
compressed-more (x ∷ y ∷ z ∷ w ∷ others) more h = refl

plain-more : (b piece : List ℕ) → 4 ≤ length b → (4 ≤ length b → is_compressed b ≡ false) → is_compressed (b ++ piece) ≡ false
plain-more b piece enough plain = compressed-more b piece enough ∙ plain enough

plain-head : (o : CsvReadOptions) (p : Place) (b kept piece : List ℕ) (count : ℕ) → is_in_head p ≡ true → HasCome o p b → IsOnWay o b p kept count → is_marked p (kept ++ piece) ≡ false → (4 ≤ length b → is_compressed b ≡ false) → is_compressed (b ++ piece) ≡ false
plain-head o place.Start b kept piece count within come way unmarked plain = ap (λ l. is_compressed (l ++ piece)) way.0 ∙ unmarked
plain-head o (place.Lines n) b kept piece count within come way unmarked plain = plain-more b piece come plain
plain-head o place.Ends b kept piece count within come way unmarked plain = plain-more b piece (four-told o b come) plain
plain-head o (place.Rows n) b kept piece count within come way unmarked plain = plain-more b piece (four-told o b come) plain
plain-head o place.Header b kept piece count within come way unmarked plain = plain-more b piece (four-told o b come) plain
plain-head o (place.Behind n) b kept piece count within come way unmarked plain = plain-more b piece (four-told o b come) plain
plain-head o place.Records b kept piece count within come way unmarked plain = absurd (cc)
plain-head o place.Full b kept piece count within come way unmarked plain = absurd (cc)

-- the first byte
start-of : (o : CsvReadOptions) (p : Place) (b kept piece : List ℕ) (count : ℕ) → waits p (kept ++ piece) ≡ true → IsOnWay o b p kept count → (p ≡ place.Start) × (b ≡ kept) × (count ≡ 0) × (length (kept ++ piece) < 4)
start-of o place.Start b kept piece count few way = (refl, way.0, way.1, grind (arith, nat_tests, few))
start-of o (place.Lines n) b kept piece count few way = absurd (cc)
start-of o place.Ends b kept piece count few way = absurd (cc)
start-of o (place.Rows n) b kept piece count few way = absurd (cc)
start-of o place.Header b kept piece count few way = absurd (cc)
start-of o (place.Behind n) b kept piece count few way = absurd (cc)
start-of o place.Records b kept piece count few way = absurd (cc)
start-of o place.Full b kept piece count few way = absurd (cc)

mark-of : (o : CsvReadOptions) (p : Place) (b kept piece : List ℕ) (count : ℕ) → waits p (kept ++ piece) ≡ false → is_marked p (kept ++ piece) ≡ true → IsOnWay o b p kept count → (b ≡ kept) × (4 ≤ length (kept ++ piece)) × (is_compressed (kept ++ piece) ≡ true)
mark-of o place.Start b kept piece count enough marked way = (way.0, grind (arith, nat_tests, enough), marked)
mark-of o (place.Lines n) b kept piece count enough marked way = absurd (cc)
mark-of o place.Ends b kept piece count enough marked way = absurd (cc)
mark-of o (place.Rows n) b kept piece count enough marked way = absurd (cc)
mark-of o place.Header b kept piece count enough marked way = absurd (cc)
mark-of o (place.Behind n) b kept piece count enough marked way = absurd (cc)
mark-of o place.Records b kept piece count enough marked way = absurd (cc)
mark-of o place.Full b kept piece count enough marked way = absurd (cc)

-- the records
records-of : (o : CsvReadOptions) (p : Place) (b kept : List ℕ) (count : ℕ) → is_in_head p ≡ false → is_full p ≡ false → HasCome o p b → IsOnWay o b p kept count → (tells_head o b ≡ true) × IsAtRecords o b kept count
records-of o place.Start b kept count out some come way = absurd (cc)
records-of o (place.Lines n) b kept count out some come way = absurd (cc)
records-of o place.Ends b kept count out some come way = absurd (cc)
records-of o (place.Rows n) b kept count out some come way = absurd (cc)
records-of o place.Header b kept count out some come way = absurd (cc)
records-of o (place.Behind n) b kept count out some come way = absurd (cc)
records-of o place.Records b kept count out some come way = (come, way)
records-of o place.Full b kept count out some come way = absurd (cc)

past-more : (o : CsvReadOptions) (b piece : List ℕ) (count : ℕ) → IsPastLimit o b count → IsPastLimit o (b ++ piece) count
past-more o b piece count past = record {
  limit_is = past.limit_is;
  first = past.first;
  count_is = past.count_is;
  stay = λ more.
      let found = past.stay (piece ++ more) in
      (found.0, ap (data_of o) (append_assoc b piece more) ∙ found.1, found.2);
}

full-of : (o : CsvReadOptions) (p : Place) (b kept piece none : List ℕ) (count : ℕ) → is_full p ≡ true → HasCome o p b → IsOnWay o b p kept count → none ≡ [] → IsDialect (marks_of o.parse_options) (comment_of o.parse_options)
    → HasCome o p (b ++ piece) × IsOnWay o (b ++ piece) p none count × (tells_head o b ≡ true) × (o.n_rows ≡ Some count)
full-of o place.Start b kept piece none count full come way empty apart = absurd (cc)
full-of o (place.Lines n) b kept piece none count full come way empty apart = absurd (cc)
full-of o place.Ends b kept piece none count full come way empty apart = absurd (cc)
full-of o (place.Rows n) b kept piece none count full come way empty apart = absurd (cc)
full-of o place.Header b kept piece none count full come way empty apart = absurd (cc)
full-of o (place.Behind n) b kept piece none count full come way empty apart = absurd (cc)
full-of o place.Records b kept piece none count full come way empty apart = absurd (cc)
full-of o place.Full b kept piece none count full come way empty apart = (tells-more o b piece come, (past-more o b piece count way.0, empty), come, way.0.limit_is)

no-rows : (given : List Row) → length given ≡ 0 → given ≡ []
no-rows [] e = refl
no-rows (row ∷ given) e = absurd (omega arith)

-- ---- steps

module _ (o : CsvReadOptions) (write : CsvWriterOptions) (b kept piece old now : List ℕ) (from : Place) (count : ℕ) (apart : IsDialect (marks_of o.parse_options) (comment_of o.parse_options)) (come : HasCome o from b) (way : IsOnWay o b from kept count)
    (plain : 4 ≤ length b → is_compressed b ≡ false) (counted : count ≡ length (settled_rows o b)) (fits : numbers_past o.row_index count ≡ None)
  where
    abbrev bytes : List ℕ
    bytes = kept ++ piece

    abbrev Next : Step → Type 0
    Next step = IsNext o write b piece bytes old now step

    none-cause : rows_cause o (length (settled_rows o b)) [] ≡ None
    none-cause =
        let same : length (settled_rows o b) + 0 ≡ count = omega (arith, counted) in
        first_some-one (numbers_past o.row_index (length (settled_rows o b) + 0)) ∙ ap (numbers_past o.row_index) same ∙ fits

    -- no record more
    still : (step : Step) → HasCome o step.place (b ++ piece) → IsOnWay o (b ++ piece) step.place (drop step.at bytes) step.rows → length (drop step.at bytes) ≤ most_kept o (b ++ piece) → (4 ≤ length (b ++ piece) → is_compressed (b ++ piece) ≡ false)
        → settled_rows o (b ++ piece) ≡ settled_rows o b → step.rows ≡ count → now ≡ old → Next step
    still step came read few unmarked same rows_is text_is = record {
      come = came;
      read = read;
      few = few;
      plain = unmarked;
      others = [];
      more = same ∙ sym (append-nil (settled_rows o b));
      rows_is = omega (arith, rows_is, counted);
      sound = none-cause;
      gained = text_is ∙ sym (append-nil old);
    }

    none-before-head : count ≡ 0 → settled_rows o b ≡ []
    none-before-head zero_is = no-rows (settled_rows o b) (sym counted ∙ zero_is)

    waited : (step : Step) → IsWaitStep from count bytes old now step → Next step
    waited step is =
        let start = start-of o from b kept piece count is.few way in
        let same : b ++ piece ≡ bytes = ap (λ l. l ++ piece) start.1 in
        let short : length (b ++ piece) < 4 = omega (arith, ap length same, start.3) in
        let untold : tells_head o (b ++ piece) ≡ false = (let few : nat_le 4 (length (b ++ piece)) ≡ false = grind (arith, nat_tests, short) in ap (λ t. t && has_lines o.parse_options.eol_char o.skip_lines (b ++ piece)) few) in
        let first : Step = record { at = 0; place = place.Start; rows = count } in
        let step_is : step ≡ first = is.is ∙ ap (λ p. record { at = 0; place = p; rows = count }) start.0 in
        subst Next (sym step_is)
        (still first tt (same, start.2) (omega (arith, start.3)) (λ many. absurd (omega (arith, many, short))) (none-told o (b ++ piece) untold ∙ sym (none-before-head start.2)) refl is.same)

    -- what is settled by whole records
    settled-next : (at : ℕ) (step : Step) → at ≤ length bytes → IsAtRecords o (b ++ piece) (drop at bytes) count → tells_head o (b ++ piece) ≡ true → is_compressed (b ++ piece) ≡ false → IsSettledStep o write count (drop at bytes) at old now step → Next step
    settled-next at step within records told unmarked is = by is.left
      where
        left : List ℕ
        left = drop at bytes

        next : ℕ
        next = count + is.whole.rows

        make : (to : Step) → IsOnWay o (b ++ piece) to.place (drop to.at bytes) to.rows → HasCome o to.place (b ++ piece) → length (drop to.at bytes) ≤ most_kept o (b ++ piece) → to.rows ≡ count + is.whole.rows → Next to
        make to read came few rows_is = record {
          come = came;
          read = read;
          few = few;
          plain = λ many. unmarked;
          others = front_rows o (drop at bytes) is.whole;
          more = rows-next o apart b piece (drop at bytes) count is.whole records told counted is.settled.front is.end is.few;
          rows_is = omega (arith, rows_is, counted, is.settled.front.count_is);
          sound = subst (λ n. rows_cause o n (front_rows o (drop at bytes) is.whole) ≡ None) counted is.settled.sound;
          gained = subst (λ n. now ≡ old ++ gained_text o write n (front_rows o (drop at bytes) is.whole)) counted is.settled.gained;
        }

        by : ((is_below o.n_rows step.rows ≡ true) × (step.place ≡ place.Records) × (step.at ≡ at + is.whole.end)) ⊎ ((is_below o.n_rows step.rows ≡ false) × (step.place ≡ place.Full) × (step.at ≡ at + length (drop at bytes))) → Next step
        by (inl (free, place_is, at_is)) =
            let to : Step = record { at = at + is.whole.end; place = place.Records; rows = count + is.whole.rows } in
            let same : step ≡ to = (λ i. record { at = at_is i; place = place_is i; rows = is.rows_is i }) in
            let cut : drop is.whole.end (drop at bytes) ≡ drop (at + is.whole.end) bytes = drop-drop is.whole.end at bytes in
            let free_now : is_below o.n_rows (count + is.whole.rows) ≡ true = subst (λ n. is_below o.n_rows n ≡ true) is.rows_is free in
            subst Next (sym same)
            (make to (subst (λ l. IsAtRecords o (b ++ piece) l (count + is.whole.rows)) cut (at-next o apart b piece (drop at bytes) count is.whole records told counted is.settled.front is.end is.few)) told
            (subst (λ l. length l ≤ most_kept o (b ++ piece)) cut (few-behind o apart b piece (drop at bytes) count is.whole records told counted is.settled.front is.end is.few free_now)) refl)
        by (inr (met, place_is, at_is)) =
            let to : Step = record { at = at + length (drop at bytes); place = place.Full; rows = count + is.whole.rows } in
            let same : step ≡ to = (λ i. record { at = at_is i; place = place_is i; rows = is.rows_is i }) in
            let empty : drop (at + length (drop at bytes)) bytes ≡ [] = drop_all (at + length (drop at bytes)) bytes (omega (arith, length-drop at bytes, within)) in
            let met_now : is_below o.n_rows (count + is.whole.rows) ≡ false = subst (λ n. is_below o.n_rows n ≡ false) is.rows_is met in
            subst Next (sym same)
            (make to (past-next o apart b piece (drop at bytes) count is.whole records told counted is.settled.front is.end is.few met_now, empty) told (omega (arith, ap length empty)) refl)

    -- within the head
    moved-head : (step : Step) → IsHeadStep o from count bytes old now step → Next step
    moved-head step is =
        let start = head-of o from b kept count is.within way in
        let enough = four-head o from b kept piece count is.within come way is.enough in
        let unmarked = plain-head o from b kept piece count is.within come way is.plain plain in
        let rest : List ℕ = drop is.reached.at bytes in
        let there : IsInHead o (b ++ piece) is.reached.place rest = head-moves o b kept piece from is.reached apart start.0 is.moved in
        let none : settled_rows o (b ++ piece) ≡ [] = head-none o (b ++ piece) rest is.reached.place apart there is.stops (λ h. absurd (not-start h)) not-records not-full in
        let to : Step = record { at = is.reached.at; place = is.reached.place; rows = count } in
        subst Next (sym is.is)
        (still to (come-head o is.reached.place (b ++ piece) rest enough there)
        (subst (IsOnWay o (b ++ piece) is.reached.place rest) (sym start.1) (way-of o is.reached.place (b ++ piece) rest is.still (λ h. absurd (not-start h)) there))
        (few-head o apart is.reached.place (b ++ piece) rest is.still there is.stops) (λ many. unmarked) (none ∙ sym (none-before-head start.1)) refl is.same)
      where
        not-start : is.reached.place ≡ place.Start → ⊥
        not-start h =
            let both = is.first h in
            let few : length (drop is.reached.at bytes) < 4 = subst (λ p. HasNoStep o p (drop is.reached.at bytes)) h is.stops in
            let all : length (drop 0 bytes) < 4 = subst (λ n. length (drop n bytes) < 4) both.1 few in
            let many : nat_lt (length bytes) 4 ≡ false = subst (λ p. waits p bytes ≡ false) both.0 is.enough in
            grind (arith, nat_tests, many, all)

        not-records : is.reached.place ≡ place.Records → ⊥
        not-records h = let e : false ≡ true = subst (λ p. is_in_head p ≡ true) h is.still in cc

        not-full : is.reached.place ≡ place.Full → ⊥
        not-full h = let e : false ≡ true = subst (λ p. is_in_head p ≡ true) h is.still in cc

    -- out of it
    out-records : (reached : Reached) → IsOut o from bytes reached → IsAtRecords o (b ++ piece) (drop reached.at bytes) count × (tells_head o (b ++ piece) ≡ true) × (is_compressed (b ++ piece) ≡ false)
    out-records reached is =
        let start = head-of o from b kept count is.within way in
        let enough = four-head o from b kept piece count is.within come way is.enough in
        let rest : List ℕ = drop reached.at bytes in
        let there : IsInHead o (b ++ piece) place.Records rest = out-head o reached.place (b ++ piece) rest is.out (head-moves o b kept piece from reached apart start.0 is.moved) in (
          subst (IsAtRecords o (b ++ piece) rest) (sym start.1) (at-head o (b ++ piece) rest there),
          come-head o place.Records (b ++ piece) rest enough there,
          plain-head o from b kept piece count is.within come way is.plain plain,
        )

    in-records : is_in_head from ≡ false → is_full from ≡ false → IsAtRecords o (b ++ piece) bytes count × (tells_head o (b ++ piece) ≡ true) × (is_compressed (b ++ piece) ≡ false)
    in-records out some =
        let found = records-of o from b kept count out some come way in (
          at-piece o b kept piece count found.1,
          tells-more o b piece found.0,
          plain-more b piece (four-told o b found.0) plain,
        )

    full-still : (step : Step) → IsFullStep from count bytes old now step → Next step
    full-still step is =
        let to : Step = record { at = length bytes; place = from; rows = count } in
        let empty : drop (length bytes) bytes ≡ [] = drop_all (length bytes) bytes (omega arith) in
        let found = full-of o from b kept piece (drop (length bytes) bytes) count is.full come way empty apart in
        let stay = settled_rows_stay o b piece apart in
        let most : length (settled_rows o (b ++ piece)) ≤ count = subst (λ limit. IfSome limit (λ most. length (settled_rows o (b ++ piece)) ≤ most)) found.3 (few-settled o (b ++ piece)) in
        let none : stay.0 ≡ [] = no-rows stay.0 (omega (arith, most, ap length stay.1, length-append (settled_rows o b) stay.0, counted)) in
        let same : settled_rows o (b ++ piece) ≡ settled_rows o b = stay.1 ∙ ap (λ l. settled_rows o b ++ l) none ∙ append-nil (settled_rows o b) in
        subst Next (sym is.is)
        (still to found.0 found.1 (omega (arith, ap length empty)) (λ many. plain-more b piece (four-told o b found.2) plain) same refl is.same)

    pub next-of : (step : Step) → IsStepped o write from count bytes old now step → Next step
    next-of step (inl (inl is)) = waited step is
    next-of step (inl (inr (inl is))) = moved-head step is
    next-of step (inl (inr (inr is))) =
        let found = out-records is.reached is.out in
        settled-next is.reached.at step is.out.moved.within found.0 found.1 found.2 is.settled
    next-of step (inr (inl is)) =
        let found = in-records is.out is.some in
        settled-next 0 step (omega arith) found.0 found.1 found.2 is.settled
    next-of step (inr (inr is)) = full-still step is

    -- ---- refusals

    print-cause : (left : List ℕ) (given : StreamFault) → IsAtRecords o (b ++ piece) left count × (tells_head o (b ++ piece) ≡ true) × (is_compressed (b ++ piece) ≡ false) → Sound o (settled_rows o b) → IsPrintFault o count (left_limit o.n_rows count) left given
        → (given ≡ fault.OutOfMemory) ⊎ ((x : PolarsError) × (given ≡ fault.Polars x) × (feed_cause o (b ++ piece) ≡ Some x))
    print-cause left fault.OutOfMemory there sound is = inl refl
    print-cause left (fault.Polars x) there sound (whole, front, end, few, cause) =
        let more = rows-next o apart b piece left count whole there.0 there.1 counted front end few in
        inr (x, refl, cause-next o b (b ++ piece) (front_rows o left whole) (λ many. there.2) sound (subst (λ n. numbers_past o.row_index n ≡ None) counted fits) more ∙ subst (λ n. rows_cause o n (front_rows o left whole) ≡ Some x) counted cause)
    print-cause left fault.NoSchema there sound (whole, front, end, few, cause) = absurd cause
    print-cause left (fault.Category column) there sound (whole, front, end, few, cause) = absurd cause
    print-cause left fault.NoColumn there sound (whole, front, end, few, cause) = absurd cause
    print-cause left fault.Source there sound (whole, front, end, few, cause) = absurd cause
    print-cause left fault.Sink there sound (whole, front, end, few, cause) = absurd cause
    print-cause left fault.TooLong there sound (whole, front, end, few, cause) = absurd cause

    pub cause-of : (given : StreamFault) → Sound o (settled_rows o b) → IsStepFault o from count bytes given → (given ≡ fault.OutOfMemory) ⊎ ((x : PolarsError) × (given ≡ fault.Polars x) × (feed_cause o (b ++ piece) ≡ Some x))
    cause-of given sound (inl is) = inl is
    cause-of given sound (inr (inl (inl is))) =
        let marked = mark-of o from b kept piece count is.enough is.marked way in
        let same : b ++ piece ≡ bytes = ap (λ l. l ++ piece) marked.0 in
        let four : nat_le 4 (length bytes) ≡ true = (let many : 4 ≤ length bytes = marked.1 in grind (arith, nat_tests, many)) in
        let all : (nat_le 4 (length (b ++ piece)) && is_compressed (b ++ piece)) ≡ true = ap (λ l. nat_le 4 (length l) && is_compressed l) same ∙ ap (λ t. t && is_compressed bytes) four ∙ marked.2 in
        let x : PolarsError = error.ComputeError compute_fault.Compressed in
        inr (x, is.is, first_some-here (when (nat_le 4 (length (b ++ piece)) && is_compressed (b ++ piece)) x) (faulty_of o (settled_rows o (b ++ piece)) ∷ numbers_of o (length (settled_rows o (b ++ piece))) ∷ []) x (ap (λ t. when t x) all))
    cause-of given sound (inr (inl (inr is))) = print-cause (drop is.reached.at bytes) given (out-records is.reached is.out) sound is.refused
    cause-of given sound (inr (inr is)) = print-cause bytes given (in-records is.out is.some) sound is.refused

-- ---- the answers

-- a first cause against bytes is kept
kept-cause : (o : CsvReadOptions) (b : List ℕ) (x : PolarsError) → feed_cause o b ≡ Some x → option_map error_of (kept_of (fault.Polars x)) ≡ Some x
kept-cause o b x is = by (nat_le 4 (length b) && is_compressed b) (faulty_of o (settled_rows o b)) refl (length (settled_rows o b)) is
  where
    kept-same : (y : _) → error.ComputeError y ≡ x → option_map error_of (kept_of (fault.Polars x)) ≡ Some x
    kept-same y same = subst (λ z. option_map error_of (kept_of (fault.Polars z)) ≡ Some z) same refl

    by_index : (index : Option RowIndex) (n : ℕ) → first_some (numbers_past index n ∷ []) ≡ Some x → option_map error_of (kept_of (fault.Polars x)) ≡ Some x
    by_index None n is = absurd (cc)
    by_index (Some index) n is = by_fit (nat_lt (2 ^ 64) (index.offset + n)) is
      where
        by_fit : (t : Bool) → first_some (when t (error.ComputeError (compute_fault.Index index.offset n)) ∷ []) ≡ Some x → option_map error_of (kept_of (fault.Polars x)) ≡ Some x
        by_fit true is = kept-same (compute_fault.Index index.offset n) (cc)
        by_fit false is = absurd (cc)

    by_count : (n : ℕ) → first_some (numbers_of o n ∷ []) ≡ Some x → option_map error_of (kept_of (fault.Polars x)) ≡ Some x
    by_count zero is = absurd (cc)
    by_count (suc n) is = by_index o.row_index (suc n) is

    by_row : (found : Option (ℕ × (ℕ × FaultKind))) (n : ℕ) → first_some (option_map (λ found. error.ComputeError (compute_fault.Record found.0 found.1.0 found.1.1)) found ∷ numbers_of o n ∷ []) ≡ Some x → option_map error_of (kept_of (fault.Polars x)) ≡ Some x
    by_row None n is = by_count n is
    by_row (Some found) n is = kept-same (compute_fault.Record found.0 found.1.0 found.1.1) (cc)

    by : (t : Bool) (first : Option PolarsError) → faulty_of o (settled_rows o b) ≡ first → (n : ℕ) → first_some (when t (error.ComputeError compute_fault.Compressed) ∷ faulty_of o (settled_rows o b) ∷ numbers_of o n ∷ []) ≡ Some x → option_map error_of (kept_of (fault.Polars x)) ≡ Some x
    by true first first_is n is = kept-same compute_fault.Compressed (cc)
    by false first first_is n is = by_row _ n is

module _ (stream : Stream) (b piece : List ℕ) (stands : StandsFor stream b) (apart : IsDialect (marks_of stream.read.parse_options) (comment_of stream.read.parse_options)) (fits : numbers_past stream.read.row_index stream.rows ≡ None) (none : stream.fault ≡ None) where
  abbrev o : CsvReadOptions
  o = stream.read

  abbrev all : List ℕ
  all = stream.kept ++ piece

  count-fits : numbers_past o.row_index (length (settled_rows o b)) ≡ None
  count-fits = subst (λ n. numbers_past o.row_index n ≡ None) stands.count fits

  -- bytes that were accepted
  pub fed : (text now : List ℕ) (step : Step) → length (b ++ piece) < 2 ^ 64 → IsStepped o stream.write stream.place stream.rows all text now step
      → IsFed stream (record stream { kept = drop step.at all; place = step.place; rows = step.rows }) b piece text now
  fed text now step small stepped =
      let next = next-of o stream.write b stream.kept piece text now stream.place stream.rows apart stands.come stands.read stands.plain stands.count fits step stepped in
      let last : numbers_past o.row_index step.rows ≡ None = ap (numbers_past o.row_index) next.rows_is ∙ cause-fits o (length (settled_rows o b)) next.others next.sound in
      record {
        read_is = refl;
        write_is = refl;
        none = none;
        stands = record {
          small = small;
          before = stands.before ++ take step.at all;
          is = ap (λ l. l ++ piece) stands.is ∙ append_assoc stands.before stream.kept piece ∙ ap (λ l. stands.before ++ l) (sym (take-append-drop step.at all)) ∙ sym (append_assoc stands.before (take step.at all) (drop step.at all));
          come = next.come;
          read = next.read;
          few = next.few;
          plain = next.plain;
          count = omega (arith, next.rows_is, ap length next.more, length-append (settled_rows o b) next.others);
          sound = sound-next o b (b ++ piece) next.others stands.sound next.more next.sound;
          numbered = λ some. last;
        };
        sound = cause-next o b (b ++ piece) next.others next.plain stands.sound count-fits next.more ∙ next.sound;
        appended = next.gained ∙ ap (λ l. text ++ l) (sym (gains o stream.write b (b ++ piece) next.others next.more));
      }

  -- bytes that were refused
  pub unfed : (given : StreamFault) → IsStepFault o stream.place stream.rows all given → IsStreamFault stream (record stream { fault = option_map error_of (kept_of given) }) (feed_cause o (b ++ piece)) given
  unfed given is = by (cause-of o stream.write b stream.kept piece [] [] stream.place stream.rows apart stands.come stands.read stands.plain stands.count fits given stands.sound is)
    where
      by : (given ≡ fault.OutOfMemory) ⊎ ((x : PolarsError) × (given ≡ fault.Polars x) × (feed_cause o (b ++ piece) ≡ Some x)) → IsStreamFault stream (record stream { fault = option_map error_of (kept_of given) }) (feed_cause o (b ++ piece)) given
      by (inl wanting) =
          let same : record stream { fault = None } ≡ stream = ap (λ (f : Option PolarsError). record stream { fault = f }) (sym none) in
          subst (λ g. IsStreamFault stream (record stream { fault = option_map error_of (kept_of g) }) (feed_cause o (b ++ piece)) g) (sym wanting) same
      by (inr (x, given_is, cause)) =
          let answer : IsStreamFault stream (record stream { fault = option_map error_of (kept_of (fault.Polars x)) }) (feed_cause o (b ++ piece)) (fault.Polars x) =
          inr (none, cause, ap (λ (f : Option PolarsError). record stream { fault = f }) (kept-cause o (b ++ piece) x cause)) in
          subst (λ g. IsStreamFault stream (record stream { fault = option_map error_of (kept_of g) }) (feed_cause o (b ++ piece)) g) (sym given_is) answer
