-- Lemmas on streams of a source.
use Rattle.std.proofs.Common.{◌≡◌, ◌≤◌, ◌<◌, ◌+◌, ◌-◌, ◌^◌, ◌++◌, ◌∙◌, ap, sym, subst, refl, ℕ, Bool, List, [], ◌∷◌, drop, take, length, arith, append-nil, length-append, inl, inr}
use Rattle.std.specs.Prelude.{◌⊎◌, false, Option, None, Some, Result, Ok, Err, OnOk, IfErr}
use Rattle.std.specs.Io.KnownBytes.{Appends, Consumes, IsAtEnd, Keeps}
use Rattle.pl_frame.proofs.Known.{Consumes-nil, Consumes-append, Appends-more}
use Rattle.pl_frame.specs.Causes.{Rose}
use Rattle.pl_frame.specs.Dialect.{IsDialect}
use Rattle.pl_frame.specs.declared.error.PolarsError.{PolarsError}
use Rattle.pl_options.specs.declared.read_options.CsvReadOptions.{CsvReadOptions}
use Rattle.pl_options.specs.FirstCause.{first_some}
use Rattle.pl_options.specs.Text.{marks_of, comment_of}
use Rattle.pl_read.specs.Refusals.{early_causes}
use Rattle.pl_read.specs.SettleGiven.{given_schema, settled_causes}
use Rattle.pl_read.proofs.DataLaws.{may-dialect}
use Rattle.pl_csv.specs.Transcoding.{quote_cause}
use Rattle.pl_write.specs.Writing.{AppendsPrefix}
use Rattle.pl_write.specs.declared.options.CsvWriterOptions.{CsvWriterOptions}
use Rattle.pl_write.proofs.PrintLaws.{AppendsPrefix-behind}
use Rattle.pl_write.proofs.WriteLaws.{Appends-nil, AppendsPrefix-from}
use Rattle.pl_csv.specs.Views.{SinkView, SourceView, source_view}
use Rattle.pl_stream.specs.declared.fault.StreamFault.{StreamFault}
use Rattle.pl_stream.specs.declared.fault.StreamFault.TheVariants as fault
use Rattle.pl_stream.specs.Feeding.{feed_cause, finish_cause, behind_settled, whole_text, IsFed, IsFinished, IsStreamFault}
use Rattle.pl_stream.specs.Options.{IsAccepted}
use Rattle.pl_stream.specs.Settled.{settled_text}
use Rattle.pl_stream.specs.Stream.{Stream, StandsFor}
use Rattle.pl_stream.specs.Streaming.{IsOpenState, IsFedOn, IsEndedOn, IsPutFault, IsFeedFault, IsEndFault, HasFed, IsStreamed, IsPartStreamed, IsUnstreamed, most_bytes}
use Rattle.pl_stream.proofs.TextLaws.{fed-more, whole-more}

-- ---- results

abbrev pub Answer : Type 0
Answer = Result (Unit {0}) StreamFault

pub on_ok : {P Q : Type 0} (r : Answer) → (P → Q) → OnOk r P → OnOk r Q
on_ok (Ok x) f p = f p
on_ok (Err given) f p = tt

pub if_err : {P Q : StreamFault → Type 0} (r : Answer) → ((given : StreamFault) → P given → Q given) → IfErr r P → IfErr r Q
if_err (Ok x) f p = tt
if_err (Err given) f p = f given p

-- ---- one call

-- what was appended to an empty text
text-is : (old text more : List ℕ) → text ≡ old ++ more → old ≡ [] → text ≡ more
text-is old text more is none = is ∙ ap (λ l. l ++ more) none

pub fed-on : (old new : Stream) (b piece before text put : List ℕ) (received received_now : Option (List ℕ)) → IsFed old new b piece before text → new.is_finished ≡ false → before ≡ [] → put ≡ text
    → Appends received received_now put → IsFedOn old new b piece received received_now
fed-on old new b piece before text put received received_now is unended none same appended = record {
  read_is = is.read_is;
  write_is = is.write_is;
  is_open = record { none = is.none; unended = unended };
  stands = is.stands;
  sound = is.sound;
  written = subst (Appends received received_now) (same ∙ text-is before text (behind_settled old.read old.write b (settled_text old.read old.write (b ++ piece))) is.appended none) appended;
}

pub ended-on : (old new : Stream) (b before text put : List ℕ) (received received_now : Option (List ℕ)) → IsFinished old new b before text → before ≡ [] → put ≡ text
    → Appends received received_now put → IsEndedOn old.read old.write b received received_now
ended-on old new b before text put received received_now is none same appended = record {
  sound = is.sound;
  written = subst (Appends received received_now) (same ∙ text-is before text (behind_settled old.read old.write b (whole_text old.read old.write b)) is.appended none) appended;
}

pub put-fed : (old new : Stream) (b piece before text put : List ℕ) (out out_now : SinkView) (given : StreamFault) → IsFed old new b piece before text → before ≡ [] → put ≡ text
    → IsPutFault put out out_now given → IsFeedFault old.read old.write b piece out out_now given
put-fed old new b piece before text put out out_now given is none same fault =
    inr (is.sound, subst (λ (t : List ℕ). IsPutFault t out out_now given) (same ∙ text-is before text (behind_settled old.read old.write b (settled_text old.read old.write (b ++ piece))) is.appended none) fault)

pub put-ended : (old new : Stream) (b before text put : List ℕ) (out out_now : SinkView) (given : StreamFault) → IsFinished old new b before text → before ≡ [] → put ≡ text
    → IsPutFault put out out_now given → IsEndFault old.read old.write b out out_now given
put-ended old new b before text put out out_now given is none same fault =
    inr (is.sound, subst (λ (t : List ℕ). IsPutFault t out out_now given) (same ∙ text-is before text (behind_settled old.read old.write b (whole_text old.read old.write b)) is.appended none) fault)

-- what a call that no other answered a fault before was refused for
pub refused-by : (old new : Stream) (cause : Option PolarsError) (given : StreamFault) → old.fault ≡ None → IsStreamFault old new cause given
    → (given ≡ fault.OutOfMemory) ⊎ ((refusal : PolarsError) × (given ≡ fault.Polars refusal) × (cause ≡ Some refusal))
refused-by old new cause (fault.Polars refusal) none (inl kept) = absurd (some-none refusal (sym kept.0 ∙ none))
  where
    some-none : (x : PolarsError) → ◌≡◌ {A = Option PolarsError} (Some x) None → ⊥
    some-none x h = cc
refused-by old new cause (fault.Polars refusal) none (inr is) = inr (refusal, refl, is.1)
refused-by old new cause fault.OutOfMemory none is = inl refl
refused-by old new cause fault.NoSchema none is = absurd is
refused-by old new cause (fault.Category column) none is = absurd is
refused-by old new cause fault.NoColumn none is = absurd is
refused-by old new cause fault.Source none is = absurd is
refused-by old new cause fault.Sink none is = absurd is
refused-by old new cause fault.TooLong none is = absurd is

-- ---- counts

Rose-later : {before mid now : ℕ} → before ≤ mid → Rose mid now → Rose before now
Rose-later later more = omega (arith, later, more)

-- ---- all of a source

-- a state has been fed so many bytes of a source, and the sink received exactly their settled text
pub record IsFeeding (first now : Stream) (size : ℕ) (left left_now received received_now : Option (List ℕ)) : Type 0 where
  pub fed : List ℕ
  pub stands : StandsFor now fed
  pub read_is : now.read ≡ first.read
  pub write_is : now.write ≡ first.write
  pub size_is : size ≡ length fed
  pub has : HasFed first.read first.write left left_now received received_now fed []

-- the first bytes of a source are none
pub feeding-none : (first : Stream) (left received : Option (List ℕ)) → StandsFor first [] → IsFeeding first first 0 left left received received
feeding-none first left received stands = record {
  fed = [];
  stands = stands;
  read_is = refl;
  write_is = refl;
  size_is = refl;
  has = record { came = Consumes-nil left; within = omega arith; sound = refl; written = Appends-nil received };
}

-- more bytes were accepted
pub feeding-more : (first now new : Stream) (size : ℕ) (piece : List ℕ) (left left_mid left_now received received_mid received_now : Option (List ℕ)) → IsDialect (marks_of first.read.parse_options) (comment_of first.read.parse_options)
    → (feeding : IsFeeding first now size left left_mid received received_mid) → IsFedOn now new feeding.fed piece received_mid received_now → Consumes left_mid left_now piece → size + length piece ≤ most_bytes
    → IsFeeding first new (size + length piece) left left_now received received_now
feeding-more first now new size piece left left_mid left_now received received_mid received_now apart feeding on came within = record {
  fed = feeding.fed ++ piece;
  stands = on.stands;
  read_is = on.read_is ∙ feeding.read_is;
  write_is = on.write_is ∙ feeding.write_is;
  size_is = omega (arith, length-append feeding.fed piece, feeding.size_is);
  has = record {
    came = subst (Consumes left left_now) (ap (λ l. l ++ piece) (append-nil feeding.fed) ∙ sym (append-nil (feeding.fed ++ piece))) (Consumes-append left left_mid left_now (feeding.fed ++ []) piece feeding.has.came came);
    within = omega (arith, length-append feeding.fed piece, feeding.size_is, within);
    sound = subst (λ (o : CsvReadOptions). feed_cause o (feeding.fed ++ piece) ≡ None) feeding.read_is on.sound;
    written = subst (Appends received received_now) (fed-more first.read first.write feeding.fed piece apart)
        (Appends-more received received_mid received_now (settled_text first.read first.write feeding.fed) (behind_settled first.read first.write feeding.fed (settled_text first.read first.write (feeding.fed ++ piece))) feeding.has.written
        (subst (λ (o : CsvReadOptions). Appends received_mid received_now (behind_settled o first.write feeding.fed (settled_text o first.write (feeding.fed ++ piece)))) feeding.read_is
        (subst (λ (w : CsvWriterOptions). Appends received_mid received_now (behind_settled now.read w feeding.fed (settled_text now.read w (feeding.fed ++ piece)))) feeding.write_is on.written)));
  };
}

-- ---- why it ends

-- bytes that came of a source: those that were accepted, and behind them the last ones; the sink had received the settled text of the former
module _ (o : CsvReadOptions) (write : CsvWriterOptions) (source source_now : SourceView) (out out_mid out_now : SinkView) (fed last : List ℕ)
    (apart : IsDialect (marks_of o.parse_options) (comment_of o.parse_options)) (came : Consumes source.left source_now.left (fed ++ last)) (within : length (fed ++ last) ≤ most_bytes)
    (sound : feed_cause o fed ≡ None) (written : Appends out.received out_mid.received (settled_text o write fed)) (later : out.faults ≤ out_mid.faults)
  where
    few : length fed ≤ most_bytes
    few = omega (arith, length-append fed last, within)

    same-received : out_now ≡ out_mid → Appends out.received out_now.received (settled_text o write fed)
    same-received same = subst (λ (view : SinkView). Appends out.received view.received (settled_text o write fed)) (sym same) written

    fed-still : out_now ≡ out_mid → HasFed o write source.left source_now.left out.received out_now.received fed last
    fed-still same = record { came = came; within = few; sound = sound; written = same-received same }

    part-still : out_now ≡ out_mid → IsPartStreamed o write source.left source_now.left out.received out_now.received
    part-still same = (fed, last, came, within, inl (sound, AppendsPrefix-from out.received out_now.received (settled_text o write fed) [] (settled_text o write fed) (append-nil (settled_text o write fed)) (same-received same)))

    rose : Rose out_mid.faults out_now.faults → Rose out.faults out_now.faults
    rose more = Rose-later later more

    -- the last bytes were accepted too, and the sink received a prefix of what the settled text has by them
    part-fed : feed_cause o (fed ++ last) ≡ None → AppendsPrefix out_mid.received out_now.received (behind_settled o write fed (settled_text o write (fed ++ last))) → IsPartStreamed o write source.left source_now.left out.received out_now.received
    part-fed none prefix =
        let both : AppendsPrefix out.received out_now.received (settled_text o write fed ++ behind_settled o write fed (settled_text o write (fed ++ last))) = AppendsPrefix-behind _ _ _ _ _ written prefix in (
          fed ++ last,
          [],
          subst (Consumes source.left source_now.left) (sym (append-nil (fed ++ last))) came,
          subst (λ (l : List ℕ). length l ≤ most_bytes) (sym (append-nil (fed ++ last))) within,
          inl (none, subst (AppendsPrefix out.received out_now.received) (fed-more o write fed last apart) both),
        )

    feed-put : (given : StreamFault) → feed_cause o (fed ++ last) ≡ None → IsPutFault (behind_settled o write fed (settled_text o write (fed ++ last))) out_mid out_now given → IsUnstreamed o write source source_now out out_now given
    feed-put fault.Sink none put = (rose put.0, part-fed none put.1)
    feed-put fault.OutOfMemory none put = part-fed none put
    feed-put (fault.Polars refusal) none put = absurd put
    feed-put fault.NoSchema none put = absurd put
    feed-put (fault.Category column) none put = absurd put
    feed-put fault.NoColumn none put = absurd put
    feed-put fault.Source none put = absurd put
    feed-put fault.TooLong none put = absurd put

    pub unfed : (given : StreamFault) → IsFeedFault o write fed last out_mid out_now given → IsUnstreamed o write source source_now out out_now given
    unfed given (inl (inl is, same)) = subst (IsUnstreamed o write source source_now out out_now) (sym is) (part-still same)
    unfed given (inl (inr (refusal, is, cause), same)) = subst (IsUnstreamed o write source source_now out out_now) (sym is) (fed, last, fed-still same, within, inl cause)
    unfed given (inr (none, put)) = feed-put given none put

    -- all bytes came, and the sink received a prefix of what the text of their frame has behind the settled text
    part-ended : last ≡ [] → IsAtEnd source_now.left → finish_cause o fed ≡ None → AppendsPrefix out_mid.received out_now.received (behind_settled o write fed (whole_text o write fed)) → IsPartStreamed o write source.left source_now.left out.received out_now.received
    part-ended empty end none prefix =
        let both : AppendsPrefix out.received out_now.received (settled_text o write fed ++ behind_settled o write fed (whole_text o write fed)) = AppendsPrefix-behind _ _ _ _ _ written prefix in
        (fed, last, came, within, inr (empty, end, none, subst (AppendsPrefix out.received out_now.received) (whole-more o write fed apart) both))

    end-put : (given : StreamFault) → last ≡ [] → IsAtEnd source_now.left → finish_cause o fed ≡ None → IsPutFault (behind_settled o write fed (whole_text o write fed)) out_mid out_now given → IsUnstreamed o write source source_now out out_now given
    end-put fault.Sink empty end none put = (rose put.0, part-ended empty end none put.1)
    end-put fault.OutOfMemory empty end none put = part-ended empty end none put
    end-put (fault.Polars refusal) empty end none put = absurd put
    end-put fault.NoSchema empty end none put = absurd put
    end-put (fault.Category column) empty end none put = absurd put
    end-put fault.NoColumn empty end none put = absurd put
    end-put fault.Source empty end none put = absurd put
    end-put fault.TooLong empty end none put = absurd put

    pub unended : (given : StreamFault) → last ≡ [] → IsAtEnd source_now.left → IsEndFault o write fed out_mid out_now given → IsUnstreamed o write source source_now out out_now given
    unended given empty end (inl (inl is, same)) = subst (IsUnstreamed o write source source_now out out_now) (sym is) (part-still same)
    unended given empty end (inl (inr (refusal, is, cause), same)) = subst (IsUnstreamed o write source source_now out out_now) (sym is) (fed, last, fed-still same, within, inr (empty, end, cause))
    unended given empty end (inr (none, put)) = end-put given empty end none put

    pub ended : last ≡ [] → IsAtEnd source_now.left → IsEndedOn o write fed out_mid.received out_now.received → IsStreamed o write source.left source_now.left out.received out_now.received
    ended empty end is = record {
      bytes = fed;
      came = subst (Consumes source.left source_now.left) (ap (λ l. fed ++ l) empty ∙ append-nil fed) came;
      end = end;
      within = few;
      sound = is.sound;
      written = subst (Appends out.received out_now.received) (whole-more o write fed apart) (Appends-more _ _ _ _ _ written is.written);
    }

-- ---- the same, of a state that was fed

-- bytes came behind those that a state was fed
came-more : (left left_mid left_now : Option (List ℕ)) (fed piece : List ℕ) → Consumes left left_mid (fed ++ []) → Consumes left_mid left_now piece → Consumes left left_now (fed ++ piece)
came-more left left_mid left_now fed piece came more = subst (Consumes left left_now) (ap (λ l. l ++ piece) (append-nil fed)) (Consumes-append left left_mid left_now (fed ++ []) piece came more)

module _ (first now : Stream) (size : ℕ) (source source_mid source_now : SourceView) (out out_mid out_now : SinkView) (apart : IsDialect (marks_of first.read.parse_options) (comment_of first.read.parse_options))
    (feeding : IsFeeding first now size source.left source_mid.left out.received out_mid.received) (later : out.faults ≤ out_mid.faults)
  where
    same-feed : (piece : List ℕ) (given : StreamFault) → IsFeedFault now.read now.write feeding.fed piece out_mid out_now given → IsFeedFault first.read first.write feeding.fed piece out_mid out_now given
    same-feed piece given is = subst (λ (o : CsvReadOptions). IsFeedFault o first.write feeding.fed piece out_mid out_now given) feeding.read_is (subst (λ (w : CsvWriterOptions). IsFeedFault now.read w feeding.fed piece out_mid out_now given) feeding.write_is is)

    same-end : (given : StreamFault) → IsEndFault now.read now.write feeding.fed out_mid out_now given → IsEndFault first.read first.write feeding.fed out_mid out_now given
    same-end given is = subst (λ (o : CsvReadOptions). IsEndFault o first.write feeding.fed out_mid out_now given) feeding.read_is (subst (λ (w : CsvWriterOptions). IsEndFault now.read w feeding.fed out_mid out_now given) feeding.write_is is)

    same-ended : IsEndedOn now.read now.write feeding.fed out_mid.received out_now.received → IsEndedOn first.read first.write feeding.fed out_mid.received out_now.received
    same-ended is = subst (λ (o : CsvReadOptions). IsEndedOn o first.write feeding.fed out_mid.received out_now.received) feeding.read_is (subst (λ (w : CsvWriterOptions). IsEndedOn now.read w feeding.fed out_mid.received out_now.received) feeding.write_is is)

    none-more : length (feeding.fed ++ []) ≤ most_bytes
    none-more = omega (arith, length-append feeding.fed [], feeding.has.within)

    pub feeding-unfed : (piece : List ℕ) → Consumes source_mid.left source_now.left piece → size + length piece ≤ most_bytes → (given : StreamFault)
        → IsFeedFault now.read now.write feeding.fed piece out_mid out_now given → IsUnstreamed first.read first.write source source_now out out_now given
    feeding-unfed piece came within given is =
        unfed first.read first.write source source_now out out_mid out_now feeding.fed piece apart (came-more source.left source_mid.left source_now.left feeding.fed piece feeding.has.came came)
        (omega (arith, length-append feeding.fed piece, feeding.size_is, within)) feeding.has.sound feeding.has.written later given (same-feed piece given is)

    pub feeding-unended : Consumes source_mid.left source_now.left [] → IsAtEnd source_now.left → (given : StreamFault)
        → IsEndFault now.read now.write feeding.fed out_mid out_now given → IsUnstreamed first.read first.write source source_now out out_now given
    feeding-unended came end given is =
        unended first.read first.write source source_now out out_mid out_now feeding.fed [] apart (came-more source.left source_mid.left source_now.left feeding.fed [] feeding.has.came came)
        none-more feeding.has.sound feeding.has.written later given refl end (same-end given is)

    pub feeding-ended : Consumes source_mid.left source_now.left [] → IsAtEnd source_now.left
        → IsEndedOn now.read now.write feeding.fed out_mid.received out_now.received → IsStreamed first.read first.write source.left source_now.left out.received out_now.received
    feeding-ended came end is =
        ended first.read first.write source source_now out out_mid out_now feeding.fed [] apart (came-more source.left source_mid.left source_now.left feeding.fed [] feeding.has.came came)
        none-more feeding.has.sound feeding.has.written later refl end (same-ended is)

-- more came than an input may have
pub feeding-late : (first now : Stream) (size : ℕ) (piece : List ℕ) (left left_mid left_now received received_mid : Option (List ℕ)) → (feeding : IsFeeding first now size left left_mid received received_mid)
    → Consumes left_mid left_now piece → most_bytes < size + length piece
    → (fed last : List ℕ) × HasFed first.read first.write left left_now received received_mid fed last × (most_bytes < length (fed ++ last))
feeding-late first now size piece left left_mid left_now received received_mid feeding came many = (
  feeding.fed,
  piece,
  record { came = came-more left left_mid left_now feeding.fed piece feeding.has.came came; within = feeding.has.within; sound = feeding.has.sound; written = feeding.has.written },
  omega (arith, length-append feeding.fed piece, feeding.size_is, many),
)

-- ---- options

-- where none of some causes stands, none of the first of them does
early-none : (xs ys : List (Option PolarsError)) → first_some (xs ++ ys) ≡ None → first_some xs ≡ None
early-none [] ys none = refl
early-none (None ∷ xs) ys none = early-none xs ys none
early-none (Some x ∷ xs) ys none = none

pub accepted-dialect : (o : CsvReadOptions) (write : CsvWriterOptions) → IsAccepted o write → IsDialect (marks_of o.parse_options) (comment_of o.parse_options)
accepted-dialect o write accepted = may-dialect o (record {
  is_dialect = accepted.sound.is_dialect;
  tells = accepted.sound.tells;
  is = sym (early-none (early_causes o accepted.sound.is_dialect) (quote_cause write ∷ settled_causes o (given_schema o)) (sym accepted.sound.is));
})
