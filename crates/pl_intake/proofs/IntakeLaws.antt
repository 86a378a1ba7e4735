-- What comes of a source over several reads.
use Rattle.std.proofs.Common.{◌≡◌, ℕ, ◌+◌, ◌-◌, ◌<◌, ◌≤◌, Bool, true, false, cond, List, [], ◌++◌, length, take, drop, slice_range, refl, sym, ◌∙◌, ap, arith, append-nil, append_assoc, length-append, length-take-le, length-drop, drop_at, le_refl}
use Rattle.std.specs.Prelude.{Option, None, Some, Result, Ok, Err, OnOk, is_ok}
use Rattle.std.specs.Io.KnownBytes.{Consumes, Keeps, IsAtEnd}
use Rattle.std.proofs.Math.Seq.{take-add, take-append_seam}
use Rattle.std.proofs.lemmas.List.{drop-drop, take-append-le, take-append-drop, take_all}
use Rattle.std.proofs.lemmas.Slice.{between_is, between_to_end, take-put_mid_below}
use Rattle.pl_frame.specs.Came.{IsReadOn}
use Rattle.pl_frame.proofs.Known.{Consumes-nil, Consumes-append}
use Rattle.pl_intake.specs.Intake.{HasGiven, HasGainedAll, HasStopped, IsPastLimit}
use Rattle.pl_intake.specs.declared.intake.Intake.{Intake}
use borrow.Rule.Slice.PartMut.{put_mid, post_of}

-- what holds of a success
pub ok-holds : {A E : Type 0} (r : Result A E) (P : Type 0) → is_ok r ≡ true → OnOk r P → P
ok-holds (Ok a) P ok holds = holds
ok-holds (Err e) P ok holds = absurd (cc)

-- ---- known bytes

-- what came stays what came where nothing more came
pub Consumes-kept : (a b c : Option (List ℕ)) (bytes : List ℕ) → Consumes a b bytes → Keeps b c → Consumes a c bytes
Consumes-kept None b c bytes came kept = tt
Consumes-kept (Some x) None c bytes came kept = absurd came
Consumes-kept (Some x) (Some y) None bytes came kept = absurd kept
Consumes-kept (Some x) (Some y) (Some z) bytes came kept = came ∙ ap (λ l. bytes ++ l) (sym kept)

-- ---- parts of a text

-- a part of a text is known by the front that it stands in
pub slice-front : (a b : List ℕ) (from to : ℕ) → take to a ≡ take to b → slice_range a from to ≡ slice_range b from to
slice-front a b from to same = between_is a from to ∙ ap (drop from) same ∙ sym (between_is b from to)

-- from one place to a second, and from there to a third
pub slice-parts : (text : List ℕ) (from middle end : ℕ) → from ≤ middle → middle ≤ end → slice_range text from end ≡ slice_range text from middle ++ slice_range text middle end
slice-parts text from middle end low high =
    let sum : end - from ≡ (middle - from) + (end - middle) = omega arith in
    ap (λ (n : ℕ). take n (drop from text)) sum
    ∙ take-add (middle - from) (end - middle) (drop from text)
    ∙ ap (λ (l : List ℕ). slice_range text from middle ++ take (end - middle) l) (drop-drop (middle - from) from text ∙ ap (λ (n : ℕ). drop n text) (omega arith))

-- what was written from a place on
pub slice-written : (at size n : ℕ) (text buf : List ℕ) → at ≤ length text → n ≤ length buf → slice_range (put_mid at size text buf) at (at + n) ≡ take n buf
slice-written at size n text buf within fits =
    let same : (at + n) - at ≡ n = omega arith in
    let after = post_of at size text in
    ap (take ((at + n) - at)) (drop_at (take at text) (buf ++ after) at (length-take-le at text within)) ∙ ap (λ m. take m (buf ++ after)) same ∙ take-append-le n buf after fits

-- a part of a text, and what was written behind it
pub slice-longer : (from at size n : ℕ) (text buf : List ℕ) → from ≤ at → at ≤ length text → n ≤ length buf
    → slice_range (put_mid at size text buf) from (at + n) ≡ slice_range text from at ++ take n buf
slice-longer from at size n text buf low within fits =
    let new = put_mid at size text buf in
    slice-parts new from at (at + n) low (omega arith)
    ∙ ap (λ l. l ++ slice_range new at (at + n)) (slice-front new text from at (take-put_mid_below at size text buf at (omega arith) within))
    ∙ ap (λ l. slice_range text from at ++ l) (slice-written at size n text buf within fits)

-- nothing stands between a place and itself
pub slice-nothing : (text : List ℕ) (at : ℕ) → slice_range text at at ≡ []
slice-nothing text at = let none : at - at ≡ 0 = omega arith in ap (λ n. take n (drop at text)) none

-- the length of a part
pub length-slice : (text : List ℕ) (from to : ℕ) → to ≤ length text → length (slice_range text from to) ≡ to - from
length-slice text from to within = length-take-le (to - from) (drop from text) (omega (arith, length-drop from text, within))

-- the front of a text up to a place, and its part from there to a second
front-slice : (text : List ℕ) (end to : ℕ) → end ≤ to → take end text ++ slice_range text end to ≡ take to text
front-slice text end to after =
    let sum : to ≡ end + (to - end) = omega arith in
    sym (ap (λ (n : ℕ). take n text) sum ∙ take-add end (to - end) text)

-- ---- what came and was given

-- of which nothing came
pub HasGiven-nothing : (before : Option (List ℕ)) (limit : ℕ) (intake next : Intake) (text : List ℕ) → next.size ≡ intake.size → next.size ≤ limit → (next.is_ended ≡ true → IsAtEnd before)
    → intake.rest.items ≡ text ++ next.rest.items → HasGiven before before limit intake next text
HasGiven-nothing before limit intake next text size within ended are = record {
  bytes = [];
  gained = record { came = Consumes-nil before; size_is = omega (arith, size); within = within; ended = ended };
  are = append-nil intake.rest.items ∙ are;
}

-- more bytes came behind those
pub HasGiven-more : (before between now : Option (List ℕ)) (limit : ℕ) (intake next last : Intake) (text longer more : List ℕ) → HasGiven before between limit intake next text
    → Consumes between now more → last.size ≡ next.size + length more → last.size ≤ limit → (last.is_ended ≡ true → IsAtEnd now)
    → (text ++ next.rest.items) ++ more ≡ longer ++ last.rest.items → HasGiven before now limit intake last longer
HasGiven-more before between now limit intake next last text longer more given came size within ended are = record {
  bytes = given.bytes ++ more;
  gained = record {
    came = Consumes-append before between now given.bytes more given.gained.came came;
    size_is = omega (arith, size, given.gained.size_is, length-append given.bytes more);
    within = within;
    ended = ended;
  };
  are = sym (append_assoc intake.rest.items given.bytes more) ∙ ap (λ l. l ++ more) given.are ∙ are;
}

-- what came and was given behind what came and was kept
pub HasGiven-then : (before between now : Option (List ℕ)) (limit : ℕ) (intake next last : Intake) (text : List ℕ) → HasGiven before between limit intake next []
    → HasGiven between now limit next last text → HasGiven before now limit intake last text
HasGiven-then before between now limit intake next last text first second =
    HasGiven-more before between now limit intake next last [] text second.bytes first second.gained.came second.gained.size_is second.gained.within second.gained.ended second.are

-- all came, and nothing was given
pub HasGainedAll-kept : (before now : Option (List ℕ)) (limit : ℕ) (intake next : Intake) → HasGiven before now limit intake next [] → next.is_ended ≡ true → HasGainedAll before now limit intake next
HasGainedAll-kept before now limit intake next given ended = record {
  bytes = given.bytes;
  gained = given.gained;
  end = given.gained.ended ended;
  told = ended;
  are = sym given.are;
}

-- ---- what did not come

-- some bytes came, and others behind them
pub IsReadOn-behind : (before between now : Option (List ℕ)) (bytes : List ℕ) → Consumes before between bytes → IsReadOn between now → IsReadOn before now
IsReadOn-behind before between now bytes came more = (bytes ++ more.0, Consumes-append before between now bytes more.0 came more.1)

-- too many bytes came behind others
pub IsTooLong-behind : (before between now : Option (List ℕ)) (limit : ℕ) (intake next : Intake) (text : List ℕ) → HasGiven before between limit intake next text
    → IsPastLimit between now limit next.size → IsPastLimit before now limit intake.size
IsTooLong-behind before between now limit intake next text given long =
    (given.bytes ++ long.0, Consumes-append before between now given.bytes long.0 given.gained.came long.1, omega (arith, long.2, given.gained.size_is, length-append given.bytes long.0))

-- some bytes came behind others
pub HasStopped-behind : (before between now : Option (List ℕ)) (limit : ℕ) (intake next : Intake) (text : List ℕ) → HasGiven before between limit intake next text
    → HasStopped between now limit next.size → HasStopped before now limit intake.size
HasStopped-behind before between now limit intake next text given stopped =
    (given.bytes ++ stopped.0, Consumes-append before between now given.bytes stopped.0 given.gained.came stopped.1, omega (arith, stopped.2, given.gained.size_is, length-append given.bytes stopped.0))

-- a read brings the end nearer: it tells the end, or brings bytes
pub nearer : (size more limit : ℕ) (is_ended ends : Bool) → is_ended ≡ false → size ≤ more → more ≤ limit → (ends ≡ false → size < more)
    → cond {A = ℕ} ends 0 1 + (limit - more) < cond {A = ℕ} is_ended 0 1 + (limit - size)
nearer size more limit is_ended true going low high tells =
    let flag : cond {A = ℕ} is_ended 0 1 ≡ 1 = ap (λ b. cond {A = ℕ} b 0 1) going in omega (arith, flag)
nearer size more limit is_ended false going low high tells =
    let flag : cond {A = ℕ} is_ended 0 1 ≡ 1 = ap (λ b. cond {A = ℕ} b 0 1) going in
    let grew : size < more = tells refl in
    omega (arith, flag, grew)

-- ---- a text that is filled

-- what a vector holds once a slice of all of it was written
pub written-back : (items new : List ℕ) (n : ℕ) → length items ≡ n → length new ≡ length items → take n (new ++ drop (length new) items) ≡ new
written-back items new n size same =
    ap (λ k. take k (new ++ drop (length new) items)) (omega (arith, size, same)) ∙ take-append_seam new (drop (length new) items)

-- bytes came behind the front of a text, and it is given up to a place, and kept behind it
pub HasGiven-filled : (before between now : Option (List ℕ)) (limit : ℕ) (intake next last : Intake) (old new text : List ℕ) (from to : ℕ)
    → HasGiven before between limit intake next (take from old) → next.rest.items ≡ [] → Consumes between now (slice_range new from to) → from ≤ to → to ≤ length new → take from new ≡ take from old
    → last.size ≡ next.size + (to - from) → last.size ≤ limit → (last.is_ended ≡ true → IsAtEnd now) → take to new ≡ text ++ last.rest.items → HasGiven before now limit intake last text
HasGiven-filled before between now limit intake next last old new text from to given none came after inside kept size within ended are =
    let more = slice_range new from to in
    HasGiven-more before between now limit intake next last (take from old) text more given came
    (size ∙ ap (λ n. next.size + n) (sym (length-slice new from to inside))) within ended
    (ap (λ l. (take from old ++ l) ++ more) none ∙ ap (λ l. l ++ more) (append-nil (take from old)) ∙ ap (λ l. l ++ more) (sym kept) ∙ front-slice new from to after ∙ are)

-- a text that is parted at a place
pub parted : (text : List ℕ) (at : ℕ) → take at text ++ slice_range text at (length text) ≡ text
parted text at = ap (λ l. take at text ++ l) (between_to_end text at (length text) (le_refl (length text))) ∙ take-append-drop at text

-- the front of a text that was made longer is the text
pub front-resized : (text more : List ℕ) (at size : ℕ) → length text ≡ at → at ≤ size → take at (take size text ++ more) ≡ text
front-resized text more at size long fits =
    ap (λ l. take at (l ++ more)) (take_all size text (omega (arith, long, fits))) ∙ ap (λ n. take n (text ++ more)) (sym long) ∙ take-append_seam text more
