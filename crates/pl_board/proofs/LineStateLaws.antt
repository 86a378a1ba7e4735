-- The states in front of pieces, one piece after the other.
use Rattle.std.proofs.Common.{◌≡◌, ℕ, zero, suc, ◌+◌, ◌-◌, ◌<◌, ◌≤◌, List, [], ◌∷◌, ◌++◌, length, take, drop, get_or, refl, sym, ◌∙◌, ap, subst, arith, inl, inr, append_assoc, length-drop}
use Rattle.std.specs.Prelude.{Option, None, Some, slice_range}
use Rattle.std.specs.List.{last_or, AllByRecursion}
use Rattle.std.proofs.Math.Seq.{take-add}
use Rattle.std.proofs.lemmas.List.{length-take-le, drop-take, drop_all, drop_more}
use Rattle.pl_frame.specs.Dialect.{Marks, IsDialect}
use Rattle.pl_scan.specs.declared.summary.LineState.{LineState}
use Rattle.pl_scan.specs.declared.summary.LineState.TheVariants.{Start, Open}
use Rattle.pl_scan.specs.Laws.{IsEnded}
use Rattle.pl_scan.specs.LineCuts.{RiseTo, IsPieceEnd}
use Rattle.pl_scan.specs.LineStates.{after, summary_of, behind_piece}
use Rattle.pl_scan.specs.declared.summary.PieceSummary.{PieceSummary}
use Rattle.pl_scan.proofs.StateLaws.{after-append, after-nil}
use Rattle.pl_board.specs.Pieces.{Cut}
use Rattle.pl_board.specs.Log.{Setup, hand_outs}
use Rattle.pl_board.specs.States.{IsHandOut}
use Rattle.pl_board.proofs.HandOutLaws.{going_on}
use Rattle.pl_board.specs.LineStates.{states_from, states_before, IsBehindLineEnd}

-- ---- parts of a text

-- the last byte of a text with a front is that of what stands behind the front
last-behind : (o : Option ℕ) (f l : List ℕ) → 0 < length l → last_or o (f ++ l) ≡ last_or None l
last-behind o [] [] some = absurd (omega arith)
last-behind o [] (x ∷ l) some = refl
last-behind o (x ∷ f) l some = last-behind (Some x) f l some

-- what stands in front of an end: what stands in front of a place, and what stands between the two
pub take-to : (b : List ℕ) (from end : ℕ) → from ≤ end → take end b ≡ take from b ++ slice_range b from end
take-to b from end less = ap (λ n. take n b) (let same : end ≡ from + (end - from) = omega arith in same) ∙ take-add from (end - from) b

-- a part of a text that ends behind a line end ends with it
pub part-ended : (e : ℕ) (b : List ℕ) (from end : ℕ) → from < end → end ≤ length b → last_or None (take end b) ≡ Some e → last_or None (slice_range b from end) ≡ Some e
part-ended e b from end less within is =
    let size : length (take (end - from) (drop from b)) ≡ end - from = length-take-le (end - from) (drop from b) (omega (arith, length-drop from b)) in
    sym (last-behind None (take from b) (slice_range b from end) (omega arith)) ∙ ap (last_or None) (sym (take-to b from end (omega arith))) ∙ is

pub ended-is : (e : ℕ) (b : List ℕ) → last_or None b ≡ Some e → IsEnded e b
ended-is e [] is = absurd (cc)
ended-is e (x ∷ b) is = is

-- a prefix of a prefix
take-within : (n size : ℕ) (b : List ℕ) → n ≤ size → take n (take size b) ≡ take n b
take-within zero size b less = refl
take-within (suc n) zero b less = absurd (omega arith)
take-within (suc n) (suc size) [] less = refl
take-within (suc n) (suc size) (x ∷ b) less = ap (λ (l : List ℕ). x ∷ l) (take-within n size b (omega arith))

-- a part of a prefix is that part of the text
pub part-within : (b : List ℕ) (size from to : ℕ) → from ≤ to → to ≤ size → slice_range (take size b) from to ≡ slice_range b from to
part-within b size from to less within =
    ap (λ n. take (to - from) (drop from (take n b))) (let same : size ≡ from + (size - from) = omega arith in same)
    ∙ ap (take (to - from)) (drop-take from (size - from) b)
    ∙ take-within (to - from) (size - from) (drop from b) (omega arith)

-- ---- rising ends

pub rise-within : (size from : ℕ) (ends : List ℕ) → RiseTo size from ends → from ≤ size
rise-within size from [] rise = omega (arith, rise)
rise-within size from (end ∷ ends) rise = let later = rise-within size end ends rise.1 in omega (arith, rise.0, later)

-- an end that another one follows stands behind a line end
pub behind-line_end : (e : ℕ) (b : List ℕ) (from end next : ℕ) (ends : List ℕ) → RiseTo (length b) from (end ∷ next ∷ ends) → IsPieceEnd e b end → IsBehindLineEnd e b end
behind-line_end e b from end next ends rise (inl all) = let later = rise-within (length b) next ends rise.1.1 in absurd (omega (arith, all, rise.1.0, later))
behind-line_end e b from end next ends rise (inr is) = is

-- ---- one piece after the other

behind-summary : (m : Marks) (comment : Option (List ℕ)) (s : LineState) (b : List ℕ) → behind_piece (summary_of m comment b) s ≡ after m comment s b
behind-summary m comment Start b = refl
behind-summary m comment Open b = refl

-- the state behind a piece, from that in front of it
state-next : (m : Marks) (comment : Option (List ℕ)) (b : List ℕ) (from end : ℕ) → IsDialect m comment → from ≤ end → IsEnded m.line_end (take from b) → IsEnded m.line_end (slice_range b from end)
    → behind_piece (summary_of m comment (slice_range b from end)) (after m comment Start (take from b)) ≡ after m comment Start (take end b)
state-next m comment b from end dialect less front piece =
    behind-summary m comment (after m comment Start (take from b)) (slice_range b from end)
    ∙ sym (after-append m comment Start (take from b) (slice_range b from end) dialect.distinct dialect.prefix front piece)
    ∙ ap (after m comment Start) (sym (take-to b from end less))

-- so many states are found, and this is the next one, in front of the piece that begins at this place
pub record IsUpTo (m : Marks) (comment : Option (List ℕ)) (ends b : List ℕ) (number from : ℕ) (state : LineState) (states : List LineState) : Type 0 where
  pub so_far : states ++ states_from m comment from (drop number ends) b ≡ states_before m comment ends b
  pub state_is : state ≡ after m comment Start (take from b)
  pub ended : IsEnded m.line_end (take from b)
  pub rise : RiseTo (length b) from (drop number ends)
  pub behind : AllByRecursion (IsPieceEnd m.line_end b) (drop number ends)

pub up_to-start : (m : Marks) (comment : Option (List ℕ)) (ends b : List ℕ) (states : List LineState) → IsDialect m comment → RiseTo (length b) 0 ends → AllByRecursion (IsPieceEnd m.line_end b) ends → states ≡ []
    → IsUpTo m comment ends b 0 0 Start states
up_to-start m comment ends b states dialect rise behind none =
    record { so_far = ap (λ l. l ++ states_before m comment ends b) none; state_is = sym (after-nil m comment Start dialect.distinct); ended = refl; rise = rise; behind = behind }

-- the piece that is next, where another one follows it
pub record IsNextPiece (e : ℕ) (b : List ℕ) (from end : ℕ) : Type 0 where
  pub some : from < end
  pub within : end ≤ length b
  pub line_end : IsBehindLineEnd e b end
  pub ended : last_or None (slice_range b from end) ≡ Some e

next_from : (e : ℕ) (b : List ℕ) (from end next : ℕ) (ends : List ℕ) → RiseTo (length b) from (end ∷ next ∷ ends) → IsPieceEnd e b end → IsNextPiece e b from end
next_from e b from end next ends rise is =
    let within : end ≤ length b = rise-within (length b) end (next ∷ ends) rise.1 in
    let line = behind-line_end e b from end next ends rise is in
    record { some = rise.0; within = within; line_end = line; ended = part-ended e b from end rise.0 within line }

-- the ends from one on that another follows
two-left : (ends : List ℕ) (number : ℕ) → number + 1 < length ends → drop number ends ≡ get_or ends number 0 ∷ get_or ends (number + 1) 0 ∷ drop (number + 1 + 1) ends
two-left ends number inside =
    drop_more ends number 0 (omega arith) ∙ ap (λ (l : List ℕ). get_or ends number 0 ∷ l) (drop_more ends (number + 1) 0 inside)

pub up_to-piece : (m : Marks) (comment : Option (List ℕ)) (ends b : List ℕ) (number from : ℕ) (state : LineState) (states : List LineState) → IsUpTo m comment ends b number from state states
    → number + 1 < length ends → IsNextPiece m.line_end b from (get_or ends number 0)
up_to-piece m comment ends b number from state states is inside =
    let two = two-left ends number inside in
    let behind = subst (AllByRecursion (IsPieceEnd m.line_end b)) two is.behind in
    next_from m.line_end b from (get_or ends number 0) (get_or ends (number + 1) 0) (drop (number + 1 + 1) ends) (subst (RiseTo (length b) from) two is.rise) behind.0

up_to-next : (m : Marks) (comment : Option (List ℕ)) (ends b : List ℕ) (number from : ℕ) (state : LineState) (states : List LineState) → IsDialect m comment → IsUpTo m comment ends b number from state states
    → number + 1 < length ends
    → IsUpTo m comment ends b (number + 1) (get_or ends number 0) (behind_piece (summary_of m comment (slice_range b from (get_or ends number 0))) state) (states ++ state ∷ [])
up_to-next m comment ends b number from state states dialect is inside =
    let end = get_or ends number 0 in
    let piece = up_to-piece m comment ends b number from state states is inside in
    let less = piece.some in
    let one : drop number ends ≡ end ∷ drop (number + 1) ends = drop_more ends number 0 (omega arith) in
    let behind = subst (AllByRecursion (IsPieceEnd m.line_end b)) one is.behind in
    let rise = subst (RiseTo (length b) from) one is.rise in
    record {
      so_far = append_assoc states (state ∷ []) (states_from m comment end (drop (number + 1) ends) b)
          ∙ ap (λ s. states ++ s ∷ states_from m comment end (drop (number + 1) ends) b) is.state_is
          ∙ ap (λ l. states ++ states_from m comment from l b) (sym one)
          ∙ is.so_far;
      state_is = ap (behind_piece (summary_of m comment (slice_range b from end))) is.state_is
          ∙ state-next m comment b from end dialect (omega arith) is.ended (ended-is m.line_end (slice_range b from end) piece.ended);
      ended = ended-is m.line_end (take end b) piece.line_end;
      rise = rise.1;
      behind = behind.1;
    }

-- one turn of a loop over the pieces
pub up_to-turn : (m : Marks) (comment : Option (List ℕ)) (ends b : List ℕ) (number from : ℕ) (state : LineState) (states : List LineState) (summary : PieceSummary) (next : LineState) (now : List LineState)
    → IsDialect m comment → IsUpTo m comment ends b number from state states → number + 1 < length ends → summary ≡ summary_of m comment (slice_range b from (get_or ends number 0))
    → next ≡ behind_piece summary state → now ≡ states ++ state ∷ [] → IsUpTo m comment ends b (number + 1) (get_or ends number 0) next now
up_to-turn m comment ends b number from state states summary next now dialect is inside found behind more =
    subst (λ s. IsUpTo m comment ends b (number + 1) (get_or ends number 0) s now) (sym (behind ∙ ap (λ s. behind_piece s state) found))
    (subst (λ l. IsUpTo m comment ends b (number + 1) (get_or ends number 0) (behind_piece (summary_of m comment (slice_range b from (get_or ends number 0))) state) l) (sym more)
    (up_to-next m comment ends b number from state states dialect is inside))

-- the last state
pub up_to-end : (m : Marks) (comment : Option (List ℕ)) (ends b : List ℕ) (number from : ℕ) (state : LineState) (states now : List LineState) → IsUpTo m comment ends b number from state states
    → number + 1 ≡ length ends → now ≡ states ++ state ∷ [] → now ≡ states_before m comment ends b
up_to-end m comment ends b number from state states now is last more =
    let one : drop number ends ≡ get_or ends number 0 ∷ [] = drop_more ends number 0 (omega arith) ∙ ap (λ (l : List ℕ). get_or ends number 0 ∷ l) (drop_all (number + 1) ends (omega arith)) in
    more ∙ ap (λ (s : LineState). states ++ s ∷ []) is.state_is ∙ ap (λ l. states ++ states_from m comment from l b) (sym one) ∙ is.so_far

-- ---- all pieces but the last

-- the first ends rise to the last of them
front-rise : (size from : ℕ) (ends : List ℕ) (k : ℕ) → RiseTo size from ends → k < length ends → RiseTo (get_or ends k 0) from (take (suc k) ends)
front-rise size from [] k rise inside = absurd (omega arith)
front-rise size from (end ∷ ends) zero rise inside = (rise.0, refl)
front-rise size from (end ∷ ends) (suc k) rise inside = (rise.0, front-rise size end ends k rise.1 (omega arith))

end-within : (size from : ℕ) (ends : List ℕ) (k : ℕ) → RiseTo size from ends → k < length ends → (from < get_or ends k 0) × (get_or ends k 0 ≤ size)
end-within size from [] k rise inside = absurd (omega arith)
end-within size from (end ∷ ends) zero rise inside = (rise.0, rise-within size end ends rise.1)
end-within size from (end ∷ ends) (suc k) rise inside =
    let deeper = end-within size end ends k rise.1 (omega arith) in
    (omega (arith, rise.0, deeper.0), deeper.1)

first-within : (size from end : ℕ) (ends : List ℕ) (k : ℕ) → RiseTo size from (end ∷ ends) → k < suc (length ends) → end ≤ get_or (end ∷ ends) k 0
first-within size from end ends zero rise inside = omega arith
first-within size from end ends (suc k) rise inside = let deeper = end-within size end ends k rise.1 (omega arith) in omega (arith, deeper.0)

-- an end that another one follows stands behind a line end in any prefix that it lies in
front-line : (e : ℕ) (b : List ℕ) (from end next : ℕ) (ends : List ℕ) (k : ℕ) → RiseTo (length b) from (end ∷ next ∷ ends) → IsPieceEnd e b end → k < length (end ∷ next ∷ ends)
    → IsBehindLineEnd e (take (get_or (end ∷ next ∷ ends) k 0) b) end
front-line e b from end next ends k rise is inside =
    ap (last_or None) (take-within end (get_or (end ∷ next ∷ ends) k 0) b (first-within (length b) from end (next ∷ ends) k rise (omega arith)))
    ∙ behind-line_end e b from end next ends rise is

-- and each of them stands behind a line end, where another one follows them
front-behind : (e : ℕ) (b : List ℕ) (from : ℕ) (ends : List ℕ) (k : ℕ) → RiseTo (length b) from ends → AllByRecursion (IsPieceEnd e b) ends → suc k < length ends
    → AllByRecursion (IsBehindLineEnd e (take (get_or ends k 0) b)) (take (suc k) ends)
front-behind e b from [] k rise behind inside = absurd (omega arith)
front-behind e b from (end ∷ []) k rise behind inside = absurd (omega arith)
front-behind e b from (end ∷ next ∷ ends) zero rise behind inside = (front-line e b from end next ends 0 rise behind.0 (omega arith), tt)
front-behind e b from (end ∷ next ∷ ends) (suc k) rise behind inside =
    (front-line e b from end next ends (suc k) rise behind.0 (omega arith), front-behind e b end (next ∷ ends) k rise.1 behind.1 (omega arith))

-- the ends of all pieces but the last, in the text that ends where the last of them does
pub record IsFront (e : ℕ) (b : List ℕ) (k : ℕ) (ends : List ℕ) : Type 0 where
  pub size : length (take k b) ≡ k
  pub rise : RiseTo (length (take k b)) 0 ends
  pub behind : AllByRecursion (IsBehindLineEnd e (take k b)) ends

pub front-is : (e : ℕ) (ends b kept : List ℕ) → 1 < length ends → RiseTo (length b) 0 ends → AllByRecursion (IsPieceEnd e b) ends → kept ≡ take (length ends - 1) ends
    → IsFront e b (get_or ends (length ends - 1 - 1) 0) kept
front-is e ends b kept some rise behind is =
    let k = length ends - 1 - 1 in
    let same : take (suc k) ends ≡ kept = ap (λ n. take n ends) (let count : suc k ≡ length ends - 1 = omega arith in count) ∙ sym is in
    let size : length (take (get_or ends k 0) b) ≡ get_or ends k 0 = length-take-le (get_or ends k 0) b (end-within (length b) 0 ends k rise (omega arith)).1 in
    record {
      size = size;
      rise = subst (λ n. RiseTo n 0 kept) (sym size) (subst (RiseTo (get_or ends k 0) 0) same (front-rise (length b) 0 ends k rise (omega arith)));
      behind = subst (AllByRecursion (IsBehindLineEnd e (take (get_or ends k 0) b))) same (front-behind e b 0 ends k rise behind (omega arith));
    }

-- ---- what a board hands out

all-at : (P : ℕ → Type 0) (xs : List ℕ) (n : ℕ) → AllByRecursion P xs → n < length xs → P (get_or xs n 0)
all-at P [] n all inside = absurd (omega arith)
all-at P (x ∷ xs) zero all inside = all.0
all-at P (x ∷ xs) (suc n) all inside = all-at P xs n all.1 (omega arith)

-- a piece of a board whose ends all stand behind line ends ends with one
pub handed-out-ended : (e : ℕ) (setup : Setup) (piece : Cut) → AllByRecursion (IsBehindLineEnd e setup.bytes) setup.ends → IsHandOut setup piece → piece.from < piece.to → piece.to ≤ length setup.bytes
    → piece.text ≡ slice_range setup.bytes piece.from piece.to → last_or None piece.text ≡ Some e
handed-out-ended e setup piece behind is some within text =
    let end = get_or setup.ends (length (hand_outs is.log)) 0 in
    let to : piece.to ≡ end = ap (λ (p : Cut). p.to) is.next in
    let line = subst (IsBehindLineEnd e setup.bytes) (sym to) (all-at (IsBehindLineEnd e setup.bytes) setup.ends (length (hand_outs is.log)) behind (going_on setup is.log is.unfinished)) in
    ap (last_or None) text ∙ part-ended e setup.bytes piece.from piece.to some within line
