-- The ranges between pieces that begin at the start of an item.
use Rattle.std.proofs.Common.{Vec, Global, ◌≡◌, ℕ, ◌+◌, ◌<◌, ◌≤◌, Bool, true, false, cond, List, [], ◌∷◌, ◌++◌, length, take, drop, get_or, append_assoc, append-nil, refl, sym, ◌∙◌, ap, subst, arith}
use Rattle.std.specs.Prelude.{Option, Result, Ok, Err, IfOk, slice_range}
use Rattle.std.specs.List.{AllByRecursion}
use Rattle.std.proofs.lemmas.List.{drop_all, drop_more}
use Rattle.pl_frame.specs.Dialect.{Marks, IsDialect}
use Rattle.pl_scan.specs.declared.summary.LineState.{LineState}
use Rattle.pl_scan.specs.declared.summary.LineState.TheVariants.{Start, Open}
use Rattle.pl_scan.specs.Laws.{IsEnded}
use Rattle.pl_scan.specs.LineCuts.{RiseTo, IsPieceEnd}
use Rattle.pl_scan.specs.LineStates.{after}
use Rattle.pl_scan.specs.PieceLaws.{IsRange}
use Rattle.pl_scan.proofs.StateLaws.{after-nil, range-between}
use Rattle.pl_board.specs.Pieces.{piece_texts}
use Rattle.pl_board.specs.LineStates.{states_from, states_before, IsBehindLineEnd}
use Rattle.pl_board.specs.Ranges.{begins_item, range_ends, but_last, AreRanges}
use Rattle.pl_board.proofs.LineStateLaws.{take-to, part-ended, ended-is, rise-within, behind-line_end}

pub length-states : (m : Marks) (comment : Option (List ℕ)) (from : ℕ) (ends b : List ℕ) → length (states_from m comment from ends b) ≡ length ends
length-states m comment from [] b = refl
length-states m comment from (end ∷ ends) b = let deeper = length-states m comment end ends b in omega arith

-- ends that rise from one place rise from any place before it, where there is one
rise-earlier : (size from begin : ℕ) (ends : List ℕ) → begin ≤ from → 0 < length ends → RiseTo size from ends → RiseTo size begin ends
rise-earlier size from begin [] less some rise = absurd (omega arith)
rise-earlier size from begin (end ∷ ends) less some rise = (omega (arith, rise.0), rise.1)

-- where no range ends there are further pieces
more-follow : (states : List LineState) → begins_item states ≡ false → 0 < length states
more-follow [] none = absurd (cc)
more-follow (s ∷ states) none = omega arith

-- ---- they rise as the ends of the pieces do

pub ranges-rise : (size from : ℕ) (ends : List ℕ) (states : List LineState) → length states ≡ length ends → RiseTo size from ends → RiseTo size from (range_ends ends states)
ranges-rise size from [] states same rise = rise
ranges-rise size from (end ∷ ends) [] same rise = absurd (omega arith)
ranges-rise size from (end ∷ ends) (state ∷ states) same rise =
    by_test (begins_item states) refl (ranges-rise size end ends states (omega arith) rise.1)
    (λ some. ranges-rise size from ends states (omega arith) (rise-earlier size end from ends (omega (arith, rise.0)) some rise.1))
  where
    by_test : (t : Bool) → begins_item states ≡ t → RiseTo size end (range_ends ends states) → (0 < length ends → RiseTo size from (range_ends ends states))
        → RiseTo size from (cond t (end ∷ range_ends ends states) (range_ends ends states))
    by_test true is here later = (rise.0, here)
    by_test false is here later = let more = more-follow states is in later (omega arith)

-- ---- a loop over the pieces

range_ends-step : (ends : List ℕ) (states : List LineState) (n : ℕ) → n < length ends → length states ≡ length ends
    → range_ends (drop n ends) (drop n states) ≡ cond (begins_item (drop (n + 1) states)) (get_or ends n 0 ∷ range_ends (drop (n + 1) ends) (drop (n + 1) states)) (range_ends (drop (n + 1) ends) (drop (n + 1) states))
range_ends-step ends states n inside same =
    let within : n < length states = omega arith in
    ap (λ l. range_ends l (drop n states)) (drop_more ends n 0 inside) ∙ ap (λ l. range_ends (get_or ends n 0 ∷ drop (n + 1) ends) l) (drop_more states n Start within)

-- behind a piece at which a range ends
pub kept-one : (ends : List ℕ) (states : List LineState) (n : ℕ) (kept now : List ℕ) → n < length ends → length states ≡ length ends → begins_item (drop (n + 1) states) ≡ true → now ≡ kept ++ get_or ends n 0 ∷ []
    → kept ++ range_ends (drop n ends) (drop n states) ≡ range_ends ends states → now ++ range_ends (drop (n + 1) ends) (drop (n + 1) states) ≡ range_ends ends states
kept-one ends states n kept now inside same begins more so_far =
    let later = range_ends (drop (n + 1) ends) (drop (n + 1) states) in
    ap (λ l. l ++ later) more
    ∙ append_assoc kept (get_or ends n 0 ∷ []) later
    ∙ ap (λ t. kept ++ cond t (get_or ends n 0 ∷ later) later) (sym begins)
    ∙ ap (λ l. kept ++ l) (sym (range_ends-step ends states n inside same))
    ∙ so_far

-- and behind any other one
pub kept-none : (ends : List ℕ) (states : List LineState) (n : ℕ) (kept now : List ℕ) → n < length ends → length states ≡ length ends → begins_item (drop (n + 1) states) ≡ false → now ≡ kept
    → kept ++ range_ends (drop n ends) (drop n states) ≡ range_ends ends states → now ++ range_ends (drop (n + 1) ends) (drop (n + 1) states) ≡ range_ends ends states
kept-none ends states n kept now inside same begins more so_far =
    let later = range_ends (drop (n + 1) ends) (drop (n + 1) states) in
    ap (λ l. l ++ later) more
    ∙ ap (λ t. kept ++ cond t (get_or ends n 0 ∷ later) later) (sym begins)
    ∙ ap (λ l. kept ++ l) (sym (range_ends-step ends states n inside same))
    ∙ so_far

pub kept-all : (ends : List ℕ) (states : List LineState) (n : ℕ) (kept : List ℕ) → length ends ≤ n → kept ++ range_ends (drop n ends) (drop n states) ≡ range_ends ends states → kept ≡ range_ends ends states
kept-all ends states n kept past so_far = sym (append-nil kept) ∙ ap (λ l. kept ++ range_ends l (drop n states)) (sym (drop_all n ends past)) ∙ so_far

-- ---- each but the last is a range

some-end : (ends : List ℕ) (states : List LineState) → length states ≡ length ends → 0 < length ends → 0 < length (range_ends ends states)
some-end [] states same some = absurd (omega arith)
some-end (end ∷ ends) [] same some = absurd (omega arith)
some-end (end ∷ ends) (state ∷ states) same some = by_test (begins_item states) refl (λ more. some-end ends states (omega arith) more)
  where
    by_test : (t : Bool) → begins_item states ≡ t → (0 < length ends → 0 < length (range_ends ends states)) → 0 < length (cond t (end ∷ range_ends ends states) (range_ends ends states))
    by_test true is later = omega arith
    by_test false is later = let more = more-follow states is in later (omega arith)

but_last-cons : (x : ℕ) (xs : List ℕ) → 0 < length xs → but_last (x ∷ xs) ≡ x ∷ but_last xs
but_last-cons x [] some = absurd (omega arith)
but_last-cons x (y ∷ xs) some = refl

-- the texts between the ends of ranges, but for the last one
abbrev inner : ℕ → List ℕ → List ℕ → List (List ℕ)
inner begin ends b = piece_texts begin (but_last ends) b

ranges_from : (m : Marks) (comment : Option (List ℕ)) (begin from : ℕ) (ends b : List ℕ) → IsDialect m comment → begin ≤ from → after m comment Start (take begin b) ≡ Start → IsEnded m.line_end (take begin b)
    → RiseTo (length b) from ends → AllByRecursion (IsPieceEnd m.line_end b) ends
    → AllByRecursion (IsRange m comment) (inner begin (range_ends ends (states_from m comment from ends b)) b)
ranges_from m comment begin from [] b dialect less start ended rise behind = tt
ranges_from m comment begin from (end ∷ []) b dialect less start ended rise behind = tt
ranges_from m comment begin from (end ∷ next ∷ ends) b dialect less start ended rise behind =
    by_state (after m comment Start (take end b)) refl
    (λ is. ranges_from m comment end end (next ∷ ends) b dialect (omega arith) is (ended-is m.line_end (take end b) line) rise.1 behind.1)
    (ranges_from m comment begin end (next ∷ ends) b dialect (omega (arith, rise.0)) start ended rise.1 behind.1)
  where
    rest : List LineState
    rest = states_from m comment next ends b

    now : LineState
    now = after m comment Start (take end b)

    kept : List ℕ
    kept = range_ends (next ∷ ends) (now ∷ rest)

    line : IsBehindLineEnd m.line_end b end
    line = behind-line_end m.line_end b from end next ends rise behind.0

    by_state : (t : LineState) → now ≡ t → (now ≡ Start → AllByRecursion (IsRange m comment) (inner end kept b)) → AllByRecursion (IsRange m comment) (inner begin kept b)
        → AllByRecursion (IsRange m comment) (inner begin (cond (begins_item (now ∷ rest)) (end ∷ kept) kept) b)
    by_state Start is here later =
        let within : end ≤ length b = rise-within (length b) end (next ∷ ends) rise.1 in
        let piece : IsEnded m.line_end (slice_range b begin end) = ended-is m.line_end (slice_range b begin end) (part-ended m.line_end b begin end (omega (arith, rise.0)) within line) in
        let both : after m comment Start (take begin b ++ slice_range b begin end) ≡ Start = ap (after m comment Start) (sym (take-to b begin end (omega (arith, rise.0)))) ∙ is in
        let range : IsRange m comment (slice_range b begin end) =
        record { ended = piece; start = range-between m comment (take begin b) (slice_range b begin end) dialect.distinct dialect.prefix ended piece start both } in
        let some = some-end (next ∷ ends) (now ∷ rest) (omega (arith, length-states m comment next ends b)) (omega arith) in
        subst (λ (l : List ℕ). AllByRecursion (IsRange m comment) (inner begin l b)) (ap (λ (t : LineState). cond (begins_item (t ∷ rest)) (end ∷ kept) kept) (sym is))
        (subst (λ (l : List ℕ). AllByRecursion (IsRange m comment) (piece_texts begin l b)) (sym (but_last-cons end kept some)) (range, here is))
    by_state Open is here later =
        subst (λ (l : List ℕ). AllByRecursion (IsRange m comment) (inner begin l b)) (ap (λ (t : LineState). cond (begins_item (t ∷ rest)) (end ∷ kept) kept) (sym is)) later

pub are-ranges : (m : Marks) (comment : Option (List ℕ)) (ends b : List ℕ) → IsDialect m comment → RiseTo (length b) 0 ends → AllByRecursion (IsPieceEnd m.line_end b) ends
    → AreRanges m comment (range_ends ends (states_before m comment ends b)) b
are-ranges m comment ends b dialect rise behind = ranges_from m comment 0 0 ends b dialect (omega arith) (after-nil m comment Start dialect.distinct) refl rise behind

-- ---- a caller that goes by copies of the ends and of the states

pub same-length : (m : Marks) (comment : Option (List ℕ)) (ends b first second : List ℕ) (states found : List LineState) → first ≡ ends → second ≡ ends → states ≡ found → found ≡ states_before m comment first b
    → length states ≡ length second
same-length m comment ends b first second states found one two same are = ap length same ∙ ap length are ∙ length-states m comment 0 first b ∙ ap length one ∙ sym (ap length two)

pub ok-ranges : {E : Type 0} (m : Marks) (comment : Option (List ℕ)) (ends b first second : List ℕ) (states found : List LineState) (r : Result (Vec ℕ Global) E) → IsDialect m comment → RiseTo (length b) 0 ends
    → AllByRecursion (IsPieceEnd m.line_end b) ends → first ≡ ends → second ≡ ends → states ≡ found → found ≡ states_before m comment first b → IfOk r (λ kept. kept.items ≡ range_ends second states)
    → IfOk r (λ kept. AreRanges m comment kept.items b)
ok-ranges m comment ends b first second states found (Ok kept) dialect rise behind one two same are told =
    let value : range_ends second states ≡ range_ends ends (states_before m comment ends b) =
    ap (λ l. range_ends l states) two ∙ ap (range_ends ends) (same ∙ are ∙ ap (λ l. states_before m comment l b) one) in
    subst (λ l. AreRanges m comment l b) (sym (told ∙ value)) (are-ranges m comment ends b dialect rise behind)
ok-ranges m comment ends b first second states found (Err e) dialect rise behind one two same are told = tt
