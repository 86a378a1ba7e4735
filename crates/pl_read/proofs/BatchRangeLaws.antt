-- The first range of a text.
use Rattle.std.proofs.Common.{◌≡◌, ℕ, zero, suc, ◌+◌, ◌<◌, ◌≤◌, Bool, true, false, List, [], ◌∷◌, ◌++◌, length, take, drop, refl, sym, ◌∙◌, ap, subst, zero-add, arith, length-drop, append_assoc, ◌⊎◌, inl, inr}
use Rattle.std.specs.Prelude.{None, Some}
use Rattle.std.specs.List.{last_or}
use Rattle.std.proofs.lemmas.List.{drop_all, drop-drop, length-take-le}
use Rattle.pl_frame.specs.Dialect.{IsDialect}
use Rattle.pl_board.proofs.LineStateLaws.{ended-is, rise-within}
use Rattle.pl_options.specs.declared.read_options.CsvReadOptions.{CsvReadOptions}
use Rattle.pl_options.specs.Text.{marks_of, comment_of}
use Rattle.pl_scan.specs.Closing.{ends_open}
use Rattle.pl_scan.specs.Fields.{cut_at}
use Rattle.pl_scan.specs.Laws.{IsEnded}
use Rattle.pl_scan.specs.LineCuts.{cut_piece, piece_ends}
use Rattle.pl_scan.specs.LineStates.{state_if, after}
use Rattle.pl_scan.specs.declared.summary.LineState.{LineState}
use Rattle.pl_scan.specs.declared.summary.LineState.TheVariants.{Start, Open}
use Rattle.pl_scan.proofs.PieceEndLaws.{ends-rise, ends-behind}
use Rattle.pl_scan.proofs.StateLaws.{after-nil, after-append, ended-append}
use Rattle.pl_read.specs.Batches.{EndsAtItem, piece_length, behind_first, more_if_open, to_start_within, range_length}

-- ---- the first piece

-- it is not empty, and is all of the text or ended by a line end
pub record IsPiece (o : CsvReadOptions) (text : List ℕ) : Type 0 where
  pub some : 0 < piece_length o text
  pub fits : piece_length o text ≤ length text
  pub ended : (piece_length o text ≡ length text) ⊎ (last_or None (take (piece_length o text) text) ≡ Some o.parse_options.eol_char)

pub piece-is : (o : CsvReadOptions) (text : List ℕ) → 0 < o.chunk_size → 0 < length text → IsPiece o text
unfolding piece_ends
piece-is o [] size some = absurd (omega arith)
piece-is o (x ∷ xs) size some =
    let e = o.parse_options.eol_char in
    let rise = ends-rise e o.chunk_size (x ∷ xs) size in
    let behind = ends-behind e o.chunk_size (x ∷ xs) size in
    record { some = rise.0; fits = rise-within _ _ _ rise.1; ended = behind.0 }

-- its length, by a cut
pub piece-value : (o : CsvReadOptions) (text : List ℕ) (k : ℕ) → k ≤ length text → cut_piece o.parse_options.eol_char o.chunk_size text ≡ cut_at k text → k ≡ piece_length o text
piece-value o text k fits is = sym (ap (λ (c : List ℕ × List ℕ). length c.0) is ∙ length-take-le k text fits)

-- ---- the pieces up to a state of Start

-- any count that lasts
enough : (o : CsvReadOptions) (i j : ℕ) (state : LineState) (text : List ℕ) → 0 < o.chunk_size → length text ≤ i → length text ≤ j → to_start_within o i state text ≡ to_start_within o j state text
enough o zero zero state text size h g = refl
enough o zero (suc j) state [] size h g = refl
enough o zero (suc j) state (x ∷ xs) size h g = absurd (omega arith)
enough o (suc i) zero state [] size h g = refl
enough o (suc i) zero state (x ∷ xs) size h g = absurd (omega arith)
enough o (suc i) (suc j) state [] size h g = refl
enough o (suc i) (suc j) state (x ∷ xs) size h g =
    let first = piece_length o (x ∷ xs) in
    let some = (piece-is o (x ∷ xs) size (omega arith)).some in
    let left = length-drop first (x ∷ xs) in
    ap (λ l. first + more_if_open (behind_first o state (x ∷ xs)) l) (enough o i j Open (drop first (x ∷ xs)) size (omega arith) (omega arith))

-- how many bytes they have
abbrev pub to_start : CsvReadOptions → LineState → List ℕ → ℕ
to_start o state text = to_start_within o (length text) state text

to_start-step : (o : CsvReadOptions) (state : LineState) (text : List ℕ) → 0 < o.chunk_size → 0 < length text
    → to_start o state text ≡ piece_length o text + more_if_open (behind_first o state text) (to_start o Open (drop (piece_length o text) text))
to_start-step o state [] size some = absurd (omega arith)
to_start-step o state (x ∷ xs) size some =
    let first = piece_length o (x ∷ xs) in
    let more = (piece-is o (x ∷ xs) size some).some in
    let left = length-drop first (x ∷ xs) in
    ap (λ l. first + more_if_open (behind_first o state (x ∷ xs)) l) (enough o (length xs) (length (drop first (x ∷ xs))) Open (drop first (x ∷ xs)) size (omega arith) (omega arith))

none-more : (state : LineState) (more : ℕ) → more ≡ 0 → more_if_open state more ≡ 0
none-more Start more none = refl
none-more Open more none = none

-- the first piece is all
pub to_start-all : (o : CsvReadOptions) (state : LineState) (text : List ℕ) → 0 < o.chunk_size → 0 < length text → piece_length o text ≡ length text → to_start o state text ≡ piece_length o text
to_start-all o state text size some all =
    let none : to_start o Open (drop (piece_length o text) text) ≡ 0 = ap (to_start o Open) (drop_all (piece_length o text) text (omega arith)) in
    to_start-step o state text size some ∙ omega (arith, none-more (behind_first o state text) _ none)

-- the state behind it is Start
pub to_start-here : (o : CsvReadOptions) (state : LineState) (text : List ℕ) → 0 < o.chunk_size → 0 < length text → behind_first o state text ≡ Start → to_start o state text ≡ piece_length o text
to_start-here o state text size some is =
    to_start-step o state text size some ∙ ap (λ s. piece_length o text + more_if_open s (to_start o Open (drop (piece_length o text) text))) is ∙ omega arith

-- or Open
pub to_start-later : (o : CsvReadOptions) (state : LineState) (text : List ℕ) → 0 < o.chunk_size → 0 < length text → behind_first o state text ≡ Open
    → to_start o state text ≡ piece_length o text + to_start o Open (drop (piece_length o text) text)
to_start-later o state text size some is =
    to_start-step o state text size some ∙ ap (λ s. piece_length o text + more_if_open s (to_start o Open (drop (piece_length o text) text))) is

-- ---- where they end

take-none : {X : Type 0} (k : ℕ) → take {A = X} k [] ≡ []
take-none zero = refl
take-none (suc k) = refl

pub split-take : {X : Type 0} (n k : ℕ) (xs : List X) → take (n + k) xs ≡ take n xs ++ take k (drop n xs)
split-take zero k xs = ap (λ j. take j xs) (zero-add k)
split-take {X = X} (suc n) k [] = take-none {X = X} (suc n + k) ∙ sym (take-none {X = X} k)
split-take (suc n) k (x ∷ xs) =
    let more : suc n + k ≡ suc (n + k) = omega arith in
    ap (λ j. take j (x ∷ xs)) more ∙ ap (λ l. x ∷ l) (split-take n k xs)

-- a scan that ends at the start of an item
closed : (o : CsvReadOptions) (text : List ℕ) → after (marks_of o.parse_options) (comment_of o.parse_options) Start text ≡ Start → ends_open (marks_of o.parse_options) (comment_of o.parse_options) text ≡ false
unfolding after
closed o text start = by_test (ends_open (marks_of o.parse_options) (comment_of o.parse_options) text) start
  where
    by_test : (t : Bool) → state_if t ≡ Start → t ≡ false
    by_test true h = absurd (cc)
    by_test false h = refl

-- the end of the text, or where an item ends; by what stands before the text
to_start-ends : (o : CsvReadOptions) (k : ℕ) (state : LineState) (front text : List ℕ) → IsDialect (marks_of o.parse_options) (comment_of o.parse_options) → 0 < o.chunk_size → length text < k
    → IsEnded o.parse_options.eol_char front → after (marks_of o.parse_options) (comment_of o.parse_options) Start front ≡ state
    → (to_start o state text ≡ length text) ⊎ EndsAtItem o (front ++ take (to_start o state text) text)
to_start-ends o zero state front text dialect size h ended is = absurd (omega arith)
to_start-ends o (suc k) state front [] dialect size h ended is = inl refl
to_start-ends o (suc k) state front (x ∷ xs) dialect size h ended is =
    elim piece.ended [ inl all ↦ inl (to_start-all o state b size some all ∙ all) | inr line ↦ by_state (behind_first o state b) refl line (λ front_ended later. to_start-ends o k Open (front ++ take first b) (drop first b) dialect size shorter front_ended later) ]
  where
    b : List ℕ
    b = x ∷ xs

    some : 0 < length b
    some = omega arith

    piece : IsPiece o b
    piece = piece-is o b size some

    first : ℕ
    first = piece_length o b

    shorter : length (drop first b) < k
    shorter = omega (arith, piece.some, length-drop first b)

    Ends : LineState → List ℕ → List ℕ → Type 0
    Ends s before after_it = (to_start o s after_it ≡ length after_it) ⊎ EndsAtItem o (before ++ take (to_start o s after_it) after_it)

    both : last_or None (take first b) ≡ Some o.parse_options.eol_char → after (marks_of o.parse_options) (comment_of o.parse_options) Start (front ++ take first b) ≡ behind_first o state b
    both line =
        after-append (marks_of o.parse_options) (comment_of o.parse_options) Start front (take first b) dialect.distinct dialect.prefix ended (ended-is o.parse_options.eol_char (take first b) line)
        ∙ ap (λ s. after (marks_of o.parse_options) (comment_of o.parse_options) s (take first b)) is

    by_state : (t : LineState) → behind_first o state b ≡ t → last_or None (take first b) ≡ Some o.parse_options.eol_char
        → (IsEnded o.parse_options.eol_char (front ++ take first b) → after (marks_of o.parse_options) (comment_of o.parse_options) Start (front ++ take first b) ≡ Open → Ends Open (front ++ take first b) (drop first b))
        → Ends state front b
    by_state Start here line deeper =
        let ends : EndsAtItem o (front ++ take first b) = record {
          ended = ended-append o.parse_options.eol_char front (take first b) ended (ended-is o.parse_options.eol_char (take first b) line);
          closed = closed o (front ++ take first b) (both line ∙ here);
        } in
        inr (subst (λ j. EndsAtItem o (front ++ take j b)) (sym (to_start-here o state b size some here)) ends)
    by_state Open here line deeper =
        let more = to_start o Open (drop first b) in
        let length_is : to_start o state b ≡ first + more = to_start-later o state b size some here in
        let left = length-drop first b in
        let first_some = piece.some in
        let first_fits = piece.fits in
        let whole : (front ++ take first b) ++ take more (drop first b) ≡ front ++ take (to_start o state b) b =
        append_assoc front (take first b) (take more (drop first b)) ∙ ap (λ l. front ++ l) (sym (split-take first more b) ∙ ap (λ j. take j b) (sym length_is)) in
        elim (deeper (ended-append o.parse_options.eol_char front (take first b) ended (ended-is o.parse_options.eol_char (take first b) line)) (both line ∙ here)) [
          | inl all ↦ inl (omega (arith, all, length_is, left, first_fits))
          | inr item ↦ inr (subst (EndsAtItem o) whole item)
        ]

to_start-fits : (o : CsvReadOptions) (k : ℕ) (state : LineState) (text : List ℕ) → 0 < o.chunk_size → length text < k → to_start o state text ≤ length text
to_start-fits o zero state text size h = absurd (omega arith)
to_start-fits o (suc k) state [] size h = omega arith
to_start-fits o (suc k) state (x ∷ xs) size h =
    let piece = piece-is o (x ∷ xs) size (omega arith) in
    let first = piece_length o (x ∷ xs) in
    by_state (behind_first o state (x ∷ xs)) refl piece (to_start-fits o k Open (drop first (x ∷ xs)) size (omega (arith, piece.some, length-drop first (x ∷ xs))))
  where
    by_state : (t : LineState) → behind_first o state (x ∷ xs) ≡ t → IsPiece o (x ∷ xs) → to_start o Open (drop (piece_length o (x ∷ xs)) (x ∷ xs)) ≤ length (drop (piece_length o (x ∷ xs)) (x ∷ xs))
        → to_start o state (x ∷ xs) ≤ length (x ∷ xs)
    by_state Start here piece deeper = omega (arith, piece.fits, to_start-here o state (x ∷ xs) size (omega arith) here)
    by_state Open here piece deeper =
        omega (arith, piece.some, piece.fits, to_start-later o state (x ∷ xs) size (omega arith) here, length-drop (piece_length o (x ∷ xs)) (x ∷ xs), deeper)

-- the first range of a text is not empty, and is all of it or ends where an item does
pub record IsFirstRange (o : CsvReadOptions) (text : List ℕ) : Type 0 where
  pub some : 0 < length text → 0 < range_length o text
  pub fits : range_length o text ≤ length text
  pub ends : (range_length o text ≡ length text) ⊎ EndsAtItem o (take (range_length o text) text)

pub range-is : (o : CsvReadOptions) (text : List ℕ) → IsDialect (marks_of o.parse_options) (comment_of o.parse_options) → 0 < o.chunk_size → IsFirstRange o text
range-is o text dialect size = record {
  some = λ some. (let piece = (piece-is o text size some).some in omega (arith, to_start-step o Start text size some));
  fits = to_start-fits o (suc (length text)) Start text size (omega arith);
  ends = to_start-ends o (suc (length text)) Start [] text dialect size (omega arith) refl (after-nil (marks_of o.parse_options) (comment_of o.parse_options) Start dialect.distinct);
}

-- ---- a loop over the pieces of the first range

-- so many bytes of it stand before a place, which a scan comes to in this state
pub record IsUpTo (o : CsvReadOptions) (text : List ℕ) (state : LineState) (len : ℕ) : Type 0 where
  pub within : len ≤ length text
  pub size : range_length o text ≡ len + to_start o state (drop len text)

pub up_to-start : (o : CsvReadOptions) (text : List ℕ) → IsUpTo o text Start 0
up_to-start o text = record { within = omega arith; size = sym (zero-add (range_length o text)) }

pub up_to-all : (o : CsvReadOptions) (text : List ℕ) (state : LineState) (from k : ℕ) → 0 < o.chunk_size → IsUpTo o text state from → from < length text → k ≡ piece_length o (drop from text) → from + k ≡ length text
    → from + k ≡ range_length o text
up_to-all o text state from k size so_far inside is all =
    let left = length-drop from text in
    omega (arith, so_far.size, is, to_start-all o state (drop from text) size (omega arith) (omega arith))

-- the state behind the first piece of what is left
state-first : (o : CsvReadOptions) (state next : LineState) (text : List ℕ) (k : ℕ) → k ≡ piece_length o text → next ≡ after (marks_of o.parse_options) (comment_of o.parse_options) state (take k text) → behind_first o state text ≡ next
state-first o state next text k is behind = ap (λ j. after (marks_of o.parse_options) (comment_of o.parse_options) state (take j text)) (sym is) ∙ sym behind

pub up_to-here : (o : CsvReadOptions) (text : List ℕ) (state next : LineState) (from k : ℕ) → 0 < o.chunk_size → IsUpTo o text state from → from < length text → k ≡ piece_length o (drop from text)
    → next ≡ after (marks_of o.parse_options) (comment_of o.parse_options) state (take k (drop from text)) → next ≡ Start → from + k ≡ range_length o text
up_to-here o text state next from k size so_far inside is behind here =
    let left = length-drop from text in
    let start : behind_first o state (drop from text) ≡ Start = state-first o state next (drop from text) k is behind ∙ here in
    omega (arith, so_far.size, is, to_start-here o state (drop from text) size (omega arith) start)

pub up_to-next : (o : CsvReadOptions) (text : List ℕ) (state next : LineState) (from k : ℕ) → 0 < o.chunk_size → IsUpTo o text state from → from < length text → k ≡ piece_length o (drop from text) → k ≤ length (drop from text)
    → next ≡ after (marks_of o.parse_options) (comment_of o.parse_options) state (take k (drop from text)) → next ≡ Open → IsUpTo o text next (from + k)
up_to-next o text state next from k size so_far inside is fits behind here =
    let left = length-drop from text in
    let open_state : behind_first o state (drop from text) ≡ Open = state-first o state next (drop from text) k is behind ∙ here in
    let rest : drop (piece_length o (drop from text)) (drop from text) ≡ drop (from + k) text = ap (λ j. drop j (drop from text)) (sym is) ∙ drop-drop k from text in
    let more : to_start o Open (drop (piece_length o (drop from text)) (drop from text)) ≡ to_start o next (drop (from + k) text) = ap (to_start o Open) rest ∙ ap (λ s. to_start o s (drop (from + k) text)) (sym here) in
    record {
      within = omega arith;
      size = omega (arith, so_far.size, is, to_start-later o state (drop from text) size (omega arith) open_state, more);
    }

pub up_to-end : (o : CsvReadOptions) (text : List ℕ) (state : LineState) (len : ℕ) → IsUpTo o text state len → length text ≤ len → len ≡ range_length o text
up_to-end o text state len so_far past = omega (arith, so_far.size, ap (to_start o state) (drop_all len text past))
