-- The text of the next batches ends where a range between pieces does.
use Rattle.std.proofs.Common.{◌≡◌, ℕ, zero, suc, ◌+◌, ◌-◌, ◌<◌, ◌≤◌, Bool, true, false, cond, List, [], ◌∷◌, map, length, take, drop, get_or, refl, sym, ◌∙◌, ap, subst, zero-add, arith, length-drop, ◌⊎◌, inl, inr}
use Rattle.std.specs.Prelude.{Option, None, Some, unwrap_or, find}
use Rattle.std.specs.List.{last_or}
use Rattle.std.proofs.lemmas.Bool.{cases_lt}
use Rattle.std.proofs.lemmas.List.{drop_all, drop-drop}
use Rattle.pl_frame.specs.Dialect.{IsDialect}
use Rattle.pl_board.specs.LineStates.{states_from}
use Rattle.pl_board.specs.Ranges.{begins_item, range_ends}
use Rattle.pl_board.proofs.LineStateLaws.{ended-is}
use Rattle.pl_options.specs.declared.read_options.CsvReadOptions.{CsvReadOptions}
use Rattle.pl_options.specs.Text.{marks_of, comment_of}
use Rattle.pl_scan.specs.Fields.{splits, cut_at}
use Rattle.pl_scan.specs.Laws.{IsEnded}
use Rattle.pl_scan.specs.LineCuts.{is_line_cut, cut_piece, piece_ends}
use Rattle.pl_scan.specs.LineStates.{state_if, after}
use Rattle.pl_scan.specs.declared.summary.LineState.{LineState}
use Rattle.pl_scan.specs.declared.summary.LineState.TheVariants.{Start, Open}
use Rattle.pl_scan.proofs.PieceEndLaws.{IsFirstPiece, piece_ends-nil, piece_ends-step, moved, not-moved}
use Rattle.pl_scan.proofs.StateLaws.{after-append, ended-append}
use Rattle.pl_scan.proofs.Walk.{onto, unwrap_or-find-map, unwrap_or-cond}
use Rattle.pl_read.specs.Batches.{EndsAtItem, piece_length, behind_first, range_length, ranges_length}
use Rattle.pl_read.specs.BatchRanges.{BatchesAreReadOfRanges}
use Rattle.pl_read.proofs.BatchRangeLaws.{IsPiece, piece-is, piece-value, to_start, to_start-all, to_start-here, to_start-later, split-take, range-is}
use Rattle.pl_read.proofs.NextTextLaws.{EndsAtItem-nil, EndsAtItem-append, length-none, length-step}

-- ---- the first piece

-- the shortest prefix that passes, or all, is what stands before a place of the text
found-cut : (p : List ℕ × List ℕ → Bool) (b : List ℕ) → (k : ℕ) × ((k ≤ length b) × (unwrap_or (find p (splits b)) (b, []) ≡ cut_at k b))
found-cut p [] = (0, (omega arith, unwrap_or-cond (p ([], [])) ([], [])))
found-cut p (x ∷ xs) = by_test (p ([], x ∷ xs)) refl (found-cut (λ cut. p (onto x cut)) xs)
  where
    rest : Option (List ℕ × List ℕ)
    rest = find p (map (onto x) (splits xs))

    by_test : (t : Bool) → p ([], x ∷ xs) ≡ t → (k : ℕ) × ((k ≤ length xs) × (unwrap_or (find (λ cut. p (onto x cut)) (splits xs)) (xs, []) ≡ cut_at k xs))
        → (k : ℕ) × ((k ≤ length (x ∷ xs)) × (unwrap_or (find p (splits (x ∷ xs))) (x ∷ xs, []) ≡ cut_at k (x ∷ xs)))
    by_test true here _ = (0, (omega arith, ap (λ t. unwrap_or (cond t (Some ([], x ∷ xs)) rest) (x ∷ xs, [])) here))
    by_test false here is = (
      suc is.0,
      (
        omega (arith, is.1.0),
        ap (λ t. unwrap_or (cond t (Some ([], x ∷ xs)) rest) (x ∷ xs, [])) here ∙ unwrap_or-find-map (onto x) p (splits xs) (xs, []) ∙ ap (onto x) is.1.1,
      ),
    )

piece-cut : (o : CsvReadOptions) (text : List ℕ) → cut_piece o.parse_options.eol_char o.chunk_size text ≡ cut_at (piece_length o text) text
unfolding cut_piece
piece-cut o text =
    let found = found-cut (is_line_cut o.parse_options.eol_char o.chunk_size) text in
    found.1.1 ∙ ap (λ k. cut_at k text) (piece-value o text found.0 found.1.0 found.1.1)

first-is : (o : CsvReadOptions) (text : List ℕ) → 0 < o.chunk_size → 0 < length text → IsFirstPiece o.parse_options.eol_char o.chunk_size text (piece_length o text)
first-is o text size some = let piece = piece-is o text size some in record { cut = piece-cut o text; some = piece.some; fits = piece.fits }

-- ---- the pieces from a place on, and the states in front of them

abbrev ends_from : CsvReadOptions → List ℕ → ℕ → List ℕ
ends_from o b from = map (λ end. from + end) (piece_ends o.parse_options.eol_char o.chunk_size (drop from b))

abbrev state_at : CsvReadOptions → List ℕ → ℕ → LineState
state_at o b from = after (marks_of o.parse_options) (comment_of o.parse_options) Start (take from b)

abbrev states_of : CsvReadOptions → List ℕ → ℕ → List ℕ → List LineState
states_of o b from ends = states_from (marks_of o.parse_options) (comment_of o.parse_options) from ends b

-- the ends of their ranges
abbrev ranges_from : CsvReadOptions → List ℕ → ℕ → List ℕ
ranges_from o b from = range_ends (ends_from o b from) (states_of o b from (ends_from o b from))

-- where the first of them ends
abbrev next_end : CsvReadOptions → List ℕ → ℕ → ℕ
next_end o b from = from + piece_length o (drop from b)

ends-none : (o : CsvReadOptions) (b : List ℕ) (from : ℕ) → length b ≤ from → ends_from o b from ≡ []
ends-none o b from past =
    ap (λ t. map (λ end. from + end) (piece_ends o.parse_options.eol_char o.chunk_size t)) (drop_all from b past)
    ∙ ap (map (λ end. from + end)) (piece_ends-nil o.parse_options.eol_char o.chunk_size)

ends-step : (o : CsvReadOptions) (b : List ℕ) (from : ℕ) → 0 < o.chunk_size → from < length b → ends_from o b from ≡ next_end o b from ∷ ends_from o b (next_end o b from)
ends-step o b from size inside =
    let e = o.parse_options.eol_char in
    let n = o.chunk_size in
    let k = piece_length o (drop from b) in
    let first = first-is o (drop from b) size (omega (arith, length-drop from b)) in
    ap (map (λ end. from + end)) (piece_ends-step e n (drop from b) k first)
    ∙ ap (λ l. (from + k) ∷ l) (moved from k (piece_ends e n (drop k (drop from b))) ∙ ap (λ t. map (λ end. from + k + end) (piece_ends e n t)) (drop-drop k from b))

begins-none : (o : CsvReadOptions) (b : List ℕ) (from : ℕ) → length b ≤ from → begins_item (states_of o b from (ends_from o b from)) ≡ true
begins-none o b from past = ap (λ ends. begins_item (states_of o b from ends)) (ends-none o b from past)

begins-by : (o : CsvReadOptions) (b : List ℕ) (from : ℕ) (s : LineState) → 0 < o.chunk_size → from < length b → state_at o b from ≡ s → begins_item (states_of o b from (ends_from o b from)) ≡ begins_item (s ∷ [])
begins-by o b from s size inside is =
    let to = next_end o b from in
    ap (λ ends. begins_item (states_of o b from ends)) (ends-step o b from size inside)
    ∙ ap (λ t. begins_item (t ∷ states_of o b to (ends_from o b to))) is
    ∙ by s (states_of o b to (ends_from o b to))
  where
    by : (s : LineState) (states : List LineState) → begins_item (s ∷ states) ≡ begins_item (s ∷ [])
    by Start states = refl
    by Open states = refl

ranges-step : (o : CsvReadOptions) (b : List ℕ) (from : ℕ) → 0 < o.chunk_size → from < length b
    → ranges_from o b from
    ≡ cond (begins_item (states_of o b (next_end o b from) (ends_from o b (next_end o b from)))) (next_end o b from ∷ ranges_from o b (next_end o b from)) (ranges_from o b (next_end o b from))
ranges-step o b from size inside = ap (λ ends. range_ends ends (states_of o b from ends)) (ends-step o b from size inside)

-- the state in front of the next piece
state-next : (o : CsvReadOptions) (b : List ℕ) (from : ℕ) → IsDialect (marks_of o.parse_options) (comment_of o.parse_options) → IsEnded o.parse_options.eol_char (take from b)
    → last_or None (take (piece_length o (drop from b)) (drop from b)) ≡ Some o.parse_options.eol_char → state_at o b (next_end o b from) ≡ behind_first o (state_at o b from) (drop from b)
state-next o b from dialect ended line =
    let piece = take (piece_length o (drop from b)) (drop from b) in
    ap (after (marks_of o.parse_options) (comment_of o.parse_options) Start) (split-take from (piece_length o (drop from b)) b)
    ∙ after-append (marks_of o.parse_options) (comment_of o.parse_options) Start (take from b) piece dialect.distinct dialect.prefix ended (ended-is o.parse_options.eol_char piece line)

-- ---- the first range from a place on

-- where it ends
abbrev range_to : CsvReadOptions → List ℕ → ℕ → ℕ
range_to o b from = from + to_start o (state_at o b from) (drop from b)

next-range : (o : CsvReadOptions) (i : ℕ) (b : List ℕ) (from : ℕ) → IsDialect (marks_of o.parse_options) (comment_of o.parse_options) → 0 < o.chunk_size → length b < from + i → from < length b
    → IsEnded o.parse_options.eol_char (take from b) → ranges_from o b from ≡ range_to o b from ∷ ranges_from o b (range_to o b from)
next-range o zero b from dialect size h inside ended = absurd (omega arith)
next-range o (suc i) b from dialect size h inside ended =
    elim (cases_lt to (length b)) [
      | inl less ↦ elim piece.ended [
        | inl all ↦ absurd (omega (arith, all, left))
        | inr line ↦ by_state (state_at o b to) refl less line (λ front. next-range o i b to dialect size shorter less front)
      ]
      | inr past ↦
          let total : range_to o b from ≡ to = omega (arith, to_start-all o (state_at o b from) (drop from b) size some (omega (arith, piece.fits, left))) in
          ranges-step o b from size inside ∙ ap (λ t. cond t (to ∷ ranges_from o b to) (ranges_from o b to)) (begins-none o b to past) ∙ ap (λ j. j ∷ ranges_from o b j) (sym total)
    ]
  where
    to : ℕ
    to = next_end o b from

    left : length (drop from b) ≡ length b - from
    left = length-drop from b

    some : 0 < length (drop from b)
    some = omega (arith, left)

    piece : IsPiece o (drop from b)
    piece = piece-is o (drop from b) size some

    shorter : length b < to + i
    shorter = omega (arith, piece.some)

    by_state : (s : LineState) → state_at o b to ≡ s → to < length b → last_or None (take (piece_length o (drop from b)) (drop from b)) ≡ Some o.parse_options.eol_char
        → (IsEnded o.parse_options.eol_char (take to b) → ranges_from o b to ≡ range_to o b to ∷ ranges_from o b (range_to o b to))
        → ranges_from o b from ≡ range_to o b from ∷ ranges_from o b (range_to o b from)
    by_state Start is less line deeper =
        let behind : behind_first o (state_at o b from) (drop from b) ≡ Start = sym (state-next o b from dialect ended line) ∙ is in
        let total : range_to o b from ≡ to = omega (arith, to_start-here o (state_at o b from) (drop from b) size some behind) in
        ranges-step o b from size inside ∙ ap (λ t. cond t (to ∷ ranges_from o b to) (ranges_from o b to)) (begins-by o b to Start size less is) ∙ ap (λ j. j ∷ ranges_from o b j) (sym total)
    by_state Open is less line deeper =
        let e = o.parse_options.eol_char in
        let k = piece_length o (drop from b) in
        let behind : behind_first o (state_at o b from) (drop from b) ≡ Open = sym (state-next o b from dialect ended line) ∙ is in
        let more : to_start o (state_at o b to) (drop to b) ≡ to_start o Open (drop k (drop from b)) = ap (λ s. to_start o s (drop to b)) is ∙ ap (to_start o Open) (sym (drop-drop k from b)) in
        let total : range_to o b to ≡ range_to o b from = omega (arith, to_start-later o (state_at o b from) (drop from b) size some behind, more) in
        let front : IsEnded e (take to b) = subst (IsEnded e) (sym (split-take from k b)) (ended-append e (take from b) (take k (drop from b)) ended (ended-is e (take k (drop from b)) line)) in
        ranges-step o b from size inside ∙ ap (λ t. cond t (to ∷ ranges_from o b to) (ranges_from o b to)) (begins-by o b to Open size less is) ∙ deeper front ∙ ap (λ j. j ∷ ranges_from o b j) total

-- ---- the first ranges

start-at : (o : CsvReadOptions) (b : List ℕ) (from : ℕ) → EndsAtItem o (take from b) → state_at o b from ≡ Start
unfolding after
start-at o b from ends = ap state_if ends.closed

none-there : (n d : ℕ) → get_or [] n d ≡ d
none-there zero d = refl
none-there (suc n) d = refl

-- a place of the text that is its end, or where an item ends
record IsRangeEnd (o : CsvReadOptions) (b : List ℕ) (from : ℕ) : Type 0 where
  pub within : from ≤ length b
  pub ends : (from ≡ length b) ⊎ EndsAtItem o (take from b)

ends-inside : (o : CsvReadOptions) (b : List ℕ) (from : ℕ) → IsRangeEnd o b from → from < length b → EndsAtItem o (take from b)
ends-inside o b from at inside = elim at.ends [ inl all ↦ absurd (omega arith) | inr item ↦ item ]

-- the end of the next range is one too
end-next : (o : CsvReadOptions) (b : List ℕ) (from : ℕ) → IsDialect (marks_of o.parse_options) (comment_of o.parse_options) → 0 < o.chunk_size → IsRangeEnd o b from → from < length b
    → IsRangeEnd o b (from + range_length o (drop from b))
end-next o b from dialect size at inside =
    let r = range_length o (drop from b) in
    let left = length-drop from b in
    let range = range-is o (drop from b) dialect size in
    record {
      within = omega (arith, range.fits, left);
      ends = elim range.ends [
        | inl all ↦ inl (omega (arith, all, left))
        | inr ended ↦ inr (subst (EndsAtItem o) (sym (split-take from r b)) (EndsAtItem-append o (take from b) (take r (drop from b)) dialect (ends-inside o b from at inside) ended))
      ];
    }

-- and it is the first of the ends of ranges
ranges-cons : (o : CsvReadOptions) (b : List ℕ) (from : ℕ) → IsDialect (marks_of o.parse_options) (comment_of o.parse_options) → 0 < o.chunk_size → IsRangeEnd o b from → from < length b
    → ranges_from o b from ≡ (from + range_length o (drop from b)) ∷ ranges_from o b (from + range_length o (drop from b))
ranges-cons o b from dialect size at inside =
    let item = ends-inside o b from at inside in
    next-range o (suc (length b)) b from dialect size (omega arith) inside item.ended
    ∙ ap (λ s. (from + to_start o s (drop from b)) ∷ ranges_from o b (from + to_start o s (drop from b))) (start-at o b from item)

ranges-past : (o : CsvReadOptions) (n : ℕ) (b : List ℕ) (from : ℕ) → IsRangeEnd o b from → length b ≤ from → from + ranges_length o (suc n) (drop from b) ≡ get_or (ranges_from o b from) n (length b)
ranges-past o n b from at past =
    let none : ranges_length o (suc n) (drop from b) ≡ 0 = ap (ranges_length o (suc n)) (drop_all from b past) ∙ length-none o (suc n) in
    let ends : ranges_from o b from ≡ [] = ap (λ ends. range_ends ends (states_of o b from ends)) (ends-none o b from past) in
    let here : from + ranges_length o (suc n) (drop from b) ≡ length b = omega (arith, none, at.within, past) in
    here ∙ sym (ap (λ l. get_or l n (length b)) ends ∙ none-there n (length b))

ranges-are : (o : CsvReadOptions) (n : ℕ) (b : List ℕ) (from : ℕ) → IsDialect (marks_of o.parse_options) (comment_of o.parse_options) → 0 < o.chunk_size → IsRangeEnd o b from
    → from + ranges_length o (suc n) (drop from b) ≡ get_or (ranges_from o b from) n (length b)
ranges-are o zero b from dialect size at = elim (cases_lt from (length b)) [
  | inr past ↦ ranges-past o zero b from at past
  | inl inside ↦
      let step = length-step o zero (drop from b) (omega (arith, length-drop from b)) in
      let here : from + ranges_length o (suc zero) (drop from b) ≡ from + range_length o (drop from b) = omega (arith, step) in
      here ∙ sym (ap (λ l. get_or l zero (length b)) (ranges-cons o b from dialect size at inside))
]
ranges-are o (suc n) b from dialect size at = elim (cases_lt from (length b)) [
  | inr past ↦ ranges-past o (suc n) b from at past
  | inl inside ↦
      let r = range_length o (drop from b) in
      let step = length-step o (suc n) (drop from b) (omega (arith, length-drop from b)) in
      let rest : ranges_length o (suc n) (drop r (drop from b)) ≡ ranges_length o (suc n) (drop (from + r) b) = ap (ranges_length o (suc n)) (drop-drop r from b) in
      let here : from + ranges_length o (suc (suc n)) (drop from b) ≡ from + r + ranges_length o (suc n) (drop (from + r) b) = omega (arith, step, rest) in
      here ∙ ranges-are o n b (from + r) dialect size (end-next o b from dialect size at inside) ∙ sym (ap (λ l. get_or l (suc n) (length b)) (ranges-cons o b from dialect size at inside))
]

pub batches-of_ranges : BatchesAreReadOfRanges
batches-of_ranges o n rest dialect size =
    let are = ranges-are o n rest 0 dialect size (record { within = omega arith; ends = inr (EndsAtItem-nil o) }) in
    let ends = not-moved (piece_ends o.parse_options.eol_char o.chunk_size rest) in
    let size_is : ranges_length o (suc n) rest ≡ get_or (range_ends (piece_ends o.parse_options.eol_char o.chunk_size rest) (states_of o rest 0 (piece_ends o.parse_options.eol_char o.chunk_size rest))) n (length rest) =
    sym (zero-add (ranges_length o (suc n) rest)) ∙ are ∙ ap (λ l. get_or (range_ends l (states_of o rest 0 l)) n (length rest)) ends in
    ap (λ k. take k rest) size_is
