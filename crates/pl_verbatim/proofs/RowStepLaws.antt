-- What is written of a row is what is written of a cell, and behind its separator what is written of the rest of the row.
use Rattle.std.proofs.Common.{◌≡◌, ℕ, ◌+◌, ◌-◌, ◌<◌, ◌≤◌, List, [], ◌∷◌, ◌++◌, length, get_or, drop, sym, ap, ◌∙◌, subst, arith, append_assoc}
use Rattle.std.specs.Prelude.{slice_index, slice_range}
use Rattle.std.proofs.lemmas.List.{drop_all}
use Rattle.pl_verbatim.specs.declared.kinds.Kind.{Kind}
use Rattle.pl_verbatim.proofs.RowLaws.{cut, nothing, from}

-- Fields of the first kinds stand before a place, each with a separator behind it, and lines grew by what is written of their cells: a line of the
-- other kinds that stands there ends one of all, and what is written of it ends what is written of all.
pub record AreLinesBefore (Rest Line : List Kind → List ℕ → List ℕ → Type 0) (text : List ℕ) (start : ℕ) (kinds : List Kind) (index at : ℕ) (before now : List ℕ) : Type 0 where
  pub after : start ≤ at
  pub within : at ≤ length text
  pub copy : List ℕ
  pub now_is : now ≡ before ++ copy
  pub line : (end : ℕ) (rest : List ℕ) → at ≤ end → Rest (drop index kinds) (slice_range text at end) rest → Line kinds (slice_range text start end) (copy ++ rest)

-- The line of a row ends at a place, and lines grew by what is written of it.
pub record IsLineEnded (Line : List Kind → List ℕ → List ℕ → Type 0) (text : List ℕ) (start : ℕ) (kinds : List Kind) (before now : List ℕ) (end : ℕ) : Type 0 where
  pub copy : List ℕ
  pub now_is : now ≡ before ++ copy
  pub line : Line kinds (slice_range text start end) copy

-- behind one field more, with what is put of it
pub line-step : (Rest Next Line : List Kind → List ℕ → List ℕ → Type 0) (text : List ℕ) (start : ℕ) (kinds : List Kind) (index at end separator : ℕ) (any : Kind) (before now later part : List ℕ)
    → AreLinesBefore Rest Line text start kinds index at before now → index + 1 < length kinds → at ≤ end → end < length text → slice_index text end ≡ separator → later ≡ now ++ part
    → ((second : Kind) (others : List Kind) (rest copy : List ℕ) → Next (second ∷ others) rest copy
    → Rest (get_or kinds index any ∷ second ∷ others) (slice_range text at end ++ separator ∷ rest) (part ++ copy))
    → AreLinesBefore Next Line text start kinds (index + 1) (end + 1) before later
line-step Rest Next Line text start kinds index at end separator any before now later part copied few after within is grown more =
    let own = get_or kinds index any in
    let second = get_or kinds (index + 1) any in
    let behind = drop (index + 1 + 1) kinds in
    let others : drop (index + 1) kinds ≡ second ∷ behind = from kinds (index + 1) any few in
    let all : drop index kinds ≡ own ∷ second ∷ behind = from kinds index any (omega arith) ∙ ap (λ ks. own ∷ ks) others in
    let done = copied.copy in
    record {
      after = omega (arith, copied.after);
      within = omega arith;
      copy = done ++ part;
      now_is = grown ∙ ap (λ l. l ++ part) copied.now_is ∙ append_assoc before done part;
      line = λ to rest room lines.
          let line : Next (second ∷ behind) (slice_range text (end + 1) to) rest = subst (λ ks. Next ks (slice_range text (end + 1) to) rest) others lines in
          let both : Rest (own ∷ second ∷ behind) (slice_range text at end ++ separator ∷ slice_range text (end + 1) to) (part ++ rest) = more second behind (slice_range text (end + 1) to) rest line in
          let whole : Rest (drop index kinds) (slice_range text at to) (part ++ rest) =
          subst (λ ks. Rest ks (slice_range text at to) (part ++ rest)) (sym all)
          (subst (λ l. Rest (own ∷ second ∷ behind) l (part ++ rest)) (sym (cut text at end to separator after within is room)) both) in
          subst (Line kinds (slice_range text start to)) (sym (append_assoc done part rest)) (copied.line to (part ++ rest) (omega arith) whole);
    }

-- and behind the last
pub line-last : (Rest Line : List Kind → List ℕ → List ℕ → Type 0) (text : List ℕ) (start : ℕ) (kinds : List Kind) (index at end : ℕ) (any : Kind) (before now later part : List ℕ)
    → AreLinesBefore Rest Line text start kinds index at before now → index ≡ length kinds - 1 → 0 < length kinds → at ≤ end → end < length text → slice_index text end ≡ 10 → later ≡ now ++ part
    → Rest (get_or kinds (length kinds - 1) any ∷ []) (slice_range text at end ++ 10 ∷ []) part → IsLineEnded Line text start kinds before later (end + 1)
line-last Rest Line text start kinds index at end any before now later part copied last_is some after within is grown last =
    let own = get_or kinds index any in
    let behind : drop (index + 1) kinds ≡ [] = drop_all (index + 1) kinds (omega arith) in
    let only : drop index kinds ≡ own ∷ [] = from kinds index any (omega arith) ∙ ap (λ ks. own ∷ ks) behind in
    let whole : slice_range text at (end + 1) ≡ slice_range text at end ++ 10 ∷ [] = cut text at end (end + 1) 10 after within is (omega arith) ∙ ap (λ l. slice_range text at end ++ 10 ∷ l) (nothing text (end + 1)) in
    let line : Rest (own ∷ []) (slice_range text at end ++ 10 ∷ []) part = subst (λ n. Rest (get_or kinds n any ∷ []) (slice_range text at end ++ 10 ∷ []) part) (sym last_is) last in
    record {
      copy = copied.copy ++ part;
      now_is = grown ∙ ap (λ l. l ++ part) copied.now_is ∙ append_assoc before copied.copy part;
      line =
          copied.line (end + 1) part (omega arith)
          (subst (λ ks. Rest ks (slice_range text at (end + 1)) part) (sym only) (subst (λ l. Rest (own ∷ []) l part) (sym whole) line));
    }
