-- A row is a cell, and behind its separator the rest of the row.
use Rattle.std.proofs.Common.{◌≡◌, ℕ, suc, ◌+◌, ◌-◌, ◌<◌, ◌≤◌, List, [], ◌∷◌, ◌++◌, length, map, get_or, take, drop, Some, refl, sym, ap, ap₂, ◌∙◌, subst, arith, append_assoc, add-one, length-take, length-drop}
use Rattle.std.specs.Prelude.{slice_index, slice_range}
use Rattle.std.specs.List.{join_with_byte}
use Rattle.std.proofs.lemmas.List.{drop_all}
use Rattle.std.proofs.lemmas.List.Folds.{drop_split}
use Rattle.std.proofs.Math.Seq.{drop-cons, take-append-add}
use Rattle.pl_frame.specs.Schema.{Entry}
use Rattle.pl_text.specs.FrameText.{WriteOptions}
use Rattle.pl_verbatim.specs.declared.kinds.Kind.{Kind}
use Rattle.pl_verbatim.specs.CellTexts.{IsCellOptions}
use Rattle.pl_verbatim.specs.Kinds.{AreKindsOf}
use Rattle.pl_verbatim.specs.Verbatim.{AreCellsOf, IsLineOf}
use Rattle.pl_verbatim.proofs.CellLaws.{IsCellOfKind}

-- a line is one of each schema of the kinds
abbrev pub IsLineOfKinds : ℕ → ℕ → List Kind → List ℕ → Type 0
IsLineOfKinds separator quote kinds line = (o : WriteOptions) (schema : List Entry) → IsCellOptions o separator quote → AreKindsOf (map Some schema) kinds → IsLineOf o schema line

-- Cells of the first kinds stand before a place, each with a separator behind it: a line of the other kinds that stands there ends one
-- of all.
pub record AreCellsBefore (text : List ℕ) (start : ℕ) (kinds : List Kind) (separator quote : ℕ) (index at : ℕ) : Type 0 where
  pub after : start ≤ at
  pub within : at ≤ length text
  pub line : (end : ℕ) → at ≤ end → IsLineOfKinds separator quote (drop index kinds) (slice_range text at end) → IsLineOfKinds separator quote kinds (slice_range text start end)

-- ---- lines

-- the last cell, with a line feed behind it
last : (separator quote : ℕ) (kind : Kind) (field : List ℕ) → IsCellOfKind separator quote kind field → IsLineOfKinds separator quote (kind ∷ []) (field ++ 10 ∷ [])
last separator quote kind field cell o [] is kinds = absurd kinds
last separator quote kind field cell o (entry ∷ []) is kinds = record { fields = field ∷ []; cells = (cell o entry.1 is kinds.0, tt); line_is = refl }
last separator quote kind field cell o (entry ∷ other ∷ schema) is kinds = absurd kinds.1

-- a cell, a separator, and a line of one kind or more
more : (separator quote : ℕ) (kind second : Kind) (kinds : List Kind) (field rest : List ℕ) → IsCellOfKind separator quote kind field → IsLineOfKinds separator quote (second ∷ kinds) rest
    → IsLineOfKinds separator quote (kind ∷ second ∷ kinds) (field ++ separator ∷ rest)
more separator quote kind second kinds field rest cell line o [] is are = absurd are
more separator quote kind second kinds field rest cell line o (entry ∷ []) is are = absurd are.1
more separator quote kind second kinds field rest cell line o (entry ∷ other ∷ schema) is are =
    let own = line o (other ∷ schema) is are.1 in
    by own.fields own.cells own.line_is
  where
    by : (fields : List (List ℕ)) → AreCellsOf o (other ∷ schema) fields → rest ≡ join_with_byte o.separator fields ++ 10 ∷ [] → IsLineOf o (entry ∷ other ∷ schema) (field ++ separator ∷ rest)
    by [] cells e = absurd cells
    by (first ∷ fields) cells e = record {
      fields = field ∷ first ∷ fields;
      cells = (cell o entry.1 is are.0, cells);
      line_is = ap₂ (λ s r. field ++ s ∷ r) (sym is.separator_is) e ∙ sym (append_assoc field (o.separator ∷ join_with_byte o.separator (first ∷ fields)) (10 ∷ []));
    }

-- ---- places

-- what stands between two places, cut behind a byte
pub cut : (text : List ℕ) (at end to x : ℕ) → at ≤ end → end < length text → slice_index text end ≡ x → end + 1 ≤ to → slice_range text at to ≡ slice_range text at end ++ x ∷ slice_range text (end + 1) to
cut text at end to x after within is more =
    let front = slice_range text at end in
    let behind = to - (end + 1) in
    let size : length front ≡ end - at = omega (arith, length-take (end - at) (drop at text), length-drop at text) in
    let count : to - at ≡ length front + suc behind = omega (arith, size) in
    let rest : drop end text ≡ x ∷ drop (end + 1) text = drop-cons text end 0 within ∙ ap₂ (λ y n. y ∷ drop n text) is (sym (add-one end)) in
    ap₂ take count (drop_split text at end after ∙ ap (λ l. front ++ l) rest) ∙ take-append-add front (x ∷ drop (end + 1) text) (suc behind)

pub nothing : (text : List ℕ) (at : ℕ) → slice_range text at at ≡ []
nothing text at = let none : at - at ≡ 0 = omega arith in ap (λ n. take n (drop at text)) none

-- the kinds from one on
pub from : (kinds : List Kind) (index : ℕ) (any : Kind) → index < length kinds → drop index kinds ≡ get_or kinds index any ∷ drop (index + 1) kinds
from kinds index any within = drop-cons kinds index any within ∙ ap (λ n. get_or kinds index any ∷ drop n kinds) (sym (add-one index))

-- ---- steps

-- behind one cell more
pub cells-step : (text : List ℕ) (start : ℕ) (kinds : List Kind) (separator quote index at end : ℕ) (any : Kind) → AreCellsBefore text start kinds separator quote index at → index + 1 < length kinds
    → at ≤ end → end < length text → slice_index text end ≡ separator → IsCellOfKind separator quote (get_or kinds index any) (slice_range text at end)
    → AreCellsBefore text start kinds separator quote (index + 1) (end + 1)
cells-step text start kinds separator quote index at end any before few after within is cell =
    let own = get_or kinds index any in
    let second = get_or kinds (index + 1) any in
    let behind = drop (index + 1 + 1) kinds in
    let others : drop (index + 1) kinds ≡ second ∷ behind = from kinds (index + 1) any few in
    let all : drop index kinds ≡ own ∷ second ∷ behind = from kinds index any (omega arith) ∙ ap (λ ks. own ∷ ks) others in
    record {
      after = omega (arith, before.after);
      within = omega arith;
      line = λ to room rest.
          let line : IsLineOfKinds separator quote (second ∷ behind) (slice_range text (end + 1) to) = subst (λ ks. IsLineOfKinds separator quote ks (slice_range text (end + 1) to)) others rest in
          let both : IsLineOfKinds separator quote (own ∷ second ∷ behind) (slice_range text at end ++ separator ∷ slice_range text (end + 1) to) =
          more separator quote own second behind (slice_range text at end) (slice_range text (end + 1) to) cell line in
          before.line to (omega arith)
          (subst (λ ks. IsLineOfKinds separator quote ks (slice_range text at to)) (sym all)
          (subst (IsLineOfKinds separator quote (own ∷ second ∷ behind)) (sym (cut text at end to separator after within is room)) both));
    }

-- and behind the last
pub cells-last : (text : List ℕ) (start : ℕ) (kinds : List Kind) (separator quote index at end : ℕ) (any : Kind) → AreCellsBefore text start kinds separator quote index at → index ≡ length kinds - 1
    → 0 < length kinds → at ≤ end → end < length text → slice_index text end ≡ 10 → IsCellOfKind separator quote (get_or kinds (length kinds - 1) any) (slice_range text at end)
    → IsLineOfKinds separator quote kinds (slice_range text start (end + 1))
cells-last text start kinds separator quote index at end any before last_is some after within is cell =
    let own = get_or kinds index any in
    let behind : drop (index + 1) kinds ≡ [] = drop_all (index + 1) kinds (omega arith) in
    let only : drop index kinds ≡ own ∷ [] = from kinds index any (omega arith) ∙ ap (λ ks. own ∷ ks) behind in
    let whole : slice_range text at (end + 1) ≡ slice_range text at end ++ 10 ∷ [] = cut text at end (end + 1) 10 after within is (omega arith) ∙ ap (λ l. slice_range text at end ++ 10 ∷ l) (nothing text (end + 1)) in
    let field : IsCellOfKind separator quote own (slice_range text at end) = subst (λ n. IsCellOfKind separator quote (get_or kinds n any) (slice_range text at end)) (sym last_is) cell in
    before.line (end + 1) (omega arith)
    (subst (λ ks. IsLineOfKinds separator quote ks (slice_range text at (end + 1))) (sym only)
    (subst (IsLineOfKinds separator quote (own ∷ [])) (sym whole) (last separator quote own (slice_range text at end) field)))
