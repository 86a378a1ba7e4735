-- What is copied of a row is what is written of a cell, and behind its separator what is written of the rest of the row.
use Rattle.std.proofs.Common.{◌≡◌, ℕ, zero, suc, ◌+◌, ◌-◌, ◌<◌, ◌≤◌, Bool, true, false, cond, List, [], ◌∷◌, ◌++◌, length, map, get_or, take, replicate, Some, refl, sym, ap, ap₂, ◌∙◌, subst, arith, append_assoc, append-nil, add-one}
use Rattle.std.specs.Prelude.{slice_index, slice_range}
use Rattle.std.specs.Bool.{OnTrue}
use Rattle.std.specs.List.{join_with_byte}
use Rattle.pl_frame.specs.Schema.{Entry}
use Rattle.pl_text.specs.FrameText.{WriteOptions}
use Rattle.pl_round_trip.specs.Fits.{FitsOptions}
use Rattle.pl_verbatim.specs.declared.kinds.Kind.{Kind}
use Rattle.pl_verbatim.specs.CellTexts.{IsCellOptions, zeros_text}
use Rattle.pl_verbatim.specs.Kinds.{AreKindsOf, AreReadable}
use Rattle.pl_verbatim.specs.Verbatim.{AreCopiesOf, HasGrown, IsCellCopied, IsLineCopyOf, IsRowCopied}
use Rattle.pl_verbatim.proofs.CellLaws.{IsCellOfKind}
use Rattle.pl_verbatim.proofs.CopyLaws.{IsCopyOfKind, cell-kind_copy}
use Rattle.pl_verbatim.proofs.NumberLaws.{slice-parts}
use Rattle.pl_verbatim.proofs.RowLaws.{cut, nothing}
use Rattle.pl_verbatim.proofs.RowStepLaws.{AreLinesBefore, line-step, line-last}

-- a text is what is written of a line, for each schema of the kinds
abbrev pub IsLineCopyOfKinds : ℕ → ℕ → List Kind → List ℕ → List ℕ → Type 0
IsLineCopyOfKinds separator quote kinds line copy =
    (o : WriteOptions) (schema : List Entry) → FitsOptions o → IsCellOptions o separator quote → AreReadable (map Some schema) → AreKindsOf (map Some schema) kinds → IsLineCopyOf o schema line copy

-- the same of a row's first cells
abbrev pub AreCopiedBefore : List ℕ → ℕ → List Kind → ℕ → ℕ → ℕ → ℕ → List ℕ → List ℕ → Type 0
AreCopiedBefore text start kinds separator quote index at before now = AreLinesBefore (IsLineCopyOfKinds separator quote) (IsLineCopyOfKinds separator quote) text start kinds index at before now

-- The first cells of a row are copied: lines grew, and they, and what is still to be appended to them from a place on, have what is written of the cells.
pub record IsCopiedBefore (text : List ℕ) (start : ℕ) (kinds : List Kind) (separator quote : ℕ) (index from at : ℕ) (before now : List ℕ) : Type 0 where
  pub behind : from ≤ at
  pub grown : HasGrown before now
  pub copied : AreCopiedBefore text start kinds separator quote index at before (now ++ slice_range text from at)

-- ---- zeros

take-replicate : (n m x : ℕ) → n ≤ m → take n (replicate m x) ≡ replicate n x
take-replicate zero m x few = refl
take-replicate (suc n) zero x few = absurd (omega (arith, few))
take-replicate (suc n) (suc m) x few = ap (λ l. x ∷ l) (take-replicate n m x (omega (arith, few)))

-- a point and nine zeros
abbrev pub point-zeros : List ℕ
point-zeros = 46 ∷ 48 ∷ 48 ∷ 48 ∷ 48 ∷ 48 ∷ 48 ∷ 48 ∷ 48 ∷ 48 ∷ []

-- the point and so many of the zeros
pub zeros-taken : (n : ℕ) → 0 < n → n ≤ 9 → take (n + 1) point-zeros ≡ zeros_text n
zeros-taken zero some few = absurd (omega (arith, some))
zeros-taken (suc n) some few = ap (λ k. take k (46 ∷ replicate 9 48)) (add-one (suc n)) ∙ ap (λ l. 46 ∷ l) (take-replicate (suc n) 9 48 few)

-- there are none
pub no-zeros : (n : ℕ) → n ≤ 0 → zeros_text n ≡ []
no-zeros zero none = refl
no-zeros (suc n) none = absurd (omega (arith, none))

-- ---- growth

-- what grows where a test holds has grown
pub grown-maybe : (t : Bool) (before now copy : List ℕ) → now ≡ cond t (before ++ copy) before → HasGrown before now
grown-maybe true before now copy is = record { copy = copy; now_is = is }
grown-maybe false before now copy is = record { copy = []; now_is = is ∙ sym (append-nil before) }

-- and what grows twice
pub grown-twice : (before now later : List ℕ) → HasGrown before now → HasGrown now later → HasGrown before later
grown-twice before now later first second = record {
  copy = first.copy ++ second.copy;
  now_is = second.now_is ∙ ap (λ l. l ++ second.copy) first.now_is ∙ append_assoc before first.copy second.copy;
}

-- what grows where a test holds, which holds
pub added : (t : Bool) (before now copy : List ℕ) → t ≡ true → now ≡ cond t (before ++ copy) before → now ≡ before ++ copy
added true before now copy holds is = is
added false before now copy holds is = absurd (cc)

-- a text, so many zeros, and a mark are appended
pub cell-copied : (t : Bool) (before first second now text zeros : List ℕ) (mark : ℕ) → first ≡ before ++ text → second ≡ first ++ zeros → now ≡ cond t (second ++ mark ∷ []) second
    → OnTrue t (now ≡ before ++ (text ++ zeros) ++ mark ∷ [])
cell-copied false before first second now text zeros mark e f is = tt
cell-copied true before first second now text zeros mark e f is =
    is ∙ ap (λ l. l ++ mark ∷ []) (f ∙ ap (λ l. l ++ zeros) e ∙ append_assoc before text zeros)

-- ---- cells

-- what stands from a place on to a second is copied, and what is written of a cell, and the mark behind its field
cell-marked : (text : List ℕ) (from from_now at end next : ℕ) (kind : Kind) (mark separator quote : ℕ) (before now written : List ℕ) → next ≡ end + 1 → at ≤ end → end < length text
    → slice_index text end ≡ mark → IsCopyOfKind separator quote kind (slice_range text at end) written → from_now ≤ next
    → now ++ slice_range text from_now next ≡ (before ++ slice_range text from at) ++ written ++ mark ∷ [] → IsCellCopied text from from_now at kind mark separator quote before now next
cell-marked text from from_now at end next kind mark separator quote before now written place after within is cell low grown = record {
  copy = written ++ mark ∷ [];
  behind = low;
  now_is = grown ∙ append_assoc (before ++ slice_range text from at) written (mark ∷ []);
  cell = record { end = end; next_is = place; after = after; within = within; mark_is = is; written = written; cell = cell; copy_is = refl };
}

-- nothing is left to append behind the mark
cell-appended : (text : List ℕ) (from at end next : ℕ) (kind : Kind) (mark separator quote : ℕ) (before now written : List ℕ) → next ≡ end + 1 → at ≤ end → end < length text
    → slice_index text end ≡ mark → IsCopyOfKind separator quote kind (slice_range text at end) written → now ≡ (before ++ slice_range text from at) ++ written ++ mark ∷ []
    → IsCellCopied text from next at kind mark separator quote before now next
cell-appended text from at end next kind mark separator quote before now written place after within is cell grown =
    cell-marked text from next at end next kind mark separator quote before now written place after within is cell (omega arith)
    (ap (λ l. now ++ l) (nothing text next) ∙ append-nil now ∙ grown)

-- all up to a place is appended, with so many zeros behind it
pub cell-zeros : (text : List ℕ) (from at end : ℕ) (kind : Kind) (mark separator quote : ℕ) (before now zeros : List ℕ) → from ≤ at → at ≤ end → end < length text → slice_index text end ≡ mark
    → IsCopyOfKind separator quote kind (slice_range text at end) (slice_range text at end ++ zeros) → now ≡ before ++ (slice_range text from end ++ zeros) ++ mark ∷ []
    → IsCellCopied text from (end + 1) at kind mark separator quote before now (end + 1)
cell-zeros text from at end kind mark separator quote before now zeros low after within is cell grown =
    let front = slice_range text from at in
    let field = slice_range text at end in
    let parts : before ++ (slice_range text from end ++ zeros) ≡ (before ++ front) ++ (field ++ zeros) =
    ap (λ l. before ++ (l ++ zeros)) (slice-parts text from at end low after) ∙ ap (λ l. before ++ l) (append_assoc front field zeros) ∙ sym (append_assoc before front (field ++ zeros)) in
    cell-appended text from at end (end + 1) kind mark separator quote before now (field ++ zeros) refl after within is cell (grown ∙ ap (λ l. l ++ mark ∷ []) parts)

-- all up to a cell is appended, and what stands in it between quotes, with no zeros behind it
pub cell-inner_marked : (text : List ℕ) (from at to : ℕ) (kind : Kind) (mark separator quote : ℕ) (before first now : List ℕ) → at + 1 < to → to + 1 < length text → slice_index text (to + 1) ≡ mark
    → IsCopyOfKind separator quote kind (slice_range text at (to + 1)) (slice_range text (at + 1) to) → first ≡ before ++ slice_range text from at
    → now ≡ first ++ (slice_range text (at + 1) to ++ zeros_text 0) ++ mark ∷ [] → IsCellCopied text from (to + 2) at kind mark separator quote before now (to + 2)
cell-inner_marked text from at to kind mark separator quote before first now after within is cell front grown =
    cell-appended text from at (to + 1) (to + 2) kind mark separator quote before now (slice_range text (at + 1) to) (omega arith) (omega arith) within is cell
    (grown ∙ ap₂ (λ f l. f ++ l ++ mark ∷ []) front (append-nil (slice_range text (at + 1) to)))

-- nothing is appended, since the field stands as it is written, and the mark behind it
pub cell-whole : (text : List ℕ) (from at end : ℕ) (kind : Kind) (mark separator quote : ℕ) (before : List ℕ) → from ≤ at → at ≤ end → end < length text → slice_index text end ≡ mark
    → IsCellOfKind separator quote kind (slice_range text at end) → IsCellCopied text from from at kind mark separator quote before before (end + 1)
cell-whole text from at end kind mark separator quote before low after within is cell =
    let front = slice_range text from at in
    let field = slice_range text at end in
    let whole : slice_range text at (end + 1) ≡ field ++ mark ∷ [] = cut text at end (end + 1) mark after within is (omega arith) ∙ ap (λ l. field ++ mark ∷ l) (nothing text (end + 1)) in
    let parts : slice_range text from (end + 1) ≡ front ++ (field ++ mark ∷ []) = slice-parts text from at (end + 1) low (omega arith) ∙ ap (λ l. front ++ l) whole in
    cell-marked text from from at end (end + 1) kind mark separator quote before before field refl after within is (cell-kind_copy separator quote kind field cell) (omega arith)
    (ap (λ l. before ++ l) parts ∙ sym (append_assoc before front (field ++ mark ∷ [])) ∙ sym (append_assoc (before ++ front) field (mark ∷ [])))

-- ---- lines

-- the last field, with a line feed behind it
last-line : (separator quote : ℕ) (kind : Kind) (field written : List ℕ) → IsCopyOfKind separator quote kind field written
    → IsLineCopyOfKinds separator quote (kind ∷ []) (field ++ 10 ∷ []) (written ++ 10 ∷ [])
last-line separator quote kind field written cell o [] fits is can are = absurd are
last-line separator quote kind field written cell o (entry ∷ []) fits is can are = record {
  fields = field ∷ [];
  written = written ∷ [];
  copies = (cell o entry.1 fits is can.0 are.0, tt);
  line_is = refl;
  copy_is = refl;
}
last-line separator quote kind field written cell o (entry ∷ other ∷ schema) fits is can are = absurd are.1

-- a field, a separator, and a line of one kind or more
more-line : (separator quote : ℕ) (kind second : Kind) (kinds : List Kind) (field written rest copy : List ℕ) → IsCopyOfKind separator quote kind field written
    → IsLineCopyOfKinds separator quote (second ∷ kinds) rest copy → IsLineCopyOfKinds separator quote (kind ∷ second ∷ kinds) (field ++ separator ∷ rest) (written ++ separator ∷ copy)
more-line separator quote kind second kinds field written rest copy cell line o [] fits is can are = absurd are
more-line separator quote kind second kinds field written rest copy cell line o (entry ∷ []) fits is can are = absurd are.1
more-line separator quote kind second kinds field written rest copy cell line o (entry ∷ other ∷ schema) fits is can are =
    let own = line o (other ∷ schema) fits is can.1 are.1 in
    by own.fields own.written own.copies own.line_is own.copy_is
  where
    by : (fields others : List (List ℕ)) → AreCopiesOf o (other ∷ schema) fields others → rest ≡ join_with_byte o.separator fields ++ 10 ∷ [] → copy ≡ join_with_byte o.separator others ++ 10 ∷ []
        → IsLineCopyOf o (entry ∷ other ∷ schema) (field ++ separator ∷ rest) (written ++ separator ∷ copy)
    by [] others copies e f = absurd copies
    by (first ∷ fields) [] copies e f = absurd copies
    by (first ∷ fields) (next ∷ others) copies e f = record {
      fields = field ∷ first ∷ fields;
      written = written ∷ next ∷ others;
      copies = (cell o entry.1 fits is can.0 are.0, copies);
      line_is = ap₂ (λ s r. field ++ s ∷ r) (sym is.separator_is) e ∙ sym (append_assoc field (o.separator ∷ join_with_byte o.separator (first ∷ fields)) (10 ∷ []));
      copy_is = ap₂ (λ s r. written ++ s ∷ r) (sym is.separator_is) f ∙ sym (append_assoc written (o.separator ∷ join_with_byte o.separator (next ∷ others)) (10 ∷ []));
    }

-- ---- what was copied of a cell

-- is what is written of it
pub copied-cell : (text : List ℕ) (start : ℕ) (kinds : List Kind) (separator quote index from at from_now next : ℕ) (any : Kind) (before now later : List ℕ)
    → IsCopiedBefore text start kinds separator quote index from at before now → index + 1 < length kinds → HasGrown now later
    → IsCellCopied text from from_now at (get_or kinds index any) separator separator quote now later next → IsCopiedBefore text start kinds separator quote (index + 1) from_now next before later
copied-cell text start kinds separator quote index from at from_now next any before now later row few more one =
    let own = one.cell in
    let lines = now ++ slice_range text from at in
    let others = later ++ slice_range text from_now next in
    record {
      behind = one.behind;
      grown = grown-twice before now later row.grown more;
      copied =
          subst (λ n. AreCopiedBefore text start kinds separator quote (index + 1) n before others) (sym own.next_is)
          (line-step (IsLineCopyOfKinds separator quote) (IsLineCopyOfKinds separator quote) (IsLineCopyOfKinds separator quote) text start kinds index at own.end separator any before lines others
          (own.written ++ separator ∷ []) row.copied few own.after own.within own.mark_is (one.now_is ∙ ap (λ l. lines ++ l) own.copy_is)
          (λ second more rest copy line.
          let kind = get_or kinds index any in
          let field = slice_range text at own.end in
          subst (IsLineCopyOfKinds separator quote (kind ∷ second ∷ more) (field ++ separator ∷ rest)) (sym (append_assoc own.written (separator ∷ []) copy))
          (more-line separator quote kind second more field own.written rest copy own.cell line)));
    }

-- the last ends the row, where what is left is appended
pub copied-row : (text : List ℕ) (start : ℕ) (kinds : List Kind) (separator quote index from at from_now next : ℕ) (any : Kind) (before now later all : List ℕ)
    → IsCopiedBefore text start kinds separator quote index from at before now → index ≡ length kinds - 1 → 0 < length kinds
    → IsCellCopied text from from_now at (get_or kinds (length kinds - 1) any) 10 separator quote now later next → all ≡ later ++ slice_range text from_now next
    → IsRowCopied text start kinds separator quote before all (Some next)
copied-row text start kinds separator quote index from at from_now next any before now later all row last_is some one left =
    let own = one.cell in
    let lines = now ++ slice_range text from at in
    let ended = line-last (IsLineCopyOfKinds separator quote) (IsLineCopyOfKinds separator quote) text start kinds index at own.end any before lines all (own.written ++ 10 ∷ []) row.copied last_is some
    own.after own.within own.mark_is (left ∙ one.now_is ∙ ap (λ l. lines ++ l) own.copy_is)
    (last-line separator quote (get_or kinds (length kinds - 1) any) (slice_range text at own.end) own.written own.cell) in
    subst (λ n. IsRowCopied text start kinds separator quote before all (Some n)) (sym own.next_is) (record { copy = ended.copy; now_is = ended.now_is; line = ended.line })
