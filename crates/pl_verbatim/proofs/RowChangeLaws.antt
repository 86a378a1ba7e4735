-- What is put of a row is what is put of a field, and behind its separator what is put of the rest of the row.
use Rattle.std.proofs.Common.{◌≡◌, ℕ, ◌+◌, ◌-◌, ◌<◌, Bool, true, false, ◌&&◌, if◌then◌else◌, List, [], ◌∷◌, ◌++◌, length, get_or, take, Option, None, Some, refl, sym, ap, ap₂, ◌∙◌, subst, arith, append_assoc, append-nil, ◌≤◌}
use Rattle.std.specs.Prelude.{slice_range, IfSome, IfNone}
use Rattle.std.specs.List.{flat_map, join_with_byte}
use Rattle.pl_frame.specs.Schema.{Entry}
use Rattle.pl_text.specs.FrameText.{WriteOptions}
use Rattle.pl_cells.specs.NullTest.{NullTest}
use Rattle.pl_round_trip.specs.Fits.{FitsOptions}
use Rattle.pl_round_trip.specs.RoundTrip.{IsFieldText, line_marks}
use Rattle.pl_verbatim.specs.declared.form.Form.{Form}
use Rattle.pl_verbatim.specs.declared.kinds.Kind.{Kind}
use Rattle.pl_verbatim.specs.CellTexts.{as_read}
use Rattle.pl_verbatim.specs.Kinds.{AreReadable, AreKindsOf, is_passed}
use Rattle.pl_verbatim.specs.Changes.{null_test_of, field_marks, IsAnyField, IsFormOf, IsPutOf, AreChangesOf, IsLineChangeOfKinds, IsFieldPassed, IsCellPut, IsColumnPut, IsRowPut}
use Rattle.pl_verbatim.proofs.FrontKeptLaws.{front-kept, put-behind}
use Rattle.pl_verbatim.proofs.KindLaws.{not-passed}
use Rattle.pl_verbatim.proofs.RowStepLaws.{AreLinesBefore, line-step, line-last}

-- ---- fields

-- there is one for each column
pub count-fields : (r o : WriteOptions) (is_null : NullTest) (columns : List (Option Entry)) (texts written : List (List ℕ)) → AreChangesOf r o is_null columns texts written → length texts ≡ length columns
count-fields r o is_null [] [] [] are = refl
count-fields r o is_null [] [] (one ∷ others) are = absurd are
count-fields r o is_null [] (text ∷ texts) written are = absurd are
count-fields r o is_null (None ∷ columns) [] written are = absurd are
count-fields r o is_null (None ∷ columns) (text ∷ texts) written are = omega (arith, count-fields r o is_null columns texts written are.1)
count-fields r o is_null (Some entry ∷ columns) [] written are = absurd are
count-fields r o is_null (Some entry ∷ columns) (text ∷ texts) [] are = absurd are
count-fields r o is_null (Some entry ∷ columns) (text ∷ texts) (one ∷ others) are = omega (arith, count-fields r o is_null columns texts others are.1)

-- texts with a separator between two of them, and in front of the first unless it is the first of all
abbrev pub joined : Bool → ℕ → List (List ℕ) → List ℕ
joined true s texts = join_with_byte s texts
joined false s texts = flat_map (λ text. s ∷ text) texts

-- the first of them, and the others
join-more : (s : ℕ) (text : List ℕ) (texts : List (List ℕ)) → join_with_byte s (text ∷ texts) ≡ text ++ joined false s texts
join-more s text [] = sym (append-nil text)
join-more s text (next ∷ texts) = ap (λ l. text ++ s ∷ l) (join-more s next texts)

joined-more : (is_first : Bool) (s : ℕ) (text : List ℕ) (texts : List (List ℕ)) → joined is_first s (text ∷ texts) ≡ (if is_first then text else s ∷ text) ++ joined false s texts
joined-more true s text texts = join-more s text texts
joined-more false s text texts = refl

-- a separator stands in front of fields
join-field : (s : ℕ) (field : List ℕ) (fields : List (List ℕ)) (rest : List ℕ) → 0 < length fields → rest ≡ join_with_byte s fields ++ 10 ∷ [] → field ++ s ∷ rest ≡ join_with_byte s (field ∷ fields) ++ 10 ∷ []
join-field s field [] rest some is = absurd (omega (arith, some))
join-field s field (next ∷ fields) rest some is = ap (λ r. field ++ s ∷ r) is ∙ sym (append_assoc field (s ∷ join_with_byte s (next ∷ fields)) (10 ∷ []))

-- ---- lines

-- what is written of a line of columns, behind what is written of those before them
pub record IsRestChangeOf (r o : WriteOptions) (is_null : NullTest) (is_first : Bool) (columns : List (Option Entry)) (line copy : List ℕ) : Type 0 where
  pub fields : List (List ℕ)
  pub written : List (List ℕ)
  pub changes : AreChangesOf r o is_null columns fields written
  pub line_is : line ≡ join_with_byte r.separator fields ++ 10 ∷ []
  pub copy_is : copy ≡ joined is_first o.separator written ++ o.terminator

abbrev pub IsRestChangeOfKinds : ℕ → ℕ → Form → Bool → List Kind → List ℕ → List ℕ → Type 0
IsRestChangeOfKinds separator quote form is_first kinds line copy =
    (o : WriteOptions) (columns : List (Option Entry)) → FitsOptions (as_read separator o) → IsFormOf o quote form → AreReadable columns → AreKindsOf columns kinds
    → IsRestChangeOf (as_read separator o) o (null_test_of form) is_first columns line copy

-- each column has a kind
too-few : (column : Option Entry) (columns : List (Option Entry)) → AreKindsOf (column ∷ columns) [] → ⊥
too-few None columns are = are
too-few (Some entry) columns are = are

module _ (separator quote : ℕ) (form : Form) where
  -- a field of a column that is not read
  field-any : (o : WriteOptions) (field : List ℕ) → IsFormOf o quote form → IsAnyField separator quote field → IsFieldText (line_marks (as_read separator o)) field
  field-any o field is any = subst (λ q. IsFieldText (field_marks separator q) field) (sym is.quote_is) any

  -- what is put of the last field, and what ends the line
  last-rest : (passed is_first : Bool) (own : Kind) (field part : List ℕ) → is_passed own ≡ passed → IsPutOf passed is_first separator quote form own field part
      → IsRestChangeOfKinds separator quote form is_first (own ∷ []) (field ++ 10 ∷ []) (part ++ form.terminator.items)
  last-rest passed is_first own field part is_own put o [] fits is can are = absurd are
  last-rest true is_first own field part is_own put o (None ∷ []) fits is can are = record {
    fields = field ∷ [];
    written = [];
    changes = (field-any o field is put.1, tt);
    line_is = refl;
    copy_is = ap₂ (λ p t. p ++ t) put.0 is.terminator_is ∙ none is_first;
  }
    where
      none : (t : Bool) → [] ++ o.terminator ≡ joined t o.separator [] ++ o.terminator
      none true = refl
      none false = refl
  last-rest true is_first own field part is_own put o (Some entry ∷ []) fits is can are = absurd (not-passed own entry.1 is_own are.0)
  last-rest false is_first own field part is_own put o (None ∷ []) fits is can are = let other : is_passed own ≡ true = are.0 in absurd (cc)
  last-rest false is_first own field part is_own put o (Some entry ∷ []) fits is can are = record {
    fields = field ∷ [];
    written = put.0 ∷ [];
    changes = (put.2 o entry.1 fits is can.0 are.0, tt);
    line_is = refl;
    copy_is = (λ j. put.1 j ++ is.terminator_is j) ∙ sym (one put.0 is_first);
  }
    where
      one : (written : List ℕ) (t : Bool) → joined t o.separator (written ∷ []) ++ o.terminator ≡ (if t then written else form.separator ∷ written) ++ o.terminator
      one written true = refl
      one written false = ap (λ l. l ++ o.terminator) (append-nil (o.separator ∷ written)) ∙ ap (λ s. s ∷ (written ++ o.terminator)) is.separator_is
  last-rest passed is_first own field part is_own put o (None ∷ other ∷ columns) fits is can are = absurd (too-few other columns are.1)
  last-rest passed is_first own field part is_own put o (Some entry ∷ other ∷ columns) fits is can are = absurd (too-few other columns are.1)

  -- what is put of a field, a separator, and a line of one kind or more
  more-rest : (passed is_first : Bool) (own second : Kind) (kinds : List Kind) (field part rest copy : List ℕ) → is_passed own ≡ passed → IsPutOf passed is_first separator quote form own field part
      → IsRestChangeOfKinds separator quote form (is_first && passed) (second ∷ kinds) rest copy
      → IsRestChangeOfKinds separator quote form is_first (own ∷ second ∷ kinds) (field ++ separator ∷ rest) (part ++ copy)
  more-rest passed is_first own second kinds field part rest copy is_own put line o [] fits is can are = absurd are
  more-rest passed is_first own second kinds field part rest copy is_own put line o (None ∷ []) fits is can are = absurd are.1
  more-rest passed is_first own second kinds field part rest copy is_own put line o (Some entry ∷ []) fits is can are = absurd are.1
  more-rest true is_first own second kinds field part rest copy is_own put line o (None ∷ other ∷ columns) fits is can are =
      let behind = line o (other ∷ columns) fits is can.1 are.1 in
      let some : 0 < length behind.fields = omega (arith, count-fields (as_read separator o) o (null_test_of form) (other ∷ columns) behind.fields behind.written behind.changes) in
      record {
        fields = field ∷ behind.fields;
        written = behind.written;
        changes = (field-any o field is put.1, behind.changes);
        line_is = join-field separator field behind.fields rest some behind.line_is;
        copy_is = ap (λ p. p ++ copy) put.0 ∙ behind.copy_is ∙ ap (λ t. joined t o.separator behind.written ++ o.terminator) (both is_first);
      }
    where
      both : (t : Bool) → (t && true) ≡ t
      both true = refl
      both false = refl
  more-rest true is_first own second kinds field part rest copy is_own put line o (Some entry ∷ other ∷ columns) fits is can are = absurd (not-passed own entry.1 is_own are.0)
  more-rest false is_first own second kinds field part rest copy is_own put line o (None ∷ other ∷ columns) fits is can are = let passed : is_passed own ≡ true = are.0 in absurd (cc)
  more-rest false is_first own second kinds field part rest copy is_own put line o (Some entry ∷ other ∷ columns) fits is can are =
      let behind = line o (other ∷ columns) fits is can.1 are.1 in
      let some : 0 < length behind.fields = omega (arith, count-fields (as_read separator o) o (null_test_of form) (other ∷ columns) behind.fields behind.written behind.changes) in
      record {
        fields = field ∷ behind.fields;
        written = put.0 ∷ behind.written;
        changes = (put.2 o entry.1 fits is can.0 are.0, behind.changes);
        line_is = join-field separator field behind.fields rest some behind.line_is;
        copy_is =
            (λ j. put.1 j ++ behind.copy_is j)
            ∙ ap₂ (λ s t. (if is_first then put.0 else s ∷ put.0) ++ (joined t o.separator behind.written ++ o.terminator)) (sym is.separator_is) (neither is_first)
            ∙ sym (append_assoc (if is_first then put.0 else o.separator ∷ put.0) (joined false o.separator behind.written) o.terminator)
            ∙ ap (λ l. l ++ o.terminator) (sym (joined-more is_first o.separator put.0 behind.written));
      }
    where
      neither : (t : Bool) → (t && false) ≡ false
      neither true = refl
      neither false = refl

-- ---- rows

-- the fields of the first kinds of a row are put
abbrev pub ArePutBefore : List ℕ → ℕ → List Kind → ℕ → ℕ → Form → ℕ → ℕ → Bool → List ℕ → List ℕ → Type 0
ArePutBefore text start kinds separator quote form index at is_first before now =
    AreLinesBefore (IsRestChangeOfKinds separator quote form is_first) (IsLineChangeOfKinds separator quote form) text start kinds index at before now

-- none
pub put-none : (text : List ℕ) (start : ℕ) (kinds : List Kind) (separator quote : ℕ) (form : Form) (before : List ℕ) → start ≤ length text → ArePutBefore text start kinds separator quote form 0 start true before before
put-none text start kinds separator quote form before inside = record {
  after = omega arith;
  within = inside;
  copy = [];
  now_is = sym (append-nil before);
  line = λ end rest room line o columns fits is can are.
      let own = line o columns fits is can are in
      record { fields = own.fields; written = own.written; changes = own.changes; line_is = own.line_is; copy_is = own.copy_is };
}

-- of a column that is not read nothing is put
pub passed-put : (text : List ℕ) (at next : ℕ) (own : Kind) (mark separator quote : ℕ) (form : Form) (is_first : Bool) (now : List ℕ) → is_passed own ≡ true → IsFieldPassed text at mark separator quote next
    → IsColumnPut text at next own mark separator quote form is_first now now
passed-put text at next own mark separator quote form is_first now passed field = record {
  end = field.end;
  next_is = field.next_is;
  after = field.after;
  within = field.within;
  mark_is = field.mark_is;
  part = [];
  now_is = sym (append-nil now);
  put = subst (λ t. IsPutOf t is_first separator quote form own (slice_range text at field.end) []) (sym passed) (refl, field.field);
}

-- what is written of a cell, behind a separator unless it is the first
pub cell-column : (text : List ℕ) (at next : ℕ) (own : Kind) (mark separator quote : ℕ) (form : Form) (is_first : Bool) (before joins now : List ℕ) → is_passed own ≡ false
    → joins ≡ before ++ (if is_first then [] else form.separator ∷ []) → IsCellPut text at next own mark separator quote form joins now → IsColumnPut text at next own mark separator quote form is_first before now
cell-column text at next own mark separator quote form is_first before joins now read joined_is one = record {
  end = one.end;
  next_is = one.next_is;
  after = one.after;
  within = one.within;
  mark_is = one.mark_is;
  part = (if is_first then [] else form.separator ∷ []) ++ one.written;
  now_is = one.now_is ∙ ap (λ l. l ++ one.written) joined_is ∙ append_assoc before (if is_first then [] else form.separator ∷ []) one.written;
  put =
      subst (λ t. IsPutOf t is_first separator quote form own (slice_range text at one.end) ((if is_first then [] else form.separator ∷ []) ++ one.written)) (sym read)
      (one.written, marked is_first, one.cell);
}
  where
    marked : (first : Bool) → (if first then [] else form.separator ∷ []) ++ one.written ≡ (if first then one.written else form.separator ∷ one.written)
    marked true = refl
    marked false = refl

pub and-true : (t : Bool) → (t && true) ≡ t
and-true true = refl
and-true false = refl

pub and-false : (t : Bool) → (t && false) ≡ false
and-false true = refl
and-false false = refl

-- one more
pub put-column : (text : List ℕ) (start : ℕ) (kinds : List Kind) (separator quote : ℕ) (form : Form) (index at next : ℕ) (is_first : Bool) (any : Kind) (before now later : List ℕ)
    → ArePutBefore text start kinds separator quote form index at is_first before now → index + 1 < length kinds
    → IsColumnPut text at next (get_or kinds index any) separator separator quote form is_first now later
    → ArePutBefore text start kinds separator quote form (index + 1) next (is_first && is_passed (get_or kinds index any)) before later
put-column text start kinds separator quote form index at next is_first any before now later row few one =
    let own = get_or kinds index any in
    let still = is_first && is_passed own in
    subst (λ n. ArePutBefore text start kinds separator quote form (index + 1) n still before later) (sym one.next_is)
    (line-step (IsRestChangeOfKinds separator quote form is_first) (IsRestChangeOfKinds separator quote form still) (IsLineChangeOfKinds separator quote form) text start kinds index at one.end separator any
    before now later one.part row few one.after one.within one.mark_is one.now_is
    (λ second others rest copy line. more-rest separator quote form (is_passed own) is_first own second others (slice_range text at one.end) one.part rest copy refl one.put line))

-- the last, and what ends the line
pub put-row : (text : List ℕ) (start : ℕ) (kinds : List Kind) (separator quote : ℕ) (form : Form) (index at next : ℕ) (is_first : Bool) (any : Kind) (before now later all : List ℕ)
    → ArePutBefore text start kinds separator quote form index at is_first before now → index ≡ length kinds - 1 → 0 < length kinds
    → IsColumnPut text at next (get_or kinds (length kinds - 1) any) 10 separator quote form is_first now later → all ≡ later ++ form.terminator.items
    → IsRowPut text start kinds separator quote form before all next
put-row text start kinds separator quote form index at next is_first any before now later all row last_is some one ended_by =
    let own = get_or kinds (length kinds - 1) any in
    let part = one.part ++ form.terminator.items in
    let ended =
    line-last (IsRestChangeOfKinds separator quote form is_first) (IsLineChangeOfKinds separator quote form) text start kinds index at one.end any before now all part row last_is some one.after one.within one.mark_is
    (ended_by ∙ ap (λ l. l ++ form.terminator.items) one.now_is ∙ append_assoc now one.part form.terminator.items)
    (last-rest separator quote form (is_passed own) is_first own (slice_range text at one.end) one.part refl one.put) in
    subst (IsRowPut text start kinds separator quote form before all) (sym one.next_is) (record { copy = ended.copy; now_is = ended.now_is; line = ended.line })

-- ---- blocks

-- what stands in front stays, whether something is put or not
pub stays : (put : Option (ℕ × ℕ)) (text : List ℕ) (at : ℕ) (kind : Kind) (mark separator quote : ℕ) (form : Form) (place : ℕ) (old now : List ℕ) → place ≤ length old
    → IfSome put (λ p. IsCellPut text at (p.0 + 1) kind mark separator quote form (take place old) (take p.1 now)) → IfSome put (λ p. p.1 < length now) → IfNone put (now ≡ old) → take place now ≡ take place old
stays None text at kind mark separator quote form place old now low is within same = ap (take place) same
stays (Some p) text at kind mark separator quote form place old now low is within same = front-kept place p.1 old now is.written low (omega (arith, within)) is.now_is

-- and what is put stands behind it
pub grown : (put : Option (ℕ × ℕ)) (text : List ℕ) (at : ℕ) (kind : Kind) (mark separator quote : ℕ) (form : Form) (from place : ℕ) (old now : List ℕ) → from ≤ place → place ≤ length old
    → IfSome put (λ p. IsCellPut text at (p.0 + 1) kind mark separator quote form (take place old) (take p.1 now)) → IfSome put (λ p. p.1 < length now) → IfSome put (λ p. from ≤ p.1)
grown None text at kind mark separator quote form from place old now before low is within = tt
grown (Some p) text at kind mark separator quote form from place old now before low is within = omega (arith, before, put-behind place p.1 old now is.written low (omega (arith, within)) is.now_is)
