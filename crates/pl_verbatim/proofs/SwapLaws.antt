-- What is written of cells that stand as they are written is the same by another separator, where it does not stand in them; so what waits of a row is put with the separator changed.
use Rattle.std.proofs.Common.{◌≡◌, ℕ, zero, suc, ◌+◌, ◌-◌, ◌<◌, ◌≤◌, Bool, true, false, ◌&&◌, ◌||◌, ◌==◌, cond, if◌then◌else◌, List, [], ◌∷◌, ◌++◌, length, get_or, set, take, take-add, drop, map, Option, None, Some, refl, sym, ◌∙◌, ap, ap₂, subst, arith, append-nil, append_assoc}
use Rattle.std.specs.Prelude.{All, slice_index, slice_range}
use Rattle.std.specs.List.{AllByRecursion, join_with_byte, list_any}
use Rattle.std.proofs.lemmas.Bool.Decides.{nat_tests}
use Rattle.std.proofs.lemmas.List.{drop_all, drop-drop, drop-set-lt, get_or-drop, length-drop, map-append, take_more, take_more_set, take_rest, length-take-le, length-map}
use Rattle.std.proofs.Math.Seq.{drop-append_seam, take-append_seam, take-append-add}
use Rattle.memchr.specs.Find.{IsFirstByte, Nowhere, Passes, is_byte}
use Rattle.pl_frame.specs.declared.data_type.DataType.{DataType}
use Rattle.pl_frame.specs.Frame.{Scalar, Truth, Number, Letters}
use Rattle.pl_frame.specs.Schema.{Entry}
use Rattle.pl_frame.specs.Types.{is_numeric, is_readable}
use Rattle.pl_text.specs.ValueText.{printed}
use Rattle.pl_text.specs.FrameText.{WriteOptions, is_special, needs_quotes, doubled, quoted, written_null, written_text, written_cell}
use Rattle.pl_cells.specs.Cells.{cell}
use Rattle.pl_cells.specs.NullValues.{means_null}
use Rattle.pl_round_trip.specs.RoundTrip.{RowsReturn}
use Rattle.pl_round_trip.specs.Fits.{FitsOptions, FitsCell}
use Rattle.pl_round_trip.proofs.FieldLaws.{same_byte, lacks, lacks-both, lacks-first, lacks-none, lacks-plain, neither, number_type, truth_type}
use Rattle.pl_round_trip.proofs.PlainLaws.{printed-plain}
use Rattle.pl_round_trip.proofs.WrittenLaws.{readable}
use Rattle.pl_verbatim.specs.declared.form.Form.{Form}
use Rattle.pl_verbatim.specs.declared.kinds.Kind.{Kind}
use Rattle.pl_verbatim.specs.declared.verbatim.Verbatim.{Verbatim}
use Rattle.pl_verbatim.specs.CellTexts.{as_read, IsCellOf, IsChangeOf}
use Rattle.pl_verbatim.specs.Changes.{null_test_of, AreChangesOf, IsCellPut, IsChangeOfKind, IsFormOf, IsLineChangeOf, IsLineChangeOfKinds, IsRowPut}
use Rattle.pl_verbatim.specs.Kinds.{AreReadable, AreKindsOf, is_passed}
use Rattle.pl_verbatim.specs.Swaps.{swapped, IsSwap}
use Rattle.pl_verbatim.specs.Verbatim.{AreCellsOf, AreRowsCopied, IsLineOf}
use Rattle.pl_verbatim.proofs.CellLaws.{IsCellOfKind, no-written_null}
use Rattle.pl_verbatim.proofs.ChangeLaws.{read-options}
use Rattle.pl_verbatim.proofs.CopyLaws.{bare-written, cell-read, cell-field, value-written}
use Rattle.pl_verbatim.proofs.FrontLaws.{changed-more, copied-none}
use Rattle.pl_verbatim.proofs.FrontKeptLaws.{front-kept, put-behind}
use Rattle.pl_verbatim.proofs.NumberLaws.{slice-cons, slice-parts}
use Rattle.pl_verbatim.proofs.RowChangeLaws.{ArePutBefore, and-false, cell-column, put-column, put-none, put-row}
use Rattle.pl_verbatim.proofs.RowLaws.{IsLineOfKinds, nothing}
use Rattle.pl_verbatim.proofs.SameLaws.{alike-style}

-- ---- fields

-- a text that needs no quotes by one separator needs none by another that it lacks, and it lacks the first
other-bare : (s other q : ℕ) (xs : List ℕ) → list_any (is_special s q) xs ≡ false → lacks other xs ≡ true → (list_any (is_special other q) xs ≡ false) × (lacks s xs ≡ true)
other-bare s other q [] none lack = (refl, lacks-none s)
other-bare s other q (x ∷ xs) none lack =
    let parts = neither (is_special s q x) (list_any (is_special s q) xs) none in
    let last = neither ((x == s || x == 10) || x == 13) (x == q) parts.0 in
    let return = neither (x == s || x == 10) (x == 13) last.0 in
    let feed = neither (x == s) (x == 10) return.0 in
    let first = lacks-first other x xs lack in
    let rest = other-bare s other q xs parts.1 first.1 in
    (rw (first.0, feed.1, return.1, last.1) rest.0, lacks-both s x xs feed.0 rest.1)

needs-none : (s q : ℕ) (text : List ℕ) → (length text == 0) ≡ false → list_any (is_special s q) text ≡ false → needs_quotes s q text ≡ false
needs-none s q text some none = rw (some, none) refl

-- what is written of a text that doesn't stand between quotes, where the other separator does not stand in it: the same, and the first separator does not stand in it
text-same : (s : ℕ) (o : WriteOptions) (field text : List ℕ) → o.style ≡ 0 → ((rest : List ℕ) → field ≡ o.quote ∷ rest → ⊥) → lacks o.separator field ≡ true → field ≡ written_text (as_read s o) text
    → (field ≡ written_text o text) × (lacks s field ≡ true)
text-same s o field text style opens other is = by (needs_quotes s o.quote text) refl is
  where
    by : (t : Bool) → needs_quotes s o.quote text ≡ t → field ≡ (if t then quoted o.quote text else text) → (field ≡ written_text o text) × (lacks s field ≡ true)
    by true needs e = absurd (opens (doubled o.quote text ++ o.quote ∷ []) e)
    by false needs e =
        let parts = neither (length text == 0) (list_any (is_special s o.quote) text) needs in
        let bare = other-bare s o.separator o.quote text parts.1 (subst (λ l. lacks o.separator l ≡ true) e other) in
        (e ∙ bare-written o text style (needs-none o.separator o.quote text parts.0 bare.0), subst (λ l. lacks s l ≡ true) (sym e) bare.1)

-- and so of a cell
cell-same : (s : ℕ) (o : WriteOptions) (type : DataType) (value : Option Scalar) (field : List ℕ) → FitsOptions (as_read s o) → is_readable type ≡ true → FitsCell (as_read s o) type value → o.style ≡ 0
    → written_null o ≡ [] → ((rest : List ℕ) → field ≡ o.quote ∷ rest → ⊥) → lacks o.separator field ≡ true → field ≡ written_cell (as_read s o) type value → (field ≡ written_cell o type value) × (lacks s field ≡ true)
cell-same s o type None field fits can held style null opens other is = (is ∙ sym null, subst (λ l. lacks s l ≡ true) (sym is) (lacks-none s))
cell-same s o type (Some (Letters text)) field fits can held style null opens other is = text-same s o field text style opens other is
cell-same s o type (Some (Number n)) field fits can held style null opens other is =
    let read = readable (as_read s o) type (Number n) can held in
    let lack = lacks-plain s (printed type (Number n)) fits.separator (printed-plain type (Number n) (number_type type n read) read).1 in
    (is ∙ sym (value-written o (is_numeric type) (printed type (Number n)) style), subst (λ l. lacks s l ≡ true) (sym is) lack)
cell-same s o type (Some (Truth b)) field fits can held style null opens other is =
    let read = readable (as_read s o) type (Truth b) can held in
    let lack = lacks-plain s (printed type (Truth b)) fits.separator (printed-plain type (Truth b) (truth_type type b read) read).1 in
    (is ∙ sym (value-written o (is_numeric type) (printed type (Truth b)) style), subst (λ l. lacks s l ≡ true) (sym is) lack)

-- what does not stand in a text is not changed in it
swapped-none : (s t : ℕ) (text : List ℕ) → lacks s text ≡ true → swapped s t text ≡ text
swapped-none s t [] h = refl
swapped-none s t (x ∷ text) h =
    let first = lacks-first s x text h in
    ap₂ (λ y l. y ∷ l) (ap (λ b. if b then t else x) first.0) (swapped-none s t text first.1)

swapped-append : (s t : ℕ) (xs ys : List ℕ) → swapped s t (xs ++ ys) ≡ swapped s t xs ++ swapped s t ys
swapped-append s t xs ys = map-append (λ x. if x == s then t else x) xs ys

-- so what is written of a field of a kind is the field, and the swap changes nothing in it
cell-swapped : (s quote : ℕ) (form : Form) (own : Kind) (field : List ℕ) → IsSwap form → ((rest : List ℕ) → field ≡ quote ∷ rest → ⊥) → lacks form.separator field ≡ true → IsCellOfKind s quote own field
    → IsChangeOfKind s quote form (null_test_of form) own field (swapped s form.separator field)
cell-swapped s quote form own field swap opens other cells o type fits is can holds =
    let r = as_read s o in
    let options = read-options s quote form o is in
    let here : IsCellOf r type field = cells r type options holds in
    let same = cell-same s o type here.value field fits can here.fits (alike-style o form.separator quote form is swap.alike) (sym is.null_is ∙ swap.null_is) (λ rest e. opens rest (e ∙ ap (λ q. q ∷ rest) is.quote_is))
    (subst (λ t. lacks t field ≡ true) (sym is.separator_is) other) here.text_is in
    record {
      value = here.value;
      cell_is = λ reading missing.
          ap (λ n. cell reading (means_null n 0) (Some o.quote) type field) swap.nulls_are
          ∙ cell-read r type field fits (no-written_null r s quote options) can here reading missing;
      field_text = cell-field r type field fits can here;
      written_is = swapped-none s form.separator field same.1 ∙ same.0;
    }

-- what a byte does not stand in doesn't begin with it
lacks-opens : (c : ℕ) (field : List ℕ) → lacks c field ≡ true → (rest : List ℕ) → field ≡ c ∷ rest → ⊥
lacks-opens c field lack rest is = let first = lacks-first c c rest (subst (λ l. lacks c l ≡ true) is lack) in let no = first.0 in let yes = same_byte c in absurd (cc)

-- each of these texts lacks a byte
abbrev AllLack : ℕ → List (List ℕ) → Type 0
AllLack c texts = AllByRecursion (λ text. lacks c text ≡ true) texts

fields-same : (s quote : ℕ) (form : Form) (o : WriteOptions) (schema : List Entry) (fields : List (List ℕ)) → IsSwap form → IsFormOf o quote form → FitsOptions (as_read s o) → AreReadable (map Some schema)
    → AreCellsOf (as_read s o) schema fields → AllLack o.quote fields → AllLack o.separator fields → AreChangesOf (as_read s o) o (null_test_of form) (map Some schema) fields fields × AllLack s fields
fields-same s quote form o [] [] swap is fits can cells quotes others = (tt, tt)
fields-same s quote form o [] (field ∷ fields) swap is fits can cells quotes others = absurd cells
fields-same s quote form o (entry ∷ schema) [] swap is fits can cells quotes others = absurd cells
fields-same s quote form o (entry ∷ schema) (field ∷ fields) swap is fits can cells quotes others =
    let r = as_read s o in
    let here : IsCellOf r entry.1 field = cells.0 in
    let same = cell-same s o entry.1 here.value field fits can.0 here.fits (alike-style o form.separator quote form is swap.alike) (sym is.null_is ∙ swap.null_is) (lacks-opens o.quote field quotes.0) others.0 here.text_is in
    let rest = fields-same s quote form o schema fields swap is fits can.1 cells.1 quotes.1 others.1 in
    let change : IsChangeOf r o (null_test_of form) entry.1 field field =
    record {
      value = here.value;
      cell_is = λ reading missing.
          ap (λ n. cell reading (means_null n 0) (Some o.quote) entry.1 field) swap.nulls_are
          ∙ cell-read r entry.1 field fits (no-written_null r s quote (read-options s quote form o is)) can.0 here reading missing;
      field_text = cell-field r entry.1 field fits can.0 here;
      written_is = same.0;
    } in
    ((change, rest.0), (same.1, rest.1))

-- ---- lines

lacks-append : (c : ℕ) (xs ys : List ℕ) → lacks c (xs ++ ys) ≡ true → (lacks c xs ≡ true) × (lacks c ys ≡ true)
lacks-append c [] ys h = (lacks-none c, h)
lacks-append c (x ∷ xs) ys h =
    let first = lacks-first c x (xs ++ ys) h in
    let rest = lacks-append c xs ys first.1 in
    (lacks-both c x xs first.0 rest.0, rest.1)

-- what a line lacks each of its fields does
each-lacks : (c s : ℕ) (fields : List (List ℕ)) (tail : List ℕ) → lacks c (join_with_byte s fields ++ tail) ≡ true → AllLack c fields
each-lacks c s [] tail h = tt
each-lacks c s (field ∷ []) tail h = ((lacks-append c field tail h).0, tt)
each-lacks c s (field ∷ next ∷ fields) tail h =
    let rest = join_with_byte s (next ∷ fields) in
    let parts = lacks-append c field ((s ∷ rest) ++ tail) (subst (λ l. lacks c l ≡ true) (append_assoc field (s ∷ rest) tail) h) in
    (parts.0, each-lacks c s (next ∷ fields) tail (lacks-first c s (rest ++ tail) parts.1).1)

-- fields that lack a separator, which stands between them
swapped-join : (s t : ℕ) (fields : List (List ℕ)) → AllLack s fields → swapped s t (join_with_byte s fields) ≡ join_with_byte t fields
swapped-join s t [] all = refl
swapped-join s t (field ∷ []) all = swapped-none s t field all.0
swapped-join s t (field ∷ next ∷ fields) all =
    swapped-append s t field (s ∷ join_with_byte s (next ∷ fields))
    ∙ ap₂ (λ a b. a ++ b) (swapped-none s t field all.0) (ap₂ (λ x l. x ∷ l) (ap (λ b. if b then t else s) (same_byte s)) (swapped-join s t (next ∷ fields) all.1))

-- the line of a schema
swap-schema : (separator quote : ℕ) (form : Form) (kinds : List Kind) (line : List ℕ) → IsSwap form → lacks quote line ≡ true → lacks form.separator line ≡ true → IsLineOfKinds separator quote kinds line
    → (o : WriteOptions) (schema : List Entry) → FitsOptions (as_read separator o) → IsFormOf o quote form → AreReadable (map Some schema) → AreKindsOf (map Some schema) kinds
    → IsLineChangeOf (as_read separator o) o (null_test_of form) (map Some schema) line (swapped separator form.separator line)
swap-schema separator quote form kinds line swap quotes other lines o schema fits is can are =
    let r = as_read separator o in
    let own : IsLineOf r schema line = lines r schema (read-options separator quote form o is) are in
    let each : (c : ℕ) → lacks c line ≡ true → AllLack c own.fields = λ c h. each-lacks c separator own.fields (10 ∷ []) (subst (λ l. lacks c l ≡ true) own.line_is h) in
    let same = fields-same separator quote form o schema own.fields swap is fits can own.cells (each o.quote (subst (λ q. lacks q line ≡ true) (sym is.quote_is) quotes))
    (each o.separator (subst (λ s. lacks s line ≡ true) (sym is.separator_is) other)) in
    let apart = fits.dialect.distinct.0 in
    let feed : (10 == separator) ≡ false = grind (arith, nat_tests, apart) in
    record {
      fields = own.fields;
      written = own.fields;
      changes = same.0;
      line_is = own.line_is;
      copy_is = ap (swapped separator form.separator) own.line_is
          ∙ swapped-append separator form.separator (join_with_byte separator own.fields) (10 ∷ [])
          ∙ ap₂ (λ a b. a ++ b) (swapped-join separator form.separator own.fields same.1 ∙ ap (λ s. join_with_byte s own.fields) (sym is.separator_is))
          (ap (λ b. (if b then form.separator else 10) ∷ []) feed ∙ sym swap.alike.terminator_is ∙ is.terminator_is);
    }

-- where each column of the kinds is read, they are those of a schema
columns-read : (columns : List (Option Entry)) (kinds : List Kind) → All (λ own. is_passed own ≡ false) kinds → AreKindsOf columns kinds → (schema : List Entry) × (columns ≡ map Some schema)
columns-read [] [] none are = ([], refl)
columns-read [] (own ∷ kinds) none are = absurd are
columns-read (None ∷ columns) [] none are = absurd are
columns-read (Some entry ∷ columns) [] none are = absurd are
columns-read (None ∷ columns) (own ∷ kinds) none are = let passed = are.0 in let read = none 0 own (omega arith) in absurd (cc)
columns-read (Some entry ∷ columns) (own ∷ kinds) none are =
    let rest = columns-read columns kinds (λ k d below. none (suc k) d (omega (arith, below))) are.1 in
    (entry ∷ rest.0, ap (λ (l : List (Option Entry)). Some entry ∷ l) rest.1)

swap-line : (separator quote : ℕ) (form : Form) (kinds : List Kind) (line : List ℕ) → All (λ own. is_passed own ≡ false) kinds → IsSwap form → lacks quote line ≡ true → lacks form.separator line ≡ true → IsLineOfKinds separator quote kinds line
    → IsLineChangeOfKinds separator quote form kinds line (swapped separator form.separator line)
swap-line separator quote form kinds line whole swap quotes other lines o columns fits is can are =
    let some = columns-read columns kinds whole are in
    let own = swap-schema separator quote form kinds line swap quotes other lines o some.0 fits is (subst AreReadable some.1 can) (subst (λ l. AreKindsOf l kinds) some.1 are) in
    subst (λ l. IsLineChangeOf (as_read separator o) o (null_test_of form) l line (swapped separator form.separator line)) (sym some.1) own

-- ---- places

-- bytes that stand nowhere in a text
off : (t : Bool) → (t ≡ true → ⊥) → t ≡ false
off true never = absurd (never refl)
off false never = refl

lacks-front : (b : ℕ) (xs : List ℕ) (n : ℕ) → ((k : ℕ) → k < n → is_byte b (get_or xs k 0) ≡ false) → lacks b (take n xs) ≡ true
lacks-front b xs zero none = lacks-none b
lacks-front b [] (suc n) none = lacks-none b
lacks-front b (x ∷ xs) (suc n) none = lacks-both b x (take n xs) (none 0 (omega arith)) (lacks-front b xs n (λ k below. none (suc k) (omega (arith, below))))

pub lacks-slice : (b : ℕ) (text : List ℕ) (from to end : ℕ) → Nowhere (Passes (is_byte b) text) from to → end ≤ to → lacks b (slice_range text from end) ≡ true
lacks-slice b text from to end none high =
    lacks-front b (drop from text) (end - from) (λ k below. ap (is_byte b) (get_or-drop from text k 0) ∙ off (is_byte b (get_or text (from + k) 0)) (none (from + k) (omega arith) (omega (arith, below, high))))

-- up to the first such byte behind a place
nowhere-behind : (b : ℕ) (text : List ℕ) (from count : ℕ) → Nowhere (Passes (is_byte b) (drop from text)) 0 count → Nowhere (Passes (is_byte b) text) from (from + count)
nowhere-behind b text from count none k low high is =
    let place : from + (k - from) ≡ k = omega (arith, low) in
    none (k - from) (omega arith) (omega (arith, low, high)) (ap (is_byte b) (get_or-drop from text (k - from) 0 ∙ ap (λ n. get_or text n 0) place) ∙ is)

pub first-behind : (b : ℕ) (text : List ℕ) (from : ℕ) (found : Option ℕ) (count : ℕ) → IsFirstByte (is_byte b) (slice_range text from (length text)) found → found ≡ Some count
    → Nowhere (Passes (is_byte b) text) from (from + count)
first-behind b text from found count given is =
    let first : IsFirstByte (is_byte b) (slice_range text from (length text)) (Some count) = subst (IsFirstByte (is_byte b) (slice_range text from (length text))) is given in
    nowhere-behind b text from count (subst (λ l. Nowhere (Passes (is_byte b) l) 0 count) (take_rest text from) first.0.before)

pub none-behind : (b : ℕ) (text : List ℕ) (from : ℕ) (found : Option ℕ) → from ≤ length text → IsFirstByte (is_byte b) (slice_range text from (length text)) found → found ≡ None
    → Nowhere (Passes (is_byte b) text) from (length text)
none-behind b text from found inside given is =
    let place : from + length (drop from text) ≡ length text = omega (arith, inside, length-drop from text) in
    let none : IsFirstByte (is_byte b) (slice_range text from (length text)) None = subst (IsFirstByte (is_byte b) (slice_range text from (length text))) is given in
    subst (Nowhere (Passes (is_byte b) text) from) place (nowhere-behind b text from (length (drop from text)) (subst (λ l. Nowhere (Passes (is_byte b) l) 0 (length l)) (take_rest text from) none))

-- what stands at a place that has another byte doesn't begin with this one
pub not-opened : (text : List ℕ) (at end byte : ℕ) → at < length text → (get_or text at 0 ≡ byte → ⊥) → (rest : List ℕ) → slice_range text at end ≡ byte ∷ rest → ⊥
not-opened text at end byte inside other rest is = by (end - at) refl is
  where
    by : (n : ℕ) → end - at ≡ n → take n (drop at text) ≡ byte ∷ rest → ⊥
    by zero e same = absurd (omega (arith, ap length same))
    by (suc n) e same = other (sym (ap (λ l. get_or l 0 0) (slice-cons text at end inside (omega (arith, e)))) ∙ ap (λ l. get_or l 0 0) is)

-- ---- rows

-- none
pub swap-none : (verbatim : Verbatim) (other : ℕ) (text : List ℕ) (from : ℕ) → from ≤ length text
    → AreRowsCopied verbatim text from from 0 [] (swapped verbatim.separator other (slice_range text from from))
swap-none verbatim other text from inside =
    subst (AreRowsCopied verbatim text from from 0 []) (ap (swapped verbatim.separator other) (sym (nothing text from))) (copied-none verbatim text from [] inside)

-- one more
pub swap-more : (verbatim : Verbatim) (form : Form) (text : List ℕ) (from to end next rows : ℕ) (kinds : List Kind) → RowsReturn → verbatim.reads_all ≡ true → verbatim.form ≡ Some form → kinds ≡ verbatim.kinds.items → 0 < length kinds
    → IsSwap form → Nowhere (Passes (is_byte verbatim.quote_char) text) from to → Nowhere (Passes (is_byte form.separator) text) from to → end < next → next ≤ length text → next ≤ to
    → IsLineOfKinds verbatim.separator verbatim.quote_char kinds (slice_range text end next)
    → AreRowsCopied verbatim text from end rows [] (swapped verbatim.separator form.separator (slice_range text from end))
    → AreRowsCopied verbatim text from next (rows + 1) [] (swapped verbatim.separator form.separator (slice_range text from next))
swap-more verbatim form text from to end next rows kinds returns whole has same some swap quotes others after within before line copied =
    let s = verbatim.separator in
    let row = slice_range text end next in
    let lack : (c : ℕ) → Nowhere (Passes (is_byte c) text) from to → lacks c row ≡ true = λ c none. lacks-slice c text end to next (λ k low high. none k (omega (arith, low, copied.after)) high) before in
    changed-more verbatim form text from end next rows kinds [] (swapped s form.separator (slice_range text from end)) (swapped s form.separator (slice_range text from next)) copied returns has same some after within
    (record {
      copy = swapped s form.separator row;
      now_is = ap (swapped s form.separator) (slice-parts text from end next copied.after (omega (arith, after))) ∙ swapped-append s form.separator (slice_range text from end) row;
      line = swap-line s verbatim.quote_char form kinds row (subst (All (λ own. is_passed own ≡ false)) (sym same) (verbatim.whole whole)) swap (lack verbatim.quote_char quotes) (lack form.separator others) line;
    })

-- they are appended to lines
pub swap-behind : (verbatim : Verbatim) (text : List ℕ) (from end rows : ℕ) (copy before now : List ℕ) → AreRowsCopied verbatim text from end rows [] copy → now ≡ before ++ copy
    → AreRowsCopied verbatim text from end rows before now
swap-behind verbatim text from end rows copy before now copied is = record {
  copy = copied.copy;
  now_is = is ∙ ap (λ l. before ++ l) copied.now_is;
  after = copied.after;
  within = copied.within;
  printed = copied.printed;
}

-- a cell that is written as it stands waits
pub cell-waits : (text : List ℕ) (from at end next : ℕ) (own : Kind) (mark s quote : ℕ) (form : Form) (front : List ℕ) → IsSwap form → from ≤ at → at ≤ end → end < length text → slice_index text end ≡ mark → next ≡ end + 1
    → ((rest : List ℕ) → slice_range text at end ≡ quote ∷ rest → ⊥) → lacks form.separator (slice_range text at end) ≡ true → IsCellOfKind s quote own (slice_range text at end)
    → IsCellPut text at next own mark s quote form (front ++ swapped s form.separator (slice_range text from at)) (front ++ swapped s form.separator (slice_range text from (next - 1)))
cell-waits text from at end next own mark s quote form front swap low after within is behind opens other cells =
    let t = form.separator in
    let place : next - 1 ≡ end = omega (arith, behind) in
    record {
      end = end;
      next_is = behind;
      after = after;
      within = within;
      mark_is = is;
      written = swapped s t (slice_range text at end);
      now_is =
          ap (λ n. front ++ swapped s t (slice_range text from n)) place
          ∙ ap (λ l. front ++ l) (ap (swapped s t) (slice-parts text from at end low after) ∙ swapped-append s t (slice_range text from at) (slice_range text at end))
          ∙ sym (append_assoc front (swapped s t (slice_range text from at)) (swapped s t (slice_range text at end)));
      cell = cell-swapped s quote form own (slice_range text at end) swap opens other cells;
    }

-- behind one that was put nothing waits
pub cell-put : (text : List ℕ) (at end next : ℕ) (own : Kind) (mark s quote : ℕ) (form : Form) (before now : List ℕ) → next ≡ end + 1 → IsCellPut text at (end + 1) own mark s quote form before now
    → IsCellPut text at next own mark s quote form before (now ++ swapped s form.separator (slice_range text end (next - 1)))
cell-put text at end next own mark s quote form before now behind put =
    let place : next - 1 ≡ end = omega (arith, behind) in
    record {
      end = put.end;
      next_is = behind ∙ put.next_is;
      after = put.after;
      within = put.within;
      mark_is = put.mark_is;
      written = put.written;
      now_is = ap (λ n. now ++ swapped s form.separator (slice_range text end n)) place ∙ ap (λ l. now ++ swapped s form.separator l) (nothing text end) ∙ append-nil now ∙ put.now_is;
      cell = put.cell;
    }

-- the fields of the first kinds of a row are put, or wait; so does a separator behind them
pub record AreSwappedBefore (text : List ℕ) (start : ℕ) (kinds : List Kind) (s quote : ℕ) (form : Form) (index from at : ℕ) (before front : List ℕ) : Type 0 where
  pub seen : ℕ
  pub is_first : Bool
  pub joined_is : front ++ swapped s form.separator (slice_range text from at) ≡ (front ++ swapped s form.separator (slice_range text from seen)) ++ (if is_first then [] else form.separator ∷ [])
  pub row : ArePutBefore text start kinds s quote form index at is_first before (front ++ swapped s form.separator (slice_range text from seen))

-- none
pub swapped-first : (text : List ℕ) (start : ℕ) (kinds : List Kind) (s quote : ℕ) (form : Form) (from : ℕ) (front : List ℕ) → start ≤ length text
    → AreSwappedBefore text start kinds s quote form 0 from start (front ++ swapped s form.separator (slice_range text from start)) front
swapped-first text start kinds s quote form from front inside = record {
  seen = start;
  is_first = true;
  joined_is = sym (append-nil (front ++ swapped s form.separator (slice_range text from start)));
  row = put-none text start kinds s quote form (front ++ swapped s form.separator (slice_range text from start)) inside;
}

-- a mark is the last of what waits
mark-behind : (text : List ℕ) (from next s t : ℕ) (front : List ℕ) → from < next → next ≤ length text
    → front ++ swapped s t (slice_range text from next) ≡ (front ++ swapped s t (slice_range text from (next - 1))) ++ (if get_or text (next - 1) 0 == s then t else get_or text (next - 1) 0) ∷ []
mark-behind text from next s t front some within =
    let end = next - 1 in
    let low : from ≤ end = omega (arith, some) in
    let last : slice_range text end next ≡ get_or text end 0 ∷ [] =
    slice-cons text end next (omega (arith, some, within)) (omega (arith, some)) ∙ ap (λ l. get_or text end 0 ∷ l) (ap (λ n. slice_range text n next) (omega (arith, some)) ∙ nothing text next) in
    ap (λ l. front ++ l) (ap (swapped s t) (slice-parts text from end next low (omega arith)) ∙ swapped-append s t (slice_range text from end) (slice_range text end next))
    ∙ ap (λ l. front ++ (swapped s t (slice_range text from end) ++ swapped s t l)) last
    ∙ sym (append_assoc front (swapped s t (slice_range text from end)) ((if get_or text end 0 == s then t else get_or text end 0) ∷ []))

-- one more
pub swapped-column : (text : List ℕ) (start : ℕ) (kinds : List Kind) (s quote : ℕ) (form : Form) (index from at from_now next : ℕ) (any : Kind) (before front front_now : List ℕ) → All (λ own. is_passed own ≡ false) kinds
    → AreSwappedBefore text start kinds s quote form index from at before front → index + 1 < length kinds → from_now < next
    → IsCellPut text at next (get_or kinds index any) s s quote form (front ++ swapped s form.separator (slice_range text from at)) (front_now ++ swapped s form.separator (slice_range text from_now (next - 1)))
    → AreSwappedBefore text start kinds s quote form (index + 1) from_now next before front_now
swapped-column text start kinds s quote form index from at from_now next any before front front_now whole row few some put =
    let t = form.separator in
    let own = get_or kinds index any in
    let read : is_passed own ≡ false = whole index any (omega arith) in
    let place : next - 1 ≡ put.end = omega (arith, put.next_is) in
    let mark : get_or text (next - 1) 0 ≡ s = ap (λ n. get_or text n 0) place ∙ put.mark_is in
    let same : (get_or text (next - 1) 0 == s) ≡ true = grind (arith, nat_tests, mark) in
    record {
      seen = next - 1;
      is_first = row.is_first && is_passed own;
      joined_is =
          mark-behind text from_now next s t front_now some (omega (arith, put.next_is, put.within))
          ∙ ap₂ (λ b f. (front_now ++ swapped s t (slice_range text from_now (next - 1))) ++ (if f then [] else (if b then t else get_or text (next - 1) 0) ∷ [])) same (sym (and-false row.is_first) ∙ ap (λ b. row.is_first && b) (sym read));
      row =
          put-column text start kinds s quote form index at next row.is_first any before (front ++ swapped s t (slice_range text from row.seen)) (front_now ++ swapped s t (slice_range text from_now (next - 1))) row.row few
          (cell-column text at next own s s quote form row.is_first (front ++ swapped s t (slice_range text from row.seen)) (front ++ swapped s t (slice_range text from at)) (front_now ++ swapped s t (slice_range text from_now (next - 1))) read row.joined_is put);
    }

-- the last, and the line feed behind it
pub swapped-row : (text : List ℕ) (start : ℕ) (kinds : List Kind) (s quote : ℕ) (form : Form) (index from at from_now next : ℕ) (any : Kind) (before front front_now : List ℕ) → All (λ own. is_passed own ≡ false) kinds
    → IsSwap form → (s ≡ 10 → ⊥) → AreSwappedBefore text start kinds s quote form index from at before front → index ≡ length kinds - 1 → 0 < length kinds → from_now < next
    → IsCellPut text at next (get_or kinds (length kinds - 1) any) 10 s quote form (front ++ swapped s form.separator (slice_range text from at)) (front_now ++ swapped s form.separator (slice_range text from_now (next - 1)))
    → IsRowPut text start kinds s quote form before (front_now ++ swapped s form.separator (slice_range text from_now next)) next
swapped-row text start kinds s quote form index from at from_now next any before front front_now whole swap apart row last_is filled some put =
    let t = form.separator in
    let own = get_or kinds (length kinds - 1) any in
    let read : is_passed own ≡ false = whole (length kinds - 1) any (omega (arith, filled)) in
    let place : next - 1 ≡ put.end = omega (arith, put.next_is) in
    let mark : get_or text (next - 1) 0 ≡ 10 = ap (λ n. get_or text n 0) place ∙ put.mark_is in
    let other : (get_or text (next - 1) 0 == s) ≡ false = grind (arith, nat_tests, mark, apart) in
    put-row text start kinds s quote form index at next row.is_first any before (front ++ swapped s t (slice_range text from row.seen)) (front_now ++ swapped s t (slice_range text from_now (next - 1)))
    (front_now ++ swapped s t (slice_range text from_now next)) row.row last_is filled
    (cell-column text at next own 10 s quote form row.is_first (front ++ swapped s t (slice_range text from row.seen)) (front ++ swapped s t (slice_range text from at)) (front_now ++ swapped s t (slice_range text from_now (next - 1))) read row.joined_is put)
    (mark-behind text from_now next s t front_now some (omega (arith, put.next_is, put.within))
    ∙ ap₂ (λ b x. (front_now ++ swapped s t (slice_range text from_now (next - 1))) ++ (if b then t else x) ∷ []) other mark
    ∙ ap (λ l. (front_now ++ swapped s t (slice_range text from_now (next - 1))) ++ l) (sym swap.alike.terminator_is))

-- where nothing waits lines stay
pub swapped-nothing : (s t : ℕ) (text : List ℕ) (at : ℕ) (lines : List ℕ) → lines ++ swapped s t (slice_range text at at) ≡ lines
swapped-nothing s t text at lines = ap (λ l. lines ++ swapped s t l) (nothing text at) ∙ append-nil lines

-- where memory is wanting lines stay
pub unchanged : (t : Bool) (before now copy : List ℕ) → t ≡ false → now ≡ cond t (before ++ copy) before → before ≡ now
unchanged true before now copy wants is = absurd (cc)
unchanged false before now copy wants is = sym is

-- ---- bytes

-- a byte is changed
pub swap-same : (s t x y : ℕ) → x ≡ s → y ≡ t → y ≡ (if x == s then t else x)
swap-same s t x y here is = let same : (x == s) ≡ true = grind (arith, nat_tests, here) in is ∙ sym (ap (λ b. if b then t else x) same)

-- or stays
pub swap-other : (s t x y : ℕ) → (x ≡ s → ⊥) → y ≡ x → y ≡ (if x == s then t else x)
swap-other s t x y other is = let differ : (x == s) ≡ false = grind (arith, nat_tests, other) in is ∙ sym (ap (λ b. if b then t else x) differ)

-- one byte more is changed
pub swap-step : (s t : ℕ) (first bytes : List ℕ) (i y : ℕ) → i < length bytes → take i bytes ≡ swapped s t (take i first) → drop i bytes ≡ drop i first
    → y ≡ (if get_or bytes i 0 == s then t else get_or bytes i 0) → take (i + 1) (set bytes i y) ≡ swapped s t (take (i + 1) first)
swap-step s t first bytes i y inside front rest is =
    let short : i < length first = omega (arith, inside, ap length rest, length-drop i bytes, length-drop i first) in
    let place : i + 0 ≡ i = omega arith in
    let at : (l : List ℕ) → get_or (drop i l) 0 0 ≡ get_or l i 0 = λ l. get_or-drop i l 0 0 ∙ ap (λ n. get_or l n 0) place in
    let same : get_or bytes i 0 ≡ get_or first i 0 = sym (at bytes) ∙ ap (λ l. get_or l 0 0) rest ∙ at first in
    take_more_set bytes i y inside
    ∙ ap₂ (λ l x. l ++ x ∷ []) front (is ∙ ap (λ x. if x == s then t else x) same)
    ∙ sym (swapped-append s t (take i first) (get_or first i 0 ∷ []))
    ∙ ap (swapped s t) (sym (take_more first i 0 short))

pub swap-rest : (first bytes : List ℕ) (i y : ℕ) → drop i bytes ≡ drop i first → drop (i + 1) (set bytes i y) ≡ drop (i + 1) first
swap-rest first bytes i y rest = drop-set-lt (i + 1) bytes i y (omega arith) ∙ sym (drop-drop 1 i bytes) ∙ ap (drop 1) rest ∙ drop-drop 1 i first

-- what stands behind lines is changed
pub swap-lines : (s t m : ℕ) (before copy lines changed : List ℕ) → lines ≡ before ++ copy → m ≡ length before → changed ≡ swapped s t (take (length lines - m) (drop m lines))
    → take m lines ++ (changed ++ drop (length lines - m) (drop m lines)) ≡ before ++ swapped s t copy
swap-lines s t m before copy lines changed is long swap =
    let front : take m lines ≡ before = ap₂ take long is ∙ take-append_seam before copy in
    let back : drop m lines ≡ copy = ap₂ drop long is ∙ drop-append_seam before copy in
    let none : drop (length lines - m) (drop m lines) ≡ [] = drop_all (length lines - m) (drop m lines) (omega (arith, length-drop m lines)) in
    let now : changed ≡ swapped s t copy = swap ∙ ap (swapped s t) (take_rest lines m ∙ back) in
    ap₂ (λ a b. a ++ b) front (ap₂ (λ a b. a ++ b) now none ∙ append-nil (swapped s t copy))

-- so is what was put into a block
pub swap-front : (s t place end : ℕ) (old out bytes read : List ℕ) → place ≤ length old → end ≤ length out → take end out ≡ take place old ++ read → bytes ≡ swapped s t (take (end - place) (drop place out))
    → take end (take place out ++ (bytes ++ drop (end - place) (drop place out))) ≡ take place old ++ swapped s t read
swap-front s t place end old out bytes read low high is swap =
    let after = put-behind place end old out read low high is in
    let kept = front-kept place end old out read low high is in
    let part = take (end - place) (drop place out) in
    let rest = drop (end - place) (drop place out) in
    let front : length (take place out) ≡ place = length-take-le place out (omega (arith, after, high)) in
    let sum : place + (end - place) ≡ end = omega (arith, after) in
    let cut : take end out ≡ take place out ++ part = ap (λ n. take n out) (sym sum) ∙ take-add place (end - place) out in
    let own : part ≡ read =
    sym (drop-append_seam (take place out) part) ∙ ap (drop (length (take place out))) (sym cut ∙ is ∙ ap (λ l. l ++ read) (sym kept)) ∙ drop-append_seam (take place out) read in
    let long : length bytes ≡ end - place =
    ap length swap ∙ length-map part (λ x. if x == s then t else x) ∙ length-take-le (end - place) (drop place out) (omega (arith, high, length-drop place out)) in
    ap (λ n. take n (take place out ++ (bytes ++ rest))) (sym sum ∙ ap (λ n. n + (end - place)) (sym front))
    ∙ take-append-add (take place out) (bytes ++ rest) (end - place)
    ∙ ap (λ l. take place out ++ l) (ap (λ n. take n (bytes ++ rest)) (sym long) ∙ take-append_seam bytes rest)
    ∙ ap₂ (λ a b. a ++ b) kept (swap ∙ ap (swapped s t) own)
