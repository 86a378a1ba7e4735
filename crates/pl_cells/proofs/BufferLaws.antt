-- Laws of cells by the kind of their type.
use Rattle.std.proofs.Common.{◌≡◌, ℕ, ◌==◌, Bool, true, false, not, if◌then◌else◌, List, [], ◌∷◌, ◌++◌, length, Option, Some, None, Result, Ok, Err, refl, sym, ◌∙◌, ap, subst}
use Rattle.pl_frame.specs.declared.data_type.DataType.{DataType}
use Rattle.pl_frame.specs.declared.data_type.DataType.TheVariants as dtype
use Rattle.pl_frame.specs.Types.{is_text}
use Rattle.pl_cells.specs.Faults.{Fault}
use Rattle.pl_cells.specs.Faults as fault
use Rattle.pl_cells.specs.declared.cell_fault.CellFault.{CellFault}
use Rattle.pl_cells.specs.declared.cell_fault.CellFault.TheVariants as cell_fault
use Rattle.pl_cells.specs.Quoting.{is_well_quoted, inside, undouble}
use Rattle.std.specs.Option.{option_map}
use Rattle.std.specs.Str.{is_utf8}
use Rattle.std.proofs.lemmas.List.{map-append}
use Rattle.std.proofs.lemmas.Str.{utf8_lossy-IsUtf8, IsUtf8-from_is_utf8}
use Rattle.pl_frame.specs.Columns.{text_cells}
use Rattle.pl_frame.specs.Frame.{Scalar, Letters}
use Rattle.pl_cells.specs.declared.utf8.CsvEncoding.{CsvEncoding}
use Rattle.pl_cells.specs.declared.utf8.CsvEncoding.TheVariants as encodings
use Rattle.pl_cells.specs.BufferValue.{BufferValue, Answers, Adds, ListAnswers, IsCellFault, is_ignored, reading_of, reading_with}
use Rattle.pl_cells.specs.NullTest.{nothing_is_null}
use Rattle.pl_cells.specs.Cells.{missing_value, Cell, Reading, plain_cell, quoted_cell, stripped_cell, softened, value_or_null, value_text, string_cell, text_cell}

abbrev pub push_value : List (Option Scalar) → Option Scalar → List (Option Scalar)
push_value values value = values ++ value ∷ []

abbrev pub record_of : List ℕ → DataType → Option ℕ → CsvEncoding → List (Option Scalar) → BufferValue
record_of name type quote encoding values = record { name = name; dtype = type; quote_char = quote; encoding = encoding; values = values }

-- the cell of a type that holds no texts is its value or a null, in quotes or not
pub plain_value : (reading : Reading) (type : DataType) (text : List ℕ) → is_text type ≡ false → plain_cell reading type text ≡ value_or_null type (value_text type text)
plain_value reading dtype.Boolean [] h = refl
plain_value reading dtype.Boolean (x ∷ xs) h = refl
plain_value reading dtype.Int8 [] h = refl
plain_value reading dtype.Int8 (x ∷ xs) h = refl
plain_value reading dtype.Int16 [] h = refl
plain_value reading dtype.Int16 (x ∷ xs) h = refl
plain_value reading dtype.Int32 [] h = refl
plain_value reading dtype.Int32 (x ∷ xs) h = refl
plain_value reading dtype.Int64 [] h = refl
plain_value reading dtype.Int64 (x ∷ xs) h = refl
plain_value reading dtype.Int128 [] h = refl
plain_value reading dtype.Int128 (x ∷ xs) h = refl
plain_value reading dtype.UInt8 [] h = refl
plain_value reading dtype.UInt8 (x ∷ xs) h = refl
plain_value reading dtype.UInt16 [] h = refl
plain_value reading dtype.UInt16 (x ∷ xs) h = refl
plain_value reading dtype.UInt32 [] h = refl
plain_value reading dtype.UInt32 (x ∷ xs) h = refl
plain_value reading dtype.UInt64 [] h = refl
plain_value reading dtype.UInt64 (x ∷ xs) h = refl
plain_value reading dtype.Date [] h = refl
plain_value reading dtype.Date (x ∷ xs) h = refl
plain_value reading dtype.Time [] h = refl
plain_value reading dtype.Time (x ∷ xs) h = refl
plain_value reading dtype.Null [] h = refl
plain_value reading dtype.Null (x ∷ xs) h = refl
plain_value reading (dtype.Datetime u) [] h = refl
plain_value reading (dtype.Datetime u) (x ∷ xs) h = refl
plain_value reading (dtype.Decimal p s) [] h = refl
plain_value reading (dtype.Decimal p s) (x ∷ xs) h = refl
plain_value reading dtype.String text h = absurd (cc)
plain_value reading dtype.Categorical text h = absurd (cc)
plain_value reading (dtype.Enum c) text h = absurd (cc)

pub quoted_value : (reading : Reading) (q : ℕ) (type : DataType) (text : List ℕ) → is_text type ≡ false → quoted_cell reading q type text ≡ value_or_null type (value_text type text)
quoted_value reading q dtype.Boolean text h = refl
quoted_value reading q dtype.Int8 text h = refl
quoted_value reading q dtype.Int16 text h = refl
quoted_value reading q dtype.Int32 text h = refl
quoted_value reading q dtype.Int64 text h = refl
quoted_value reading q dtype.Int128 text h = refl
quoted_value reading q dtype.UInt8 text h = refl
quoted_value reading q dtype.UInt16 text h = refl
quoted_value reading q dtype.UInt32 text h = refl
quoted_value reading q dtype.UInt64 text h = refl
quoted_value reading q dtype.Date text h = refl
quoted_value reading q dtype.Time text h = refl
quoted_value reading q dtype.Null text h = refl
quoted_value reading q (dtype.Datetime u) text h = refl
quoted_value reading q (dtype.Decimal p s) text h = refl
quoted_value reading q dtype.String text h = absurd (cc)
quoted_value reading q dtype.Categorical text h = absurd (cc)
quoted_value reading q (dtype.Enum c) text h = absurd (cc)

-- what a buffer of values answers for a plain text, and for one between quotes
pub answers_plain : {T : Type 0} (old new : BufferValue) (type : DataType) (text counted : List ℕ) (ignore missing : Bool) (r : Result T CellFault) → type ≡ old.dtype
    → counted ≡ value_text type text → is_text type ≡ false → Answers old new (softened ignore (value_or_null old.dtype counted)) r
    → Answers old new (softened ignore (plain_cell (reading_of old missing ignore) old.dtype text)) r
answers_plain old new type text counted ignore missing r is counted_is no_text h =
    let here : is_text old.dtype ≡ false = subst (λ (t : DataType). is_text t ≡ false) is no_text in
    let same = ap (value_or_null old.dtype) (counted_is ∙ ap (λ (t : DataType). value_text t text) is) ∙ sym (plain_value (reading_of old missing ignore) old.dtype text here) in
    subst (λ (c : Cell). Answers old new (softened ignore c) r) same h

pub answers_quoted : {T : Type 0} (old new : BufferValue) (type : DataType) (text counted : List ℕ) (ignore missing : Bool) (q : ℕ) (r : Result T CellFault) → type ≡ old.dtype
    → counted ≡ value_text type text → is_text type ≡ false → Answers old new (softened ignore (value_or_null old.dtype counted)) r
    → Answers old new (softened ignore (quoted_cell (reading_of old missing ignore) q old.dtype text)) r
answers_quoted old new type text counted ignore missing q r is counted_is no_text h =
    let here : is_text old.dtype ≡ false = subst (λ (t : DataType). is_text t ≡ false) is no_text in
    let same = ap (value_or_null old.dtype) (counted_is ∙ ap (λ (t : DataType). value_text t text) is) ∙ sym (quoted_value (reading_of old missing ignore) q old.dtype text here) in
    subst (λ (c : Cell). Answers old new (softened ignore c) r) same h

-- ---- texts

-- UTF-8 is read as it is, under either encoding
pub string_valid : (encoding : CsvEncoding) (text : List ℕ) → is_utf8 text ≡ true → string_cell encoding text ≡ Ok (Some (Letters text))
string_valid encodings.Utf8 text e = rw e refl
string_valid encodings.LossyUtf8 text e = ap (λ (t : List ℕ). Ok (Some (Letters t))) (utf8_lossy-IsUtf8 text (IsUtf8-from_is_utf8 text e))

-- a list of texts with one more
pub added_text : (old new : List (Option (List ℕ))) (text t : List ℕ) (c : Cell) → new ≡ old ++ Some t ∷ [] → t ≡ text → c ≡ Ok (Some (Letters text)) → Adds push_value (text_cells old) (text_cells new) c
added_text old new text t c pushed same is = record {
  value = Some (Letters text);
  is = is;
  pushed = ap text_cells pushed ∙ map-append (option_map Letters) old (Some t ∷ []) ∙ ap (λ (l : List ℕ). text_cells old ++ Some (Letters l) ∷ []) same;
}

-- what is not missing is read by its text
pub plain_some : (reading : Reading) (type : DataType) (text : List ℕ) → (length text == 0) ≡ false → plain_cell reading type text ≡ text_cell reading type text
plain_some reading type [] e = absurd (cc)
plain_some reading type (x ∷ xs) e = refl

-- between quotes a text is undoubled
pub quoted_text : (reading : Reading) (q : ℕ) (type : DataType) (text : List ℕ) → is_text type ≡ true → quoted_cell reading q type text ≡ text_cell reading type (undouble q text)
quoted_text reading q type text is = rw is refl

-- ---- faults that are ignored

pub softened_ok : (ignore : Bool) (c : Cell) (value : Option Scalar) → c ≡ Ok value → softened ignore c ≡ Ok value
softened_ok true c value e = rw e refl
softened_ok false c value e = rw e refl

softened_fault : (ignore : Bool) (c : Cell) (kind : Fault) → c ≡ Err kind → softened ignore (Err kind) ≡ Err kind → softened ignore c ≡ Err kind
softened_fault ignore c kind e same = ap (softened ignore) e ∙ same

pub fault_kept : (ignore : Bool) (wrong : CellFault) (c : Cell) → IsCellFault wrong c → is_ignored ignore wrong ≡ false → IsCellFault wrong (softened ignore c)
fault_kept true cell_fault.Escape c e h = softened_fault true c fault.Escape e refl
fault_kept true cell_fault.Utf8 c e h = absurd (cc)
fault_kept true cell_fault.Value c e h = absurd (cc)
fault_kept true cell_fault.OutOfMemory c e h = tt
fault_kept false cell_fault.Escape c e h = softened_fault false c fault.Escape e refl
fault_kept false cell_fault.Utf8 c e h = softened_fault false c fault.Utf8 e refl
fault_kept false cell_fault.Value c e h = softened_fault false c fault.Value e refl
fault_kept false cell_fault.OutOfMemory c e h = tt

-- ---- from a list to its buffer

-- a buffer whose list answered
pub buffer_answers : {T : Type 0} (old : BufferValue) (name : List ℕ) (type type' : DataType) (quote : Option ℕ) (encoding : CsvEncoding) (values values' : List (Option Scalar)) (c c' : Cell)
    (r : Result T CellFault)
    → record_of name type quote encoding values ≡ old → type' ≡ type → c ≡ c' → ListAnswers values values' c r → Answers old (record_of name type' quote encoding values') c' r
buffer_answers {T = T} old name type type' quote encoding values values' c c' r is same cells h =
    subst (λ (o : BufferValue). Answers o (record_of name type' quote encoding values') c' r) is (subst (λ (d : Cell). Answers (record_of name type quote encoding values) (record_of name type' quote encoding values') d r) cells (by r h))
  where
    by : (s : Result T CellFault) → ListAnswers values values' c s → Answers (record_of name type quote encoding values) (record_of name type' quote encoding values') c s
    by (Ok done) added = record { value = added.value; is = added.is; pushed = (λ j. record_of name (same j) quote encoding (added.pushed j)) }
    by (Err wrong) (e, unchanged) = (e, (λ j. record_of name (same j) quote encoding (unchanged j)))

-- the cell of a text of a buffer, by how its list reads it
pub plain_same : (view old : BufferValue) (missing ignore : Bool) (text : List ℕ) → view ≡ old → (length text == 0) ≡ false
    → softened ignore (text_cell (reading_of view missing ignore) view.dtype text) ≡ softened ignore (plain_cell (reading_of old missing ignore) old.dtype text)
plain_same view old missing ignore text is some =
    ap (softened ignore) (sym (plain_some (reading_of view missing ignore) view.dtype text some)) ∙ ap (λ (b : BufferValue). softened ignore (plain_cell (reading_of b missing ignore) b.dtype text)) is

pub quoted_same : (view old : BufferValue) (missing ignore : Bool) (q : ℕ) (text t : List ℕ) → view ≡ old → t ≡ undouble q text → is_text view.dtype ≡ true
    → softened ignore (text_cell (reading_of view missing ignore) view.dtype t) ≡ softened ignore (quoted_cell (reading_of old missing ignore) q old.dtype text)
quoted_same view old missing ignore q text t is same texts =
    ap (softened ignore) (ap (text_cell (reading_of view missing ignore) view.dtype) same ∙ sym (quoted_text (reading_of view missing ignore) q view.dtype text texts))
    ∙ ap (λ (b : BufferValue). softened ignore (quoted_cell (reading_of b missing ignore) q b.dtype text)) is

-- ---- fields

-- the cell of a field that begins with the quote, by whether it is well quoted
abbrev pub by_quoting : Reading → ℕ → DataType → List ℕ → Bool → Cell
by_quoting reading q type text well = if not well then Err fault.Escape else softened reading.ignore_errors (quoted_cell reading q type (inside text))

pub quoted_inside : {T : Type 0} (old new : BufferValue) (ignore : Bool) (q : ℕ) (field text : List ℕ) (r : Result T CellFault) → is_well_quoted q field ≡ true → text ≡ inside field
    → Answers old new (softened ignore (quoted_cell (reading_of old true ignore) q old.dtype text)) r
    → Answers old new (stripped_cell (reading_of old true ignore) nothing_is_null (Some q) old.dtype field) r
quoted_inside old new ignore q field text r well is h =
    let cells : softened ignore (quoted_cell (reading_of old true ignore) q old.dtype text) ≡ stripped_cell (reading_of old true ignore) nothing_is_null (Some q) old.dtype field =
    ap (λ (t : List ℕ). softened ignore (quoted_cell (reading_of old true ignore) q old.dtype t)) is
    ∙ (λ j. by_quoting (reading_of old true ignore) q old.dtype field (sym well j)) in
    subst (λ (c : Cell). Answers old new c r) cells h
