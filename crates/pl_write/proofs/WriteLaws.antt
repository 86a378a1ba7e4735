-- Writing a text in blocks.
use Rattle.std.proofs.Common.{◌≡◌, ℕ, zero, suc, ◌+◌, ◌-◌, ◌≤◌, List, [], ◌∷◌, ◌++◌, length, take, drop, refl, sym, ◌∙◌, ap, subst, append_assoc, append-nil, arith}
use Rattle.std.specs.Prelude.{Option, None, Some}
use Rattle.std.specs.Io.KnownBytes.{Appends}
use Rattle.std.specs.List.{flat_map, range_with_len}
use Rattle.std.proofs.lemmas.List.{take_at, take-append-drop}
use Rattle.pl_frame.specs.Frame.{ColumnValue, HaveHeight}
use Rattle.pl_text.specs.FrameText.{WriteOptions, row_line, row_lines}
use Rattle.pl_frame.proofs.Known.{Appends-more}
use Rattle.pl_write.specs.Lines.{HaveRows}
use Rattle.pl_write.specs.Strips.{strip_line, strip_lines}
use Rattle.pl_write.specs.Writing.{AppendsPrefix, IsWriting}
use Rattle.pl_write.specs.declared.strips.Strip.{Strip}

pub Appends-nil : (a : Option (List ℕ)) → Appends a a []
Appends-nil None = tt
Appends-nil (Some xs) = sym (append-nil xs)

pub AppendsPrefix-from : (old now : Option (List ℕ)) (front rest text : List ℕ) → front ++ rest ≡ text → Appends old now front → AppendsPrefix old now text
AppendsPrefix-from old now front rest text is appended =
    (length front, subst (λ l. Appends old now l) (sym (ap (take (length front)) (sym is) ∙ take_at front rest (length front) refl)) appended)

pub IsWriting-prefix : (old now : Option (List ℕ)) (block left text : List ℕ) → IsWriting old now block left text → AppendsPrefix old now text
IsWriting-prefix old now block left text writing =
    AppendsPrefix-from old now writing.flushed (block ++ left) text (sym (append_assoc writing.flushed block left) ∙ writing.whole) writing.appended

-- a line goes into the block
pub IsWriting-more : (old now : Option (List ℕ)) (block line left after text : List ℕ) → IsWriting old now block left text → left ≡ line ++ after
    → IsWriting old now (block ++ line) after text
IsWriting-more old now block line left after text writing is = record {
  flushed = writing.flushed;
  appended = writing.appended;
  whole =
      ap (λ l. l ++ after) (sym (append_assoc writing.flushed block line))
      ∙ append_assoc (writing.flushed ++ block) line after
      ∙ ap (λ l. (writing.flushed ++ block) ++ l) (sym is)
      ∙ writing.whole;
}

-- the block goes to the sink
pub IsWriting-flushed : (old now next : Option (List ℕ)) (block left text : List ℕ) → IsWriting old now block left text → Appends now next block → IsWriting old next [] left text
IsWriting-flushed old now next block left text writing appended = record {
  flushed = writing.flushed ++ block;
  appended = Appends-more old now next writing.flushed block writing.appended appended;
  whole = ap (λ l. l ++ left) (append-nil (writing.flushed ++ block)) ∙ writing.whole;
}

-- a part of the block goes to the sink
pub IsWriting-part : (old now next : Option (List ℕ)) (block left text : List ℕ) (n : ℕ) → IsWriting old now block left text → Appends now next (take n block) → AppendsPrefix old next text
IsWriting-part old now next block left text n writing appended =
    let f = writing.flushed in
    AppendsPrefix-from old next (f ++ take n block) (drop n block ++ left) text
    (append_assoc f (take n block) (drop n block ++ left)
    ∙ ap (λ l. f ++ l) (sym (append_assoc (take n block) (drop n block) left) ∙ ap (λ l. l ++ left) (take-append-drop n block))
    ∙ sym (append_assoc f block left)
    ∙ writing.whole)
    (Appends-more old now next f (take n block) writing.appended appended)

-- nothing is left behind the block
pub IsWriting-all : (old now next : Option (List ℕ)) (block text : List ℕ) → IsWriting old now block [] text → Appends now next block → Appends old next text
IsWriting-all old now next block text writing appended =
    subst (λ l. Appends old next l) (sym (append-nil (writing.flushed ++ block)) ∙ writing.whole) (Appends-more old now next writing.flushed block writing.appended appended)

-- what is in the block and a text behind it are written in the same way
pub IsWriting-then : (old now next : Option (List ℕ)) (block part left after last text : List ℕ) → IsWriting old now block left text → left ≡ part ++ after
    → IsWriting now next last [] (block ++ part) → IsWriting old next last after text
IsWriting-then old now next block part left after last text writing is more = record {
  flushed = writing.flushed ++ more.flushed;
  appended = Appends-more old now next writing.flushed more.flushed writing.appended more.appended;
  whole =
      ap (λ l. l ++ after)
      (append_assoc writing.flushed more.flushed last
      ∙ ap (λ l. writing.flushed ++ l) (sym (append-nil (more.flushed ++ last)) ∙ more.whole)
      ∙ sym (append_assoc writing.flushed block part))
      ∙ append_assoc (writing.flushed ++ block) part after
      ∙ ap (λ l. (writing.flushed ++ block) ++ l) (sym is)
      ∙ writing.whole;
}

-- the same, where the sink failed
pub IsWriting-failed : (old now next : Option (List ℕ)) (block part left after text : List ℕ) → IsWriting old now block left text → left ≡ part ++ after → AppendsPrefix now next (block ++ part)
    → AppendsPrefix old next text
IsWriting-failed old now next block part left after text writing is (n, appended) =
    IsWriting-part old now next (block ++ part) after text n (IsWriting-more old now block part left after text writing is) appended

-- ---- the texts of rows

-- those of some rows, and then those of the others
texts-both : (f : ℕ → List ℕ) (row a b : ℕ) → flat_map f (range_with_len row (a + b)) ≡ flat_map f (range_with_len row a) ++ flat_map f (range_with_len (row + a) b)
texts-both f row zero b =
    let none : zero + b ≡ b = omega arith in
    let here : row ≡ row + zero = omega arith in
    ap (λ n. flat_map f (range_with_len row n)) none ∙ ap (λ r. flat_map f (range_with_len r b)) here
texts-both f row (suc a) b =
    let more : suc a + b ≡ suc (a + b) = omega arith in
    let next : row + 1 + a ≡ row + suc a = omega arith in
    ap (λ n. flat_map f (range_with_len row n)) more
    ∙ ap (λ l. f row ++ l) (texts-both f (row + 1) a b ∙ ap (λ r. flat_map f (range_with_len (row + 1) a) ++ flat_map f (range_with_len r b)) next)
    ∙ sym (append_assoc (f row) (flat_map f (range_with_len (row + 1) a)) (flat_map f (range_with_len (row + suc a) b)))

texts-step : (f : ℕ → List ℕ) (row count height : ℕ) → row + count ≤ height
    → flat_map f (range_with_len row (height - row)) ≡ flat_map f (range_with_len row count) ++ flat_map f (range_with_len (row + count) (height - (row + count)))
texts-step f row count height inside =
    let all : height - row ≡ count + (height - (row + count)) = omega arith in
    ap (λ n. flat_map f (range_with_len row n)) all ∙ texts-both f row count (height - (row + count))

texts-none : (f : ℕ → List ℕ) (row height : ℕ) → height ≤ row → flat_map f (range_with_len row (height - row)) ≡ []
texts-none f row height past = let count : height - row ≡ 0 = omega arith in ap (λ n. flat_map f (range_with_len row n)) count

-- the lines of rows
pub row_lines-both : (o : WriteOptions) (columns : List ColumnValue) (row a b : ℕ) → row_lines o columns row (a + b) ≡ row_lines o columns row a ++ row_lines o columns (row + a) b
row_lines-both o columns row a b = texts-both (row_line o columns) row a b

pub row_lines-step : (o : WriteOptions) (columns : List ColumnValue) (row count height : ℕ) → row + count ≤ height
    → row_lines o columns row (height - row) ≡ row_lines o columns row count ++ row_lines o columns (row + count) (height - (row + count))
row_lines-step o columns row count height inside = texts-step (row_line o columns) row count height inside

pub row_lines-none : (o : WriteOptions) (columns : List ColumnValue) (row height : ℕ) → height ≤ row → row_lines o columns row (height - row) ≡ []
row_lines-none o columns row height past = texts-none (row_line o columns) row height past

pub strip_lines-step : (o : WriteOptions) (strips : List Strip) (row count height : ℕ) → row + count ≤ height
    → strip_lines o strips row (height - row) ≡ strip_lines o strips row count ++ strip_lines o strips (row + count) (height - (row + count))
strip_lines-step o strips row count height inside = texts-step (strip_line o strips) row count height inside

pub strip_lines-none : (o : WriteOptions) (strips : List Strip) (row height : ℕ) → height ≤ row → strip_lines o strips row (height - row) ≡ []
strip_lines-none o strips row height past = texts-none (strip_line o strips) row height past

-- so many rows as there are, or fewer, are rows of every column
pub HaveRows-height : (count height : ℕ) (columns : List ColumnValue) → HaveHeight height columns → count ≤ height → HaveRows count columns
HaveRows-height count height [] have inside = tt
HaveRows-height count height (column ∷ columns) have inside = (omega (arith, have.0), HaveRows-height count height columns have.1 inside)
