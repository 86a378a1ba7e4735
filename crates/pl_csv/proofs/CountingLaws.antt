-- What counting rows answers, by what the bytes are.
use Rattle.std.proofs.Common.{◌≡◌, ℕ, zero, suc, ◌+◌, ◌-◌, ◌≤◌, Bool, true, false, not, cond, List, [], ◌∷◌, ◌++◌, length, take, refl, sym, ◌∙◌, ap, subst, inl, inr, arith, append-nil, append_assoc, length-append}
use Rattle.std.specs.Prelude.{Option, None, Some, Result, Ok, Err, IfOk, IfErr, IsErrOf, ◌⊎◌, min, count_by}
use Rattle.std.specs.Borrow.{Bor}
use Rattle.std.specs.Option.{is_some}
use Rattle.std.specs.Io.KnownBytes.{Consumes, IsAtEnd}
use Rattle.std.proofs.lemmas.List.{length-take-le}
use Rattle.pl_frame.proofs.Known.{Consumes-nil, Consumes-append}
use Rattle.pl_frame.specs.Dialect.{Marks, IsDialect}
use Rattle.pl_frame.specs.declared.error.PolarsError.{PolarsError}
use Rattle.pl_frame.specs.declared.error.PolarsError.TheVariants as error
use Rattle.pl_scan.specs.Comment.{prefix_of}
use Rattle.pl_scan.specs.declared.comment.CommentPrefix.{CommentPrefix}
use Rattle.pl_scan.specs.Items.{items}
use Rattle.pl_scan.specs.RowCount.{cut_line_ends, is_row, row_count}
use Rattle.pl_scan.specs.RowStates.{Count, rows_with}
use Rattle.pl_frame.specs.Compression.{is_compressed}
use Rattle.pl_csv.specs.Counting.{CameWhole, IsHeld, HoldsSome, IsCountOf, no_dialect, compressed, counted, IsCountFault}

pub counted-plain : (has_header : Bool) (m : Marks) (comment : Option (List ℕ)) (bytes : List ℕ) → is_compressed bytes ≡ false
    → counted has_header m comment bytes ≡ Ok (row_count has_header m comment bytes)
counted-plain has_header m comment bytes e = ap (λ t. cond t (Err compressed) (Ok (row_count has_header m comment bytes))) e

-- ---- each answer by its cause

rows_by : (t : Bool) (n k : ℕ) → ◌≡◌ {A = Result ℕ PolarsError} (Ok n) (cond t (Err compressed) (Ok k)) → (t ≡ false) × (k ≡ n)
rows_by true n k e = absurd (cc)
rows_by false n k e = (refl, let same : n ≡ k = cc in sym same)

pub rows-of : (answer : Result ℕ PolarsError) (has_header : Bool) (m : Marks) (comment held : Option (List ℕ)) → HoldsSome held (λ bytes. IsCountOf has_header m comment bytes answer)
    → IfOk answer (λ n. IsDialect m comment × HoldsSome held (λ bytes. (is_compressed bytes ≡ false) × (row_count has_header m comment bytes ≡ n)))
rows-of (Err fault) has_header m comment held h = tt
rows-of (Ok n) has_header m comment held (bytes, is, inl h) = absurd (let e : ◌≡◌ {A = Result ℕ PolarsError} (Ok n) (Err no_dialect) = h.1 in cc)
rows-of (Ok n) has_header m comment held (bytes, is, inr h) = (h.0, (bytes, is, rows_by (is_compressed bytes) n (row_count has_header m comment bytes) h.1))

-- a count is refused only as compressed
refused_by : (t : Bool) (k : ℕ) (fault : PolarsError) → ◌≡◌ {A = Result ℕ PolarsError} (Err fault) (cond t (Err compressed) (Ok k)) → (t ≡ true) × (fault ≡ compressed)
refused_by true k fault e = (refl, let same : fault ≡ compressed = cc in same)
refused_by false k fault e = absurd (cc)

-- why a count is refused
pub cause-of : (fault : PolarsError) (has_header : Bool) (m : Marks) (comment held : Option (List ℕ)) → HoldsSome held (λ bytes. IsCountOf has_header m comment bytes (Err fault))
    → ((¬ IsDialect m comment) × (fault ≡ no_dialect)) ⊎ (IsDialect m comment × HoldsSome held (λ bytes. is_compressed bytes ≡ true) × (fault ≡ compressed))
cause-of fault has_header m comment held (bytes, is, inl h) = inl (h.0, let e : ◌≡◌ {A = Result ℕ PolarsError} (Err fault) (Err no_dialect) = h.1 in let same : fault ≡ no_dialect = cc in same)
cause-of fault has_header m comment held (bytes, is, inr h) =
    let why = refused_by (is_compressed bytes) (row_count has_header m comment bytes) fault h.1 in
    inr (h.0, (bytes, is, why.0), why.1)

pub io-of : (answer : Result ℕ PolarsError) (has_header : Bool) (m : Marks) (comment held : Option (List ℕ)) → HoldsSome held (λ bytes. IsCountOf has_header m comment bytes answer)
    → IsErrOf answer error.IO → ⊥
io-of answer has_header m comment held h e =
    by_cause (cause-of error.IO has_header m comment held (subst (λ r. HoldsSome held (λ bytes. IsCountOf has_header m comment bytes r)) e h))
  where
    by_cause : ((¬ IsDialect m comment) × (error.IO ≡ no_dialect)) ⊎ (IsDialect m comment × HoldsSome held (λ bytes. is_compressed bytes ≡ true) × (error.IO ≡ compressed)) → ⊥
    by_cause (inl c) = let e = c.1 in cc
    by_cause (inr c) = let e = c.2 in cc

pub dialect-of : (answer : Result ℕ PolarsError) (has_header : Bool) (m : Marks) (comment held : Option (List ℕ)) → HoldsSome held (λ bytes. IsCountOf has_header m comment bytes answer)
    → IsErrOf answer no_dialect → ¬ IsDialect m comment
dialect-of answer has_header m comment held h e =
    by_cause (cause-of no_dialect has_header m comment held (subst (λ r. HoldsSome held (λ bytes. IsCountOf has_header m comment bytes r)) e h))
  where
    by_cause : ((¬ IsDialect m comment) × (no_dialect ≡ no_dialect)) ⊎ (IsDialect m comment × HoldsSome held (λ bytes. is_compressed bytes ≡ true) × (no_dialect ≡ compressed)) → ¬ IsDialect m comment
    by_cause (inl c) = c.0
    by_cause (inr c) = absurd (let e = c.2 in cc)

pub compressed-of : (answer : Result ℕ PolarsError) (has_header : Bool) (m : Marks) (comment held : Option (List ℕ)) → HoldsSome held (λ bytes. IsCountOf has_header m comment bytes answer)
    → IsErrOf answer compressed → IsDialect m comment × HoldsSome held (λ bytes. is_compressed bytes ≡ true)
compressed-of answer has_header m comment held h e =
    by_cause (cause-of compressed has_header m comment held (subst (λ r. HoldsSome held (λ bytes. IsCountOf has_header m comment bytes r)) e h))
  where
    by_cause : ((¬ IsDialect m comment) × (compressed ≡ no_dialect)) ⊎ (IsDialect m comment × HoldsSome held (λ bytes. is_compressed bytes ≡ true) × (compressed ≡ compressed))
        → IsDialect m comment × HoldsSome held (λ bytes. is_compressed bytes ≡ true)
    by_cause (inl c) = absurd (let e = c.1 in cc)
    by_cause (inr c) = (c.0, c.1)

pub known-of : (answer : Result ℕ PolarsError) (has_header : Bool) (m : Marks) (comment held : Option (List ℕ)) → HoldsSome held (λ bytes. IsCountOf has_header m comment bytes answer)
    → IfErr answer IsCountFault
known-of (Ok n) has_header m comment held h = tt
known-of (Err fault) has_header m comment held h = by_cause (cause-of fault has_header m comment held h)
  where
    by_cause : ((¬ IsDialect m comment) × (fault ≡ no_dialect)) ⊎ (IsDialect m comment × HoldsSome held (λ bytes. is_compressed bytes ≡ true) × (fault ≡ compressed)) → IsCountFault fault
    by_cause (inl c) = inr (inl c.1)
    by_cause (inr c) = inr (inr (inl c.2))

pub no_dialect-of : (answer : Result ℕ PolarsError) (has_header : Bool) (m : Marks) (comment held : Option (List ℕ)) → HoldsSome held (λ bytes. IsCountOf has_header m comment bytes answer)
    → (¬ IsDialect m comment) → answer ≡ Err no_dialect
no_dialect-of answer has_header m comment held (bytes, is, inl h) none = h.1
no_dialect-of answer has_header m comment held (bytes, is, inr h) none = absurd (none h.0)

pub told-of : (answer : Result ℕ PolarsError) (has_header : Bool) (m : Marks) (comment held : Option (List ℕ)) → HoldsSome held (λ bytes. IsCountOf has_header m comment bytes answer)
    → (bytes : List ℕ) → held ≡ Some bytes → IsDialect m comment → answer ≡ counted has_header m comment bytes
told-of answer has_header m comment held (came, is, inl h) bytes told d = absurd (h.0 d)
told-of answer has_header m comment held (came, is, inr h) bytes told d =
    let same : bytes ≡ came = subst (λ o. IsHeld o came) told is in
    h.1 ∙ ap (counted has_header m comment) (sym same)

-- ---- a count by blocks

-- the marks of compressed streams have four bytes at most
pub compressed-front : (b : List ℕ) → is_compressed (take 4 b) ≡ is_compressed b
compressed-front [] = refl
compressed-front (x ∷ []) = refl
compressed-front (x ∷ y ∷ []) = refl
compressed-front (x ∷ y ∷ z ∷ []) = refl
compressed-front (x ∷ y ∷ z ∷ w ∷ b) = refl

take-more : (n : ℕ) (xs ys : List ℕ) → take n (xs ++ ys) ≡ take n xs ++ take (n - length (take n xs)) ys
take-more zero xs ys = refl
take-more (suc n) [] ys = let same : suc n ≡ suc n - 0 = omega arith in ap (λ k. take k ys) same
take-more (suc n) (x ∷ xs) ys =
    let same : n - length (take n xs) ≡ suc n - suc (length (take n xs)) = omega arith in
    ap (λ l. x ∷ l) (take-more n xs ys ∙ ap (λ k. take n xs ++ take k ys) same)

take-least : (k n : ℕ) (xs : List ℕ) → take k (take n xs) ≡ take (min n k) xs
take-least zero n xs = let least : 0 ≡ min n 0 = omega arith in ap (λ k. take k xs) least
take-least (suc k) zero xs = let least : 0 ≡ min 0 (suc k) = omega arith in ap (λ k. take k xs) least
take-least (suc k) (suc n) [] = let least : suc (min n k) ≡ min (suc n) (suc k) = omega arith in ap (λ j. take j []) least
take-least (suc k) (suc n) (x ∷ xs) =
    let least : suc (min n k) ≡ min (suc n) (suc k) = omega arith in
    ap (λ l. x ∷ l) (take-least k n xs) ∙ ap (λ j. take j (x ∷ xs)) least

-- what a loop has read and counted
pub record HasCounted (m : Marks) (before now : Option (List ℕ)) (front : List ℕ) (size : ℕ) (counter : Count) : Type 0 where
  pub bytes : List ℕ
  pub came : Consumes before now bytes
  pub size_is : length bytes ≡ size
  pub front_is : front ≡ take 4 bytes
  pub rows : (rest : List ℕ) → rows_with counter rest ≡ count_by (is_row None) (items m None (cut_line_ends m.line_end (bytes ++ rest)))

pub HasCounted-none : (m : Marks) (before : Option (List ℕ)) (counter : Count)
    → ((text : List ℕ) → rows_with counter text ≡ count_by (is_row None) (items m None (cut_line_ends m.line_end text)))
    → HasCounted m before before [] 0 counter
HasCounted-none m before counter rows = record { bytes = []; came = Consumes-nil before; size_is = refl; front_is = refl; rows = rows }

-- one more block
pub HasCounted-more : (m : Marks) (before now next : Option (List ℕ)) (front front' : List ℕ) (size count wanting : ℕ) (counter counter' : Count) (block : List ℕ)
    → HasCounted m before now front size counter → count ≤ length block → Consumes now next (take count block)
    → wanting ≡ min count (4 - length front) → front' ≡ front ++ take wanting block
    → ((rest : List ℕ) → rows_with counter' rest ≡ rows_with counter (take count block ++ rest))
    → HasCounted m before next front' (size + count) counter'
HasCounted-more m before now next front front' size count wanting counter counter' block done fits came least longer rows = record {
  bytes = done.bytes ++ take count block;
  came = Consumes-append before now next done.bytes (take count block) done.came came;
  size_is = length-append done.bytes (take count block) ∙ omega (arith, done.size_is, length-take-le count block fits);
  front_is =
      longer
      ∙ ap (λ k. front ++ take k block) least
      ∙ ap (λ l. front ++ l) (sym (take-least (4 - length front) count block))
      ∙ ap (λ f. f ++ take (4 - length f) (take count block)) done.front_is
      ∙ sym (take-more 4 done.bytes (take count block));
  rows = λ rest. rows rest ∙ done.rows (take count block ++ rest) ∙ ap (λ t. count_by (is_row None) (items m None (cut_line_ends m.line_end t))) (sym (append_assoc done.bytes (take count block) rest));
}

-- at the end of a source
pub HasCounted-all : (m : Marks) (has_header : Bool) (before now next : Option (List ℕ)) (front block : List ℕ) (size count rows : ℕ) (counter : Count) (marked : Bool)
    → HasCounted m before now front size counter → count ≡ 0 → Consumes now next (take count block) → IsAtEnd next
    → marked ≡ is_compressed front → rows ≡ rows_with counter [] - cond has_header 1 0
    → CameWhole before next (λ bytes. cond marked (Err compressed) (Ok rows) ≡ counted has_header m None bytes)
HasCounted-all m has_header before now next front block size count rows counter marked done none came ended is_marked is =
    let last : Consumes now next [] = subst (λ k. Consumes now next (take k block)) none came in
    let whole : Consumes before next done.bytes = subst (Consumes before next) (append-nil done.bytes) (Consumes-append before now next done.bytes [] done.came last) in
    let same : marked ≡ is_compressed done.bytes = is_marked ∙ ap is_compressed done.front_is ∙ compressed-front done.bytes in
    let number : rows ≡ row_count has_header m None done.bytes =
    is ∙ ap (λ n. n - cond has_header 1 0) (done.rows [] ∙ ap (λ t. count_by (is_row None) (items m None (cut_line_ends m.line_end t))) (append-nil done.bytes)) in
    (done.bytes, whole, ended, ap (λ t. cond t (Err compressed) (Ok rows)) same ∙ ap (λ n. cond (is_compressed done.bytes) (Err compressed) (Ok n)) number)

-- a count by blocks is the count under a dialect without comments
pub by_blocks : {E : Type 0} (result : Result (Result ℕ PolarsError) E) (has_header : Bool) (m : Marks) (comment before now : Option (List ℕ)) → comment ≡ None → IsDialect m None
    → IfOk result (λ answer. CameWhole before now (λ bytes. answer ≡ counted has_header m None bytes))
    → IfOk result (λ answer. CameWhole before now (λ bytes. IsCountOf has_header m comment bytes answer))
by_blocks (Ok answer) has_header m comment before now none d (bytes, came, ended, is) =
    subst (λ c. CameWhole before now (λ bytes. IsCountOf has_header m c bytes answer)) (sym none) (bytes, came, ended, inr (d, is))
by_blocks (Err fault) has_header m comment before now none d h = tt

-- no comment prefix is given
pub no_prefix : (prefix : Option (Bor CommentPrefix)) (t : Bool) → is_some prefix ≡ not t → t ≡ true → prefix_of prefix ≡ None
no_prefix None t _ _ = refl
no_prefix (Some p) t some none = absurd (let e : true ≡ not true = some ∙ ap not none in cc)

-- ---- a source that is drained

-- what a loop has passed
abbrev pub HasPassed : Option (List ℕ) → Option (List ℕ) → Type 0
HasPassed before now = (bytes : List ℕ) × Consumes before now bytes

pub HasPassed-more : (before now next : Option (List ℕ)) (block : List ℕ) → HasPassed before now → Consumes now next block → HasPassed before next
HasPassed-more before now next block passed came = (passed.0 ++ block, Consumes-append before now next passed.0 block passed.1 came)
