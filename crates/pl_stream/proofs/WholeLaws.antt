-- An item whose line end came is the first item of every longer text.
use Rattle.std.proofs.Common.{◌≡◌, ℕ, suc, ◌+◌, ◌<◌, ◌≤◌, Bool, true, false, cond, not, ◌==◌, List, [], ◌∷◌, ◌++◌, length, take, drop, refl, sym, ◌∙◌, ap, subst, append_assoc, arith, inl, inr, length-append, length-drop, nat_eq}
use Rattle.std.specs.Prelude.{Option, Some, take_while}
use Rattle.std.specs.List.{prefix_len}
use Rattle.std.proofs.lemmas.Bool.Decides.{nat_tests}
use Rattle.std.proofs.lemmas.List.{length-take, length-take-le, take-append-le, drop-append-le, take-append-drop}
use Rattle.std.proofs.lemmas.List.Folds.{length-prefix_len}
use Rattle.std.proofs.lemmas.List.Sums.{prefix_len-le-length}
use Rattle.pl_frame.specs.Dialect.{Marks, IsCommentPrefix}
use Rattle.pl_scan.specs.Comment.{is_comment}
use Rattle.pl_scan.specs.Fields.{extent}
use Rattle.pl_scan.specs.Items.{ItemText, CommentText, RecordText, text_of, item}
use Rattle.pl_scan.specs.Laws.{IsEnded}
use Rattle.pl_scan.specs.Start.{behind_item}
use Rattle.pl_scan.proofs.AppendLaws.{ended-front, is_comment-append, prefix_len-front, extent-append}
use Rattle.pl_scan.proofs.ItemLaws.{IsRecordAt-extent}

pub drop-one : (n x : ℕ) (xs : List ℕ) → drop (1 + n) (x ∷ xs) ≡ drop n xs
drop-one n x xs = let one : 1 + n ≡ suc n = omega arith in ap (λ k. drop k (x ∷ xs)) one

-- a line end stands at a place
abbrev pub IsCut : ℕ → ℕ → List ℕ → Type 0
IsCut e k b = (t : List ℕ) × (drop k b ≡ e ∷ t)

cut-line : (e : ℕ) (b : List ℕ) → prefix_len (λ x. not (x == e)) b < length b → IsCut e (prefix_len (λ x. not (x == e)) b) b
cut-line e [] h = absurd (omega arith)
cut-line e (x ∷ xs) h = by (x == e) refl h (cut-line e xs)
  where
    at : Bool → ℕ
    at t = cond (not t) (1 + prefix_len (λ y. not (y == e)) xs) 0

    by : (t : Bool) → (x == e) ≡ t → at t < suc (length xs) → (prefix_len (λ y. not (y == e)) xs < length xs → IsCut e (prefix_len (λ y. not (y == e)) xs) xs) → IsCut e (at t) (x ∷ xs)
    by true same h deeper = let is : x ≡ e = grind (arith, nat_tests, same) in (xs, ap (λ y. y ∷ xs) is)
    by false other h deeper =
        let cut = deeper (omega arith) in
        (cut.0, drop-one (prefix_len (λ y. not (y == e)) xs) x xs ∙ cut.1)

-- the item at the front, by whether a comment begins there
abbrev item_by : Bool → Marks → List ℕ → ItemText
item_by t m b = cond t (CommentText (take_while (λ x. not (x == m.line_end)) b)) (RecordText (take (extent m b) b))

pub text-fits : (m : Marks) (comment : Option (List ℕ)) (b : List ℕ) → length (text_of (item m comment b)) ≤ length b
text-fits m comment b = by (is_comment comment b)
  where
    by : (t : Bool) → length (text_of (item_by t m b)) ≤ length b
    by true = omega (arith, length-prefix_len (λ x. not (x == m.line_end)) b, prefix_len-le-length (λ x. not (x == m.line_end)) b)
    by false = omega (arith, length-take (extent m b) b)

pub cut-item : (m : Marks) (comment : Option (List ℕ)) (b : List ℕ) → length (text_of (item m comment b)) < length b → IsCut m.line_end (length (text_of (item m comment b))) b
cut-item m comment b within = by (is_comment comment b) within
  where
    by : (t : Bool) → length (text_of (item_by t m b)) < length b → IsCut m.line_end (length (text_of (item_by t m b))) b
    by true within =
        let p : ℕ → Bool = λ x. not (x == m.line_end) in
        subst (λ k. IsCut m.line_end k b) (sym (length-prefix_len p b)) (cut-line m.line_end b (omega (arith, length-prefix_len p b)))
    by false within =
        let size : length (take (extent m b) b) ≡ extent m b = length-take-le (extent m b) b (IsRecordAt-extent m b).fits in
        subst (λ k. IsCut m.line_end k b) (sym size) (elim (IsRecordAt-extent m b).ended [
          | inl none ↦ absurd (omega (arith, ap length none, length-drop (extent m b) b))
          | inr some ↦ some
        ])

-- the front of a text up to the line end of its first item, and what stands behind that
pub record IsSplit (e : ℕ) (b front behind : List ℕ) : Type 0 where
  pub is : b ≡ front ++ behind
  pub ended : IsEnded e front
  pub some : 0 < length front

pub split-item : (m : Marks) (comment : Option (List ℕ)) (b : List ℕ) → length (text_of (item m comment b)) < length b → (front behind : List ℕ) × IsSplit m.line_end b front behind
split-item m comment b within =
    let k : ℕ = length (text_of (item m comment b)) in
    let cut = cut-item m comment b within in (
      take k b ++ m.line_end ∷ [],
      cut.0,
      record {
        is = sym (take-append-drop k b) ∙ ap (λ l. take k b ++ l) cut.1 ∙ sym (append_assoc (take k b) (m.line_end ∷ []) cut.0);
        ended = ended-front m.line_end (Some m.line_end) (take k b);
        some = omega (arith, length-append (take k b) (m.line_end ∷ []));
      },
    )

-- so no comment begins there that did not, whatever follows
pub comment-stays : (m : Marks) (comment : Option (List ℕ)) (b more : List ℕ) → IsCommentPrefix m.line_end comment → length (text_of (item m comment b)) < length b
    → is_comment comment (b ++ more) ≡ is_comment comment b
comment-stays m comment b more free within =
    let split = split-item m comment b within in
    let front : List ℕ = split.0 in
    let behind : List ℕ = split.1 in
    let is = split.2 in
    let long : b ++ more ≡ front ++ (behind ++ more) = ap (λ l. l ++ more) is.is ∙ append_assoc front behind more in
    ap (is_comment comment) long ∙ is_comment-append m.line_end comment front (behind ++ more) free is.ended is.some
    ∙ sym (ap (is_comment comment) is.is ∙ is_comment-append m.line_end comment front behind free is.ended is.some)

pub item-stays : (m : Marks) (comment : Option (List ℕ)) (b more : List ℕ) → IsCommentPrefix m.line_end comment → length (text_of (item m comment b)) < length b → item m comment (b ++ more) ≡ item m comment b
item-stays m comment b more free within = ap (λ t. item_by t m (b ++ more)) (comment-stays m comment b more free within) ∙ by (is_comment comment b) within
  where
    by : (t : Bool) → length (text_of (item_by t m b)) < length b → item_by t m (b ++ more) ≡ item_by t m b
    by true within =
        let p : ℕ → Bool = λ x. not (x == m.line_end) in
        let inside : prefix_len p b < length b = omega (arith, length-prefix_len p b) in
        ap (λ k. CommentText (take k (b ++ more))) (prefix_len-front p b more inside) ∙ ap (λ (l : List ℕ). CommentText l) (take-append-le (prefix_len p b) b more (omega arith))
    by false within =
        let inside : extent m b < length b = omega (arith, length-take-le (extent m b) b (IsRecordAt-extent m b).fits) in
        ap (λ k. RecordText (take k (b ++ more))) (extent-append m b more inside) ∙ ap (λ (l : List ℕ). RecordText l) (take-append-le (extent m b) b more (omega arith))

-- what stands behind it
pub behind-stays : (m : Marks) (comment : Option (List ℕ)) (b more : List ℕ) → IsCommentPrefix m.line_end comment → length (text_of (item m comment b)) < length b
    → behind_item m comment (b ++ more) ≡ drop (length (text_of (item m comment b)) + 1) b ++ more
behind-stays m comment b more free within =
    ap (λ (f : ItemText). drop (length (text_of f) + 1) (b ++ more)) (item-stays m comment b more free within)
    ∙ drop-append-le (length (text_of (item m comment b)) + 1) b more (omega arith)
