-- A text with more behind it: its data begins where that of the shorter text does.
use Rattle.std.proofs.Common.{◌≡◌, ℕ, zero, suc, ◌+◌, ◌<◌, Bool, true, false, cond, not, ◌||◌, ◌==◌, List, [], ◌∷◌, ◌++◌, length, drop, refl, sym, ◌∙◌, ap, subst, arith, length-drop, length-append, nat_eq}
use Rattle.std.specs.Prelude.{Option, None, Some}
use Rattle.std.specs.List.{prefix_len, starts_with, list_all}
use Rattle.std.proofs.lemmas.Bool.Decides.{nat_tests}
use Rattle.std.proofs.lemmas.List.{drop-append-le}
use Rattle.pl_frame.specs.Dialect.{Marks, IsCommentPrefix, IsDialect}
use Rattle.pl_frame.specs.ByteOrderMark.{byte_order_mark}
use Rattle.pl_scan.specs.Comment.{is_comment}
use Rattle.pl_scan.specs.Items.{ItemText, text_of, item}
use Rattle.pl_scan.specs.Laws.{IsEnded}
use Rattle.pl_scan.specs.Start.{Skips, skip_lines, unless_empty, skip_line, cut_mark, cut_ends, cut_head, behind_item, pass_items, pass_comments, pass_header, data_left}
use Rattle.pl_scan.proofs.AppendLaws.{ended-drop, starts-append, is_comment-append, prefix_len-front, item-append}
use Rattle.pl_scan.proofs.StartLaws.{pass_comments-turn, pass_comments-end, data_left-none, data_left-some, IsEndOf}

-- what a step leaves of a text and of the text with more behind it
pub record KeepsRest (e : ℕ) (rest now long : List ℕ) : Type 0 where
  pub is : long ≡ now ++ rest
  pub ended : IsEnded e now

-- so many bytes are dropped, and some are left
dropped : (e k : ℕ) (b rest : List ℕ) → IsEnded e b → 0 < length (drop k b) → KeepsRest e rest (drop k b) (drop k (b ++ rest))
dropped e k b rest ended some = record {
  is = drop-append-le k b rest (omega (arith, length-drop k b));
  ended = ended-drop e k b ended;
}

-- ---- the head

-- what stands behind the first line end
abbrev pub behind_end : ℕ → List ℕ → List ℕ
behind_end e b = drop (prefix_len (λ x. not (x == e)) b + 1) b

unless_empty-some : (b l : List ℕ) → 0 < length l → unless_empty b l ≡ l
unless_empty-some b [] h = absurd (omega arith)
unless_empty-some b (x ∷ l) h = refl

-- each of so many lines ends in the text, with a byte behind it
abbrev pub HaveEnds : ℕ → ℕ → List ℕ → Type 0
HaveEnds e zero b = Unit {0}
HaveEnds e (suc n) b = (0 < length (behind_end e b)) × HaveEnds e n (behind_end e b)

lines-append : (e n : ℕ) (b rest : List ℕ) → IsEnded e b → HaveEnds e n b → KeepsRest e rest (skip_lines e n b) (skip_lines e n (b ++ rest))
lines-append e zero b rest ended have = record { is = refl; ended = ended }
lines-append e (suc n) b rest ended have =
    let p : ℕ → Bool = λ x. not (x == e) in
    let size : ℕ = prefix_len p b in
    let some : 0 < length (drop (size + 1) b) = have.0 in
    let inside : size < length b = omega (arith, length-drop (size + 1) b) in
    let one = dropped e (size + 1) b rest ended some in
    let long : skip_line e (b ++ rest) ≡ drop (size + 1) b ++ rest =
    ap (λ k. unless_empty (b ++ rest) (drop (k + 1) (b ++ rest))) (prefix_len-front p b rest inside)
    ∙ ap (unless_empty (b ++ rest)) one.is ∙ unless_empty-some (b ++ rest) (drop (size + 1) b ++ rest) (omega (arith, length-append (drop (size + 1) b) rest)) in
    let short : skip_line e b ≡ drop (size + 1) b = unless_empty-some b (drop (size + 1) b) some in
    let others = lines-append e n (drop (size + 1) b) rest one.ended have.1 in
    record {
      is = ap (skip_lines e n) long ∙ others.is ∙ ap (λ l. skip_lines e n l ++ rest) (sym short);
      ended = subst (λ l. IsEnded e (skip_lines e n l)) (sym short) others.ended;
    }

-- no byte of a byte order mark is ASCII
mark-free : (e : ℕ) → e < 128 → list_all (λ x. not (x == e)) byte_order_mark ≡ true
mark-free e ascii =
    let one : (239 == e) ≡ false = grind (arith, nat_tests) in
    let two : (187 == e) ≡ false = grind (arith, nat_tests) in
    let three : (191 == e) ≡ false = grind (arith, nat_tests) in
    rw (one, two, three) refl

mark-append : (e : ℕ) (b rest : List ℕ) → e < 128 → IsEnded e b → 0 < length (cut_mark b) → KeepsRest e rest (cut_mark b) (cut_mark (b ++ rest))
mark-append e b rest ascii ended some =
    subst (λ t. KeepsRest e rest (cut_mark b) (cond t (drop 3 (b ++ rest)) (b ++ rest))) (sym (starts-append e byte_order_mark b rest (mark-free e ascii) ended (filled b some)))
    (by (starts_with nat_eq b byte_order_mark) some)
  where
    filled : (l : List ℕ) → 0 < length (cut_mark l) → 0 < length l
    filled [] h = h
    filled (x ∷ l) h = omega arith

    by : (t : Bool) → 0 < length (cond t (drop 3 b) b) → KeepsRest e rest (cond t (drop 3 b) b) (cond t (drop 3 (b ++ rest)) (b ++ rest))
    by true some = dropped e 3 b rest ended some
    by false some = record { is = refl; ended = ended }

ends-append : (e : ℕ) (b rest : List ℕ) → IsEnded e b → 0 < length (cut_ends e b) → KeepsRest e rest (cut_ends e b) (cut_ends e (b ++ rest))
ends-append e b rest ended some =
    let p : ℕ → Bool = λ x. x == e || x == 13 in
    let one = dropped e (prefix_len p b) b rest ended some in
    record {
      is = ap (λ k. drop k (b ++ rest)) (prefix_len-front p b rest (omega (arith, length-drop (prefix_len p b) b))) ∙ one.is;
      ended = one.ended;
    }

-- through both steps
both : (e : ℕ) (rest b long : List ℕ) (f : List ℕ → List ℕ) → KeepsRest e rest b long → (IsEnded e b → KeepsRest e rest (f b) (f (b ++ rest))) → KeepsRest e rest (f b) (f long)
both e rest b long f one two = subst (λ l. KeepsRest e rest (f b) (f l)) (sym one.is) (two one.ended)

head-append : (lines : ℕ) (keep : Bool) (e : ℕ) (b rest : List ℕ) → e < 128 → IsEnded e b → HaveEnds e lines b → 0 < length (cut_head lines keep e b)
    → KeepsRest e rest (cut_head lines keep e b) (cut_head lines keep e (b ++ rest))
head-append lines keep e b rest ascii ended have some =
    by_keep keep some
  where
    text : List ℕ → List ℕ
    text l = cond (lines == 0) (cut_mark l) (skip_lines e lines l)

    by_lines : (t : Bool) → 0 < length (cond t (cut_mark b) (skip_lines e lines b))
        → KeepsRest e rest (cond t (cut_mark b) (skip_lines e lines b)) (cond t (cut_mark (b ++ rest)) (skip_lines e lines (b ++ rest)))
    by_lines true some = mark-append e b rest ascii ended some
    by_lines false some = lines-append e lines b rest ended have

    filled : (l : List ℕ) → 0 < length (cut_ends e l) → 0 < length l
    filled l h = omega (arith, length-drop (prefix_len (λ x. x == e || x == 13) l) l)

    by_keep : (t : Bool) → 0 < length (cond t (text b) (cut_ends e (text b))) → KeepsRest e rest (cond t (text b) (cut_ends e (text b))) (cond t (text (b ++ rest)) (cut_ends e (text (b ++ rest))))
    by_keep true some = by_lines (lines == 0) some
    by_keep false some =
        both e rest (text b) (text (b ++ rest)) (cut_ends e) (by_lines (lines == 0) (filled (text b) some)) (λ shut. ends-append e (text b) rest shut some)

-- ---- items

item_behind-append : (m : Marks) (comment : Option (List ℕ)) (b rest : List ℕ) → IsCommentPrefix m.line_end comment → IsEnded m.line_end b → 0 < length (behind_item m comment b)
    → KeepsRest m.line_end rest (behind_item m comment b) (behind_item m comment (b ++ rest))
item_behind-append m comment b rest free ended some =
    let size : ℕ = length (text_of (item m comment b)) in
    let one = dropped m.line_end (size + 1) b rest ended some in
    record {
      is = ap (λ (f : ItemText). drop (length (text_of f) + 1) (b ++ rest)) (item-append m comment b rest free ended (omega (arith, length-drop (size + 1) b))) ∙ one.is;
      ended = one.ended;
    }

-- what is left behind items, where there are so many and something is left
pub record PassesItems (m : Marks) (comment : Option (List ℕ)) (n : ℕ) (rest b r : List ℕ) : Type 0 where
  pub is : pass_items m comment n (b ++ rest) ≡ Some (r ++ rest)
  pub ended : IsEnded m.line_end r
  pub some : 0 < length b

same : (b r : List ℕ) → ◌≡◌ {A = Option (List ℕ)} (Some b) (Some r) → b ≡ r
same b r is = cc

-- there is something before it
passed-some : (m : Marks) (comment : Option (List ℕ)) (n : ℕ) (b r : List ℕ) → pass_items m comment n b ≡ Some r → 0 < length r → 0 < length b
passed-some m comment zero b r is some = omega (arith, ap length (same b r is))
passed-some m comment (suc n) [] r is some = cc
passed-some m comment (suc n) (x ∷ xs) r is some = omega arith

items-append : (m : Marks) (comment : Option (List ℕ)) (n : ℕ) (b r rest : List ℕ) → IsCommentPrefix m.line_end comment → IsEnded m.line_end b → pass_items m comment n b ≡ Some r → 0 < length r
    → PassesItems m comment n rest b r
items-append m comment zero b r rest free ended is some = record {
  is = ap (λ (l : List ℕ). Some (l ++ rest)) (same b r is);
  ended = subst (IsEnded m.line_end) (same b r is) ended;
  some = passed-some m comment zero b r is some;
}
items-append m comment (suc n) [] r rest free ended is some = absurd (none is)
  where
    none : ◌≡◌ {A = Option (List ℕ)} None (Some r) → ⊥
    none h = cc
items-append m comment (suc n) (x ∷ xs) r rest free ended is some =
    let next : List ℕ = behind_item m comment (x ∷ xs) in
    let one = item_behind-append m comment (x ∷ xs) rest free ended (passed-some m comment n next r is some) in
    let others = items-append m comment n next r rest free one.ended is some in
    record {
      is = ap (pass_items m comment n) one.is ∙ others.is;
      ended = others.ended;
      some = omega arith;
    }

comments_within : (m : Marks) (comment : Option (List ℕ)) (n : ℕ) (b rest : List ℕ) → length b < n → IsCommentPrefix m.line_end comment → IsEnded m.line_end b → 0 < length b → 0 < length (pass_comments m comment b)
    → KeepsRest m.line_end rest (pass_comments m comment b) (pass_comments m comment (b ++ rest))
comments_within m comment zero b rest h free ended filled some = absurd (omega arith)
comments_within m comment (suc n) b rest h free ended filled some = by (is_comment comment b) refl (λ r l. comments_within m comment n r rest l free)
  where
    left : List ℕ
    left = behind_item m comment b

    begun : pass_comments m comment left ≡ pass_comments m comment b → 0 < length left
    begun turn = by_left left turn
      where
        by_left : (l : List ℕ) → pass_comments m comment l ≡ pass_comments m comment b → 0 < length l
        by_left [] turn = omega (arith, ap length turn)
        by_left (x ∷ l) turn = omega arith

    by : (t : Bool) → is_comment comment b ≡ t
        → ((r : List ℕ) → length r < n → IsEnded m.line_end r → 0 < length r → 0 < length (pass_comments m comment r)
        → KeepsRest m.line_end rest (pass_comments m comment r) (pass_comments m comment (r ++ rest)))
        → KeepsRest m.line_end rest (pass_comments m comment b) (pass_comments m comment (b ++ rest))
    by true is deeper =
        let turn = pass_comments-turn m comment b filled is in
        let there : is_comment comment (b ++ rest) ≡ true = is_comment-append m.line_end comment b rest free ended filled ∙ is in
        let turned = pass_comments-turn m comment (b ++ rest) (omega (arith, length-append b rest)) there in
        let more = begun (sym turn) in
        let one = item_behind-append m comment b rest free ended more in
        let shorter : length left < n = omega (arith, length-drop (length (text_of (item m comment b)) + 1) b) in
        let others = deeper left shorter one.ended more (omega (arith, ap length turn)) in
        record {
          is = turned ∙ ap (pass_comments m comment) one.is ∙ others.is ∙ ap (λ l. l ++ rest) (sym turn);
          ended = subst (IsEnded m.line_end) (sym turn) others.ended;
        }
    by false is deeper =
        let end = pass_comments-end m comment b is in
        let none : is_comment comment (b ++ rest) ≡ false = is_comment-append m.line_end comment b rest free ended filled ∙ is in
        record {
          is = pass_comments-end m comment (b ++ rest) none ∙ ap (λ l. l ++ rest) (sym end);
          ended = subst (IsEnded m.line_end) (sym end) ended;
        }

-- before comments there is something where something is left behind them
comments-some : (m : Marks) (comment : Option (List ℕ)) (b : List ℕ) → 0 < length (pass_comments m comment b) → 0 < length b
comments-some m comment [] some = some
comments-some m comment (x ∷ b) some = omega arith

comments-append : (m : Marks) (comment : Option (List ℕ)) (b rest : List ℕ) → IsCommentPrefix m.line_end comment → IsEnded m.line_end b → 0 < length (pass_comments m comment b)
    → KeepsRest m.line_end rest (pass_comments m comment b) (pass_comments m comment (b ++ rest))
comments-append m comment b rest free ended some = comments_within m comment (length b + 1) b rest (omega arith) free ended (comments-some m comment b some) some

-- the same of a header
header-some : (has_header : Bool) (m : Marks) (comment : Option (List ℕ)) (b : List ℕ) → 0 < length (pass_header has_header m comment b) → 0 < length b
header-some true m comment [] some = some
header-some false m comment [] some = some
header-some has_header m comment (x ∷ b) some = omega arith

header-append : (has_header : Bool) (m : Marks) (comment : Option (List ℕ)) (b rest : List ℕ) → IsCommentPrefix m.line_end comment → IsEnded m.line_end b → 0 < length (pass_header has_header m comment b)
    → KeepsRest m.line_end rest (pass_header has_header m comment b) (pass_header has_header m comment (b ++ rest))
header-append false m comment b rest free ended some = record { is = refl; ended = ended }
header-append true m comment [] rest free ended some = absurd (omega arith)
header-append true m comment (x ∷ b) rest free ended some = item_behind-append m comment (x ∷ b) rest free ended some

-- ---- the data

-- Where a text ends with a line end, its lines that are to be skipped are whole, and something is left of it as data, the data
-- of it with more behind it is its own with that behind it.
pub data_left-append : (o : Skips) (keep : Bool) (m : Marks) (comment : Option (List ℕ)) (b r rest : List ℕ) → IsDialect m comment → IsEnded m.line_end b → HaveEnds m.line_end o.lines b
    → data_left o keep m comment b ≡ Some r → 0 < length r → data_left o keep m comment (b ++ rest) ≡ Some (r ++ rest)
data_left-append o keep m comment b r rest dialect ended have is some = by (pass_items m comment o.rows (cut_head o.lines keep m.line_end b)) refl
  where
    by : (left : Option (List ℕ)) → pass_items m comment o.rows (cut_head o.lines keep m.line_end b) ≡ left → data_left o keep m comment (b ++ rest) ≡ Some (r ++ rest)
    by None e = absurd (none (sym (data_left-none o keep m comment b e) ∙ is))
      where
        none : ◌≡◌ {A = Option (List ℕ)} None (Some r) → ⊥
        none h = cc
    by (Some a) e =
        let head : List ℕ = cut_head o.lines keep m.line_end b in
        let body : List ℕ = pass_comments m comment a in
        let behind : List ℕ = pass_header o.has_header m comment body in
        let last : pass_items m comment o.after_header behind ≡ Some r = sym (data_left-some o keep m comment b a e) ∙ is in
        let behind_some : 0 < length behind = passed-some m comment o.after_header behind r last some in
        let body_some : 0 < length body = header-some o.has_header m comment body behind_some in
        let a_some : 0 < length a = comments-some m comment a body_some in
        let head_some : 0 < length head = passed-some m comment o.rows head a e a_some in
        let one = head-append o.lines keep m.line_end b rest dialect.line_end ended have head_some in
        let two = items-append m comment o.rows head a rest dialect.prefix one.ended e a_some in
        let three = comments-append m comment a rest dialect.prefix two.ended body_some in
        let four = both m.line_end rest body (pass_comments m comment (a ++ rest)) (pass_header o.has_header m comment) three (λ shut. header-append o.has_header m comment body rest dialect.prefix shut behind_some) in
        let five = items-append m comment o.after_header behind r rest dialect.prefix four.ended last some in
        data_left-some o keep m comment (b ++ rest) (a ++ rest) (ap (pass_items m comment o.rows) one.is ∙ two.is)
        ∙ ap (pass_items m comment o.after_header) four.is ∙ five.is

-- a text ends with a line end where what is left of it does
pub ended-whole : (e k : ℕ) (b : List ℕ) → 0 < length (drop k b) → IsEnded e (drop k b) → IsEnded e b
ended-whole e zero b some ended = ended
ended-whole e (suc k) [] some ended = refl
ended-whole e (suc k) (x ∷ []) some ended = let none : List ℕ = [] in absurd (omega (arith, length-drop k none))
ended-whole e (suc k) (x ∷ y ∷ ys) some ended = ended-whole e k (y ∷ ys) some ended

pub ended-data : (e : ℕ) (b r : List ℕ) → IsEndOf b r → 0 < length r → IsEnded e r → IsEnded e b
ended-data e b r is some ended = ended-whole e is.0 b (omega (arith, ap length is.1)) (subst (IsEnded e) (sym is.1) ended)
