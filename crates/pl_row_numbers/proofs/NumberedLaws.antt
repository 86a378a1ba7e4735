-- A text that is numbered part by part.
use Rattle.std.proofs.Common.{◌≡◌, ℕ, ◌+◌, ◌<◌, Bool, false, not, ◌==◌, cond, List, [], ◌∷◌, ◌++◌, length, take, drop, refl, sym, ◌∙◌, ap, append_assoc, arith}
use Rattle.std.proofs.Math.Seq.{take-add}
use Rattle.std.proofs.lemmas.List.{take-append-drop, drop-drop}
use Rattle.pl_scan.specs.Bits.{xor}
use Rattle.pl_row_numbers.specs.Numbered.{next_line, in_line, next_stand, stand_behind, front_at, numbered}
use Rattle.pl_row_numbers.specs.Parts.{is_end, Goes, IsLast}
use Rattle.pl_row_numbers.specs.declared.fronts.FrontForm.{FrontForm}
use Rattle.pl_row_numbers.specs.declared.numbering.Stand.{Stand}
use Rattle.pl_row_numbers.proofs.QuoteLaws.{Goes-first}

-- a text and what stands behind it
pub numbered-append : (form : FrontForm) (s : Stand) (xs ys : List ℕ) → numbered form s (xs ++ ys) ≡ numbered form s xs ++ numbered form (stand_behind s xs) ys
numbered-append form s [] ys = refl
numbered-append form s (x ∷ xs) ys =
    ap (λ l. front_at form s ++ x ∷ l) (numbered-append form (next_stand s x) xs ys)
    ∙ sym (append_assoc (front_at form s) (x ∷ numbered form (next_stand s x) xs) (numbered form (stand_behind (next_stand s x) xs) ys))

pub stand_behind-append : (s : Stand) (xs ys : List ℕ) → stand_behind s (xs ++ ys) ≡ stand_behind (stand_behind s xs) ys
stand_behind-append s [] ys = refl
stand_behind-append s (x ∷ xs) ys = stand_behind-append (next_stand s x) xs ys

-- behind a byte that ends no line
pub next-in_line : (s : Stand) (x : ℕ) → is_end s.odd x ≡ false → next_stand s x ≡ in_line s (xor (x == 34) s.odd)
next-in_line s x stays = ap (λ t. cond t (next_line s) (in_line s (xor (x == 34) s.odd))) stays

-- in a line, where none ends
numbered-inside : (form : FrontForm) (s : Stand) (odd last : Bool) (text : List ℕ) → Goes odd text last
    → (numbered form (in_line s odd) text ≡ text) × (stand_behind (in_line s odd) text ≡ in_line s last)
numbered-inside form s odd last [] goes = (refl, ap (in_line s) goes.odd_is)
numbered-inside form s odd last (x ∷ xs) goes =
    let first = Goes-first odd last x xs goes in
    let next : next_stand (in_line s odd) x ≡ in_line s (xor (x == 34) odd) = next-in_line (in_line s odd) x first.0 in
    let rest = numbered-inside form s (xor (x == 34) odd) last xs first.1 in
    (ap (λ l. x ∷ l) (ap (λ t. numbered form t xs) next ∙ rest.0), ap (λ t. stand_behind t xs) next ∙ rest.1)

-- bytes in which no line ends
pub numbered-part : (form : FrontForm) (s : Stand) (last : Bool) (text : List ℕ) → 0 < length text → Goes s.odd text last
    → (numbered form s text ≡ front_at form s ++ text) × (stand_behind s text ≡ in_line s last)
numbered-part form s last [] some goes = absurd (omega (arith, some))
numbered-part form s last (x ∷ xs) some goes =
    let first = Goes-first s.odd last x xs goes in
    let next = next-in_line s x first.0 in
    let rest = numbered-inside form s (xor (x == 34) s.odd) last xs first.1 in
    (ap (λ l. front_at form s ++ x ∷ l) (ap (λ t. numbered form t xs) next ∙ rest.0), ap (λ t. stand_behind t xs) next ∙ rest.1)

-- the line feed that ends a line
ending : (s : Stand) → s.odd ≡ false → next_stand s 10 ≡ next_line s
ending s even = ap (λ o. cond (not o) (next_line s) (in_line s (xor false o))) even

-- the end of a line
pub numbered-line : (form : FrontForm) (s : Stand) (text : List ℕ) → IsLast s.odd text
    → (numbered form s text ≡ front_at form s ++ text) × (stand_behind s text ≡ next_line s)
numbered-line form s text last = by last.body last.goes last.is
  where
    by : (body : List ℕ) → Goes s.odd body false → text ≡ body ++ 10 ∷ [] → (numbered form s text ≡ front_at form s ++ text) × (stand_behind s text ≡ next_line s)
    by [] goes is =
        let next = ending s goes.odd_is in
        (ap (numbered form s) is ∙ ap (λ l. front_at form s ++ l) (sym is), ap (stand_behind s) is ∙ next)
    by (x ∷ xs) goes is =
        let front = numbered-part form s false (x ∷ xs) (omega arith) goes in
        let body = x ∷ xs in
        let feed : numbered form (stand_behind s body) (10 ∷ []) ≡ 10 ∷ [] = ap (λ t. numbered form t (10 ∷ [])) front.1 in (
          ap (numbered form s) is
              ∙ numbered-append form s body (10 ∷ [])
              ∙ ap (λ l. l ++ numbered form (stand_behind s body) (10 ∷ [])) front.0
              ∙ ap (λ l. (front_at form s ++ body) ++ l) feed
              ∙ append_assoc (front_at form s) body (10 ∷ [])
              ∙ ap (λ l. front_at form s ++ l) (sym is),
          ap (stand_behind s) is ∙ stand_behind-append s body (10 ∷ []) ∙ ap (λ t. stand_behind t (10 ∷ [])) front.1,
        )

-- a part of a text that is numbered next
pub numbered-cut : (form : FrontForm) (now : Stand) (text : List ℕ) (from count : ℕ)
    → numbered form now (drop from text) ≡ numbered form now (take count (drop from text)) ++ numbered form (stand_behind now (take count (drop from text))) (drop (from + count) text)
numbered-cut form now text from count =
    let piece = take count (drop from text) in
    ap (numbered form now) (sym (take-append-drop count (drop from text)))
    ∙ numbered-append form now piece (drop count (drop from text))
    ∙ ap (λ l. numbered form now piece ++ numbered form (stand_behind now piece) l) (drop-drop count from text)

pub stand-cut : (s now : Stand) (text : List ℕ) (from count : ℕ) → stand_behind s (take from text) ≡ now → stand_behind s (take (from + count) text) ≡ stand_behind now (take count (drop from text))
stand-cut s now text from count is =
    ap (stand_behind s) (take-add from count text) ∙ stand_behind-append s (take from text) (take count (drop from text)) ∙ ap (λ t. stand_behind t (take count (drop from text))) is
