-- Rows that are printed in shares, and written one share behind the other.
use Rattle.std.proofs.Common.{◌≡◌, ℕ, zero, suc, ◌+◌, ◌-◌, ◌<◌, ◌≤◌, false, List, [], ◌∷◌, ◌++◌, length, map, take, drop, get_or, refl, sym, ◌∙◌, ap, append_assoc, arith, ◌⊎◌, inl, inr}
use Rattle.std.specs.Prelude.{Option, All}
use Rattle.std.specs.Io.KnownBytes.{Appends}
use Rattle.std.specs.List.{concat}
use Rattle.std.proofs.lemmas.Grind.{flat_map-append}
use Rattle.std.proofs.lemmas.List.{take-append-drop}
use Rattle.std.proofs.lemmas.List.Elements.{All-nil, All-cons, All-head, All-tail}
use Rattle.pl_frame.specs.Frame.{ColumnValue, HaveHeight}
use Rattle.pl_text.specs.FrameText.{WriteOptions, row_lines}
use Rattle.pl_frame.proofs.Known.{Appends-more}
use Rattle.pl_write.specs.Lines.{HaveRows}
use Rattle.pl_write.specs.Printing.{ShareValue, FollowOn, texts_of}
use Rattle.pl_write.specs.Writing.{AppendsPrefix}
use Rattle.pl_write.proofs.WriteLaws.{AppendsPrefix-from, HaveRows-height, row_lines-step, row_lines-none}

-- a prefix of a text is one of a longer text
pub AppendsPrefix-longer : (old now : Option (List ℕ)) (front rest text : List ℕ) → front ++ rest ≡ text → AppendsPrefix old now front → AppendsPrefix old now text
AppendsPrefix-longer old now front rest text is (n, appended) =
    AppendsPrefix-from old now (take n front) (drop n front ++ rest) text
    (sym (append_assoc (take n front) (drop n front) rest) ∙ ap (λ l. l ++ rest) (take-append-drop n front) ∙ is) appended

-- a text, and then a prefix of another
pub AppendsPrefix-behind : (old now next : Option (List ℕ)) (front rest : List ℕ) → Appends old now front → AppendsPrefix now next rest → AppendsPrefix old next (front ++ rest)
AppendsPrefix-behind old now next front rest first (n, appended) =
    AppendsPrefix-from old next (front ++ take n rest) (drop n rest) (front ++ rest)
    (append_assoc front (take n rest) (drop n rest) ∙ ap (λ l. front ++ l) (take-append-drop n rest))
    (Appends-more old now next front (take n rest) first appended)

-- the lines of the rows up to one, and then those of the rows from there on
pub row_lines-between : (o : WriteOptions) (columns : List ColumnValue) (first mid end : ℕ) → first ≤ mid → mid ≤ end
    → row_lines o columns first (end - first) ≡ row_lines o columns first (mid - first) ++ row_lines o columns mid (end - mid)
row_lines-between o columns first mid end up inside =
    let here : first + (mid - first) ≡ mid = omega (arith, up) in
    row_lines-step o columns first (mid - first) end (omega (arith, up, inside)) ∙ ap (λ k. row_lines o columns first (mid - first) ++ row_lines o columns k (end - k)) here

-- one share more
pub FollowOn-push : (first mid : ℕ) (shares : List ShareValue) (share : ShareValue) → FollowOn first mid shares → share.first ≡ mid → mid ≤ share.end → FollowOn first share.end (shares ++ share ∷ [])
FollowOn-push first mid [] share is here up = (here ∙ sym is, omega (arith, is, up), refl)
FollowOn-push first mid (s ∷ shares) share follow here up = (follow.0, follow.1, FollowOn-push s.end mid shares share follow.2 here up)

-- a share that goes further than its first row goes further than the first row of all, and so does one that begins behind the last
pub further-end : (first row height end : ℕ) → first < height → first ≤ row → (row < end) ⊎ (height ≡ row) → row ≤ end → first < end
further-end first row height end inside up (inl more) on = omega (arith, up, more)
further-end first row height end inside up (inr past) on = omega (arith, inside, past, on)

-- the last row is not before the first
pub FollowOn-up : (first end : ℕ) (shares : List ShareValue) → FollowOn first end shares → first ≤ end
FollowOn-up first end [] is = omega (arith, is)
FollowOn-up first end (share ∷ shares) follow = omega (arith, follow.1, FollowOn-up share.end end shares follow.2)

-- every column has the rows of each share
pub FollowOn-rows : (first end height : ℕ) (columns : List ColumnValue) (shares : List ShareValue) → FollowOn first end shares → end ≤ height → HaveHeight height columns
    → All (λ share. HaveRows share.end columns) shares
FollowOn-rows first end height columns [] follow inside have = All-nil (λ (share : ShareValue). HaveRows share.end columns)
FollowOn-rows first end height columns (share ∷ shares) follow inside have =
    All-cons (λ (share : ShareValue). HaveRows share.end columns) share shares
    (HaveRows-height share.end height columns have (omega (arith, inside, FollowOn-up share.end end shares follow.2)))
    (FollowOn-rows share.end end height columns shares follow.2 inside have)

-- where memory was wanting for none, the texts of the shares are the lines of all their rows
pub texts-are : (o : WriteOptions) (columns : List ColumnValue) (first end : ℕ) (old new : List ShareValue) → FollowOn first end old → length new ≡ length old
    → All (λ (share : ShareValue). share.wanting ≡ false) new
    → ((i : ℕ) (d : ShareValue) → i < length old → (get_or new i d).wanting ≡ false → (get_or new i d).text ≡ row_lines o columns (get_or old i d).first ((get_or old i d).end - (get_or old i d).first))
    → texts_of new ≡ row_lines o columns first (end - first)
texts-are o columns first end [] [] follow len none each = sym (row_lines-none o columns first end (omega (arith, follow)))
texts-are o columns first end [] (n ∷ new) follow len none each = absurd (omega (arith, len))
texts-are o columns first end (s ∷ old) [] follow len none each = absurd (omega (arith, len))
texts-are o columns first end (s ∷ old) (n ∷ new) follow len none each =
    let P = λ (share : ShareValue). share.wanting ≡ false in
    let here : n.text ≡ row_lines o columns s.first (s.end - s.first) = each 0 s (omega arith) (All-head P n new none) in
    let at : n.text ≡ row_lines o columns first (s.end - first) = here ∙ ap (λ k. row_lines o columns k (s.end - k)) follow.0 in
    let up : first ≤ s.end = follow.1 in
    let upto : s.end ≤ end = FollowOn-up s.end end old follow.2 in
    let rest : texts_of new ≡ row_lines o columns s.end (end - s.end) =
    texts-are o columns s.end end old new follow.2 (omega (arith, len)) (All-tail P n new none) (λ i d inside. each (suc i) d (omega (arith, inside))) in
    ap (λ l. n.text ++ l) rest
    ∙ ap (λ l. l ++ row_lines o columns s.end (end - s.end)) at
    ∙ sym (row_lines-between o columns first s.end end up upto)

-- the text of a share, and those of the shares behind it
pub texts-next : (shares : List ShareValue) (i : ℕ) (d : ShareValue) → i < length shares → texts_of (drop i shares) ≡ (get_or shares i d).text ++ texts_of (drop (i + 1) shares)
texts-next [] i d inside = absurd (omega (arith, inside))
texts-next (share ∷ shares) zero d inside = refl
texts-next (share ∷ shares) (suc i) d inside =
    let behind : suc (i + 1) ≡ suc i + 1 = omega arith in
    texts-next shares i d (omega (arith, inside)) ∙ ap (λ k. (get_or shares i d).text ++ texts_of (drop k (share ∷ shares))) behind

-- a share that has printed nothing, behind others
pub texts-push : (shares : List ShareValue) (share : ShareValue) → texts_of shares ≡ [] → share.text ≡ [] → texts_of (shares ++ share ∷ []) ≡ []
texts-push shares share none here =
    flat_map-append (λ (s : ShareValue). s.text) shares (share ∷ [])
    ∙ ap (λ l. l ++ texts_of (share ∷ [])) none
    ∙ ap (λ text. text ++ []) here

-- a text, and those behind it
pub concat-next : {X : Type 0} (text : X → List ℕ) (xs : List X) (i : ℕ) (d : X) → i < length xs → concat (map text (drop i xs)) ≡ text (get_or xs i d) ++ concat (map text (drop (i + 1) xs))
concat-next text [] i d inside = absurd (omega (arith, inside))
concat-next text (x ∷ xs) zero d inside = refl
concat-next text (x ∷ xs) (suc i) d inside =
    let behind : suc (i + 1) ≡ suc i + 1 = omega arith in
    concat-next text xs i d (omega (arith, inside)) ∙ ap (λ k. text (get_or xs i d) ++ concat (map text (drop k (x ∷ xs)))) behind
