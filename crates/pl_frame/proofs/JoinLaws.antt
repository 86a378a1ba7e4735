-- Laws of values with flags, of texts and of codes that are put one behind the other.
use Rattle.std.proofs.Common.{◌≡◌, ℕ, suc, zero, ◌+◌, ◌-◌, ◌<◌, ◌≤◌, Bool, true, false, if◌then◌else◌, List, [], ◌∷◌, ◌++◌, length, map, take, drop, get_or, Option, None, Some, IsUtf8, refl, sym, ◌∙◌, ap, subst, arith}
use Rattle.std.specs.List.{AllByRecursion}
use Rattle.std.specs.Option.{option_map_or}
use Rattle.std.proofs.lemmas.List.{length-append, length-map, length-take, length-drop, take-append-le, drop-append-le}
use Rattle.std.proofs.lemmas.List.Sums.{sum_by-cons}
use Rattle.std.proofs.Math.Seq.{drop-append-add}
use Rattle.pl_frame.specs.ByteCount.{byte_count}
use Rattle.pl_frame.specs.Optional.{flagged, parts_between, RiseTo, AreTexts}
use Rattle.pl_frame.proofs.OptionalLaws.{length-parts_between, RiseTo-le}

-- ---- values with flags

pub flagged-append : {X : Type 0} (xs ys : List X) (fs gs : List Bool) → length xs ≡ length fs → flagged (xs ++ ys) (fs ++ gs) ≡ flagged xs fs ++ flagged ys gs
flagged-append [] ys [] gs h = refl
flagged-append [] ys (f ∷ fs) gs h = absurd (omega arith)
flagged-append (x ∷ xs) ys [] gs h = absurd (omega arith)
flagged-append (x ∷ xs) ys (f ∷ fs) gs h = ap (λ rest. (if f then Some x else None) ∷ rest) (flagged-append xs ys fs gs (omega arith))

-- ---- texts

-- so much further on
abbrev pub moved : ℕ → List ℕ → List ℕ
moved base ends = map (λ end. base + end) ends

part-before : (from to : ℕ) (bytes more : List ℕ) → from ≤ to → to ≤ length bytes → take (to - from) (drop from (bytes ++ more)) ≡ take (to - from) (drop from bytes)
part-before from to bytes more l m =
    rw (drop-append-le from bytes more (omega arith)) (take-append-le (to - from) (drop from bytes) more (grind (arith, length-drop)))

-- the parts of a list stay where more is put behind it
parts-before : (from : ℕ) (ends xs bytes more : List ℕ) → RiseTo from ends (length bytes) →
    parts_between from (ends ++ xs) (bytes ++ more) ≡ parts_between from ends bytes ++ parts_between (length bytes) xs (bytes ++ more)
parts-before from [] xs bytes more h = ap (λ n. parts_between n xs (bytes ++ more)) h
parts-before from (e ∷ es) xs bytes more h =
    (λ j. part-before from e bytes more h.0 (RiseTo-le e es (length bytes) h.1) j ∷ parts-before e es xs bytes more h.1 j)

part-behind : (from to : ℕ) (bytes more : List ℕ) → take ((length bytes + to) - (length bytes + from)) (drop (length bytes + from) (bytes ++ more)) ≡ take (to - from) (drop from more)
part-behind from to bytes more =
    let same : (length bytes + to) - (length bytes + from) ≡ to - from = omega arith in
    (λ j. take (same j) (drop-append-add bytes more from j))

-- the parts of what is put behind stand so much further on
parts-behind : (from : ℕ) (ends bytes more : List ℕ) → parts_between (length bytes + from) (moved (length bytes) ends) (bytes ++ more) ≡ parts_between from ends more
parts-behind from [] bytes more = refl
parts-behind from (e ∷ es) bytes more = (λ j. part-behind from e bytes more j ∷ parts-behind e es bytes more j)

parts-joined : (ends xs bytes more : List ℕ) → RiseTo 0 ends (length bytes) →
    parts_between 0 (ends ++ moved (length bytes) xs) (bytes ++ more) ≡ parts_between 0 ends bytes ++ parts_between 0 xs more
parts-joined ends xs bytes more h =
    let none : length bytes + 0 ≡ length bytes = omega arith in
    parts-before 0 ends (moved (length bytes) xs) bytes more h
    ∙ ap (λ rest. parts_between 0 ends bytes ++ rest) (ap (λ n. parts_between n (moved (length bytes) xs) (bytes ++ more)) (sym none) ∙ parts-behind 0 xs bytes more)

RiseTo-moved : (base from : ℕ) (ends : List ℕ) (last : ℕ) → RiseTo from ends last → RiseTo (base + from) (moved base ends) (base + last)
RiseTo-moved base from [] last h = ap (λ n. base + n) h
RiseTo-moved base from (e ∷ es) last h = (let l = h.0 in omega arith, RiseTo-moved base e es last h.1)

RiseTo-append : (from : ℕ) (xs : List ℕ) (middle : ℕ) (ys : List ℕ) (last : ℕ) → RiseTo from xs middle → RiseTo middle ys last → RiseTo from (xs ++ ys) last
RiseTo-append from [] middle ys last h k = subst (λ n. RiseTo n ys last) (sym h) k
RiseTo-append from (x ∷ xs) middle ys last h k = (h.0, RiseTo-append x xs middle ys last h.1 k)

AllUtf8-append : (xs ys : List (List ℕ)) → AllByRecursion IsUtf8 xs → AllByRecursion IsUtf8 ys → AllByRecursion IsUtf8 (xs ++ ys)
AllUtf8-append [] ys h k = k
AllUtf8-append (x ∷ xs) ys h k = (h.0, AllUtf8-append xs ys h.1 k)

-- the moved ends rise from the bytes that there were to all of them
pub ends-rising : (ends bytes more : List ℕ) (flags : List Bool) (base last : ℕ) → AreTexts more ends flags → base ≡ length bytes → last ≡ length (bytes ++ more) → RiseTo base (moved base ends) last
ends-rising ends bytes more flags base last h b l =
    let none : base + 0 ≡ base = omega arith in
    let all : base + length more ≡ last = omega (arith, b, l, length-append bytes more) in
    subst (λ n. RiseTo n (moved base ends) last) none (subst (RiseTo (base + 0) (moved base ends)) all (RiseTo-moved base 0 ends (length more) h.rising))

module _ (bytes more ends xs : List ℕ) (fs gs : List Bool) (base : ℕ) (h : AreTexts bytes ends fs) (k : AreTexts more xs gs) (b : base ≡ length bytes) where
  parts : parts_between 0 (ends ++ moved base xs) (bytes ++ more) ≡ parts_between 0 ends bytes ++ parts_between 0 xs more
  parts = ap (λ n. parts_between 0 (ends ++ moved n xs) (bytes ++ more)) b ∙ parts-joined ends xs bytes more h.rising

  pub texts-joined : AreTexts (bytes ++ more) (ends ++ moved base xs) (fs ++ gs)
  texts-joined = record {
    one_length = omega (arith, h.one_length, k.one_length, length-append ends (moved base xs), length-map xs (λ end. base + end), length-append fs gs);
    rising = RiseTo-append 0 ends base (moved base xs) (length (bytes ++ more)) (subst (RiseTo 0 ends) (sym b) h.rising) (ends-rising xs bytes more gs base _ k b refl);
    utf8 = subst (AllByRecursion IsUtf8) (sym parts) (AllUtf8-append (parts_between 0 ends bytes) (parts_between 0 xs more) h.utf8 k.utf8);
  }

  pub texts-append : flagged (parts_between 0 (ends ++ moved base xs) (bytes ++ more)) (fs ++ gs) ≡ flagged (parts_between 0 ends bytes) fs ++ flagged (parts_between 0 xs more) gs
  texts-append =
      ap (λ texts. flagged texts (fs ++ gs)) parts
      ∙ flagged-append (parts_between 0 ends bytes) (parts_between 0 xs more) fs gs (length-parts_between 0 ends bytes ∙ h.one_length)

pub ruleset joined_texts = (texts-joined, texts-append, ends-rising)

-- ---- how many bytes texts have

counted : (f : Bool) (text : List ℕ) (some rest : ℕ) → some ≤ rest → option_map_or length (if f then Some text else None) 0 + some ≤ length text + rest
counted true text some rest h = omega arith
counted false text some rest h = omega arith

part-length : (from to : ℕ) (bytes : List ℕ) → length (take (to - from) (drop from bytes)) ≤ to - from
part-length from to bytes = omega (arith, length-take (to - from) (drop from bytes))

pub bytes-flagged : (from : ℕ) (ends bytes : List ℕ) (flags : List Bool) (last : ℕ) → RiseTo from ends last → byte_count (flagged (parts_between from ends bytes) flags) ≤ last - from
bytes-flagged from [] bytes flags last h = omega arith
bytes-flagged from (e ∷ es) bytes [] last h = omega arith
bytes-flagged from (e ∷ es) bytes (f ∷ fs) last h =
    let text = take (e - from) (drop from bytes) in
    let more = bytes-flagged e es bytes fs last h.1 in
    let first = sum_by-cons (λ (value : Option (List ℕ)). option_map_or length value 0) (if f then Some text else None) (flagged (parts_between e es bytes) fs) in
    let both = counted f text _ _ more in
    let l = h.0 in let m = RiseTo-le e es last h.1 in let n = part-length from e bytes in
    omega (arith, first, both, l, m, n)

-- ---- moved ends

-- each of them is at most the last
pub moved-within : (base from : ℕ) (ends : List ℕ) (last i : ℕ) → RiseTo from (moved base ends) last → i < length ends → base + get_or ends i 0 ≤ last
moved-within base from [] last i h l = absurd (omega arith)
moved-within base from (e ∷ es) last zero h l = RiseTo-le (base + e) (moved base es) last h.1
moved-within base from (e ∷ es) last (suc i) h l = moved-within base (base + e) es last i h.1 (omega arith)

-- what buffers hold to which others were appended
pub texts-after : (bytes more ends xs : List ℕ) (fs gs : List Bool) (base : ℕ) (all_bytes all_ends : List ℕ) (all_flags : List Bool) → AreTexts bytes ends fs → AreTexts more xs gs →
    base ≡ length bytes → all_bytes ≡ bytes ++ more → all_ends ≡ ends ++ moved base xs → all_flags ≡ fs ++ gs →
    AreTexts all_bytes all_ends all_flags × (flagged (parts_between 0 all_ends all_bytes) all_flags ≡ flagged (parts_between 0 ends bytes) fs ++ flagged (parts_between 0 xs more) gs)
texts-after bytes more ends xs fs gs base all_bytes all_ends all_flags h k b bytes_are ends_are flags_are =
    rw (bytes_are, ends_are, flags_are) (texts-joined bytes more ends xs fs gs base h k b, texts-append bytes more ends xs fs gs base h k b)
