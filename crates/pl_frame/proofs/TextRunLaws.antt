-- Laws of runs of texts in one buffer.
use Rattle.std.proofs.Common.{◌≡◌, ℕ, suc, zero, ◌+◌, ◌-◌, ◌<◌, ◌≤◌, Bool, true, if◌then◌else◌, List, [], ◌∷◌, ◌++◌, length, map, take, drop, replicate, get_or, Option, None, Some, IsUtf8, refl, sym, ◌∙◌, ap, subst, arith}
use Rattle.std.specs.List.{AllByRecursion}
use Rattle.std.proofs.lemmas.List.{length-append, length-map, length-take, length-drop, drop-take, take-take, drop-drop}
use Rattle.pl_frame.specs.Flags.{filled, marked}
use Rattle.pl_frame.specs.Optional.{flagged, parts_between, RiseTo, AreTexts}
use Rattle.pl_frame.specs.Packed.{ArePacked}
use Rattle.pl_frame.proofs.CutLaws.{RiseTo-take, AllUtf8-take}
use Rattle.pl_frame.proofs.FlagLaws.{marked-filled, marked-take, marked-drop, length-filled, length-run}
use Rattle.pl_frame.proofs.JoinLaws.{moved, texts-after}
use Rattle.pl_frame.proofs.OptionalLaws.{length-parts_between, RiseTo-le, flagged-take}
use Rattle.pl_frame.proofs.PackedLaws.{marked-flagged}

-- ---- parts behind a place

parts-drop : (from k : ℕ) (ends bytes : List ℕ) → k ≤ length ends → drop k (parts_between from ends bytes) ≡ parts_between (get_or (from ∷ ends) k 0) (drop k ends) bytes
parts-drop from zero ends bytes l = refl
parts-drop from (suc k) [] bytes l = absurd (omega arith)
parts-drop from (suc k) (e ∷ es) bytes l = parts-drop e k es bytes (omega arith)

parts-take : (from n : ℕ) (ends bytes : List ℕ) → take n (parts_between from ends bytes) ≡ parts_between from (take n ends) bytes
parts-take from zero ends bytes = refl
parts-take from (suc n) [] bytes = refl
parts-take from (suc n) (e ∷ es) bytes = ap (λ rest. take (e - from) (drop from bytes) ∷ rest) (parts-take e n es bytes)

RiseTo-drop : (from k : ℕ) (ends : List ℕ) (last : ℕ) → RiseTo from ends last → k ≤ length ends → RiseTo (get_or (from ∷ ends) k 0) (drop k ends) last
RiseTo-drop from zero ends last h l = h
RiseTo-drop from (suc k) [] last h l = absurd (omega arith)
RiseTo-drop from (suc k) (e ∷ es) last h l = RiseTo-drop e k es last h.1 (omega arith)

get-behind : (from k n : ℕ) (ends : List ℕ) → k ≤ length ends → get_or (get_or (from ∷ ends) k 0 ∷ drop k ends) n 0 ≡ get_or (from ∷ ends) (k + n) 0
get-behind from zero n ends l = ap (λ m. get_or (from ∷ ends) m 0) (omega arith)
get-behind from (suc k) n [] l = absurd (omega arith)
get-behind from (suc k) n (e ∷ es) l =
    let next : suc (k + n) ≡ suc k + n = omega arith in
    get-behind e k n es (omega arith) ∙ ap (λ m. get_or (from ∷ (e ∷ es)) m 0) next

AllUtf8-drop : (n : ℕ) (texts : List (List ℕ)) → AllByRecursion IsUtf8 texts → AllByRecursion IsUtf8 (drop n texts)
AllUtf8-drop zero texts h = h
AllUtf8-drop (suc n) [] h = tt
AllUtf8-drop (suc n) (t ∷ ts) h = AllUtf8-drop n ts h.1

flagged-drop : {X : Type 0} (n : ℕ) (xs : List X) (flags : List Bool) → flagged (drop n xs) (drop n flags) ≡ drop n (flagged xs flags)
flagged-drop zero xs flags = refl
flagged-drop (suc n) [] flags = refl
flagged-drop (suc n) (x ∷ xs) [] = none (drop n xs)
  where
    none : {X : Type 0} (xs : List X) → flagged xs [] ≡ []
    none [] = refl
    none (x ∷ xs) = refl
flagged-drop (suc n) (x ∷ xs) (f ∷ fs) = flagged-drop n xs fs

-- ---- ends that are so much less

abbrev pub less : ℕ → List ℕ → List ℕ
less start ends = map (λ end. end - start) ends

part-less : (start from end stop : ℕ) (bytes : List ℕ) → start ≤ from → from ≤ end → end ≤ stop →
    take (end - from) (drop from bytes) ≡ take ((end - start) - (from - start)) (drop (from - start) (take (stop - start) (drop start bytes)))
part-less start from end stop bytes a b c =
    let few : (end - start) - (from - start) ≡ end - from = omega arith in
    let whole : stop - start ≡ from - start + (stop - from) = omega arith in
    let there : start + (from - start) ≡ from = omega arith in
    sym (ap (λ n. take n (drop (from - start) (take (stop - start) (drop start bytes)))) few
    ∙ ap (λ n. take (end - from) (drop (from - start) (take n (drop start bytes)))) whole
    ∙ ap (take (end - from)) (drop-take (from - start) (stop - from) (drop start bytes))
    ∙ take-take (end - from) (stop - from) (drop (from - start) (drop start bytes)) (omega arith)
    ∙ ap (take (end - from)) (drop-drop (from - start) start bytes ∙ ap (λ n. drop n bytes) there))

parts-less : (start from : ℕ) (ends bytes : List ℕ) (stop : ℕ) → start ≤ from → RiseTo from ends stop →
    parts_between from ends bytes ≡ parts_between (from - start) (less start ends) (take (stop - start) (drop start bytes))
parts-less start from [] bytes stop a h = refl
parts-less start from (e ∷ es) bytes stop a h =
    let b = h.0 in
    (λ j. part-less start from e stop bytes a h.0 (RiseTo-le e es stop h.1) j ∷ parts-less start e es bytes stop (omega (arith, a, b)) h.1 j)

RiseTo-less : (start from : ℕ) (ends : List ℕ) (stop : ℕ) → start ≤ from → RiseTo from ends stop → RiseTo (from - start) (less start ends) (stop - start)
RiseTo-less start from [] stop a h = ap (λ n. n - start) h
RiseTo-less start from (e ∷ es) stop a h = let b = h.0 in (omega (arith, a, b), RiseTo-less start e es stop (omega (arith, a, b)) h.1)

-- ---- a run of texts, from one place up to another

module _ (bytes ends : List ℕ) (from to start stop : ℕ) (rising : RiseTo 0 ends (length bytes)) (ordered : from ≤ to) (within : to ≤ length ends)
    (first : start ≡ get_or (0 ∷ ends) from 0) (last : stop ≡ get_or (0 ∷ ends) to 0) where
  pub run-rising : RiseTo start (take (to - from) (drop from ends)) stop
  run-rising =
      let size = length-drop from ends in
      let front = RiseTo-take (get_or (0 ∷ ends) from 0) (drop from ends) (length bytes) (to - from) (RiseTo-drop 0 from ends (length bytes) rising (omega (arith, ordered, within))) (omega (arith, size, within)) in
      let sum : from + (to - from) ≡ to = omega (arith, ordered) in
      let end : get_or (get_or (0 ∷ ends) from 0 ∷ drop from ends) (to - from) 0 ≡ stop = get-behind 0 from (to - from) ends (omega (arith, ordered, within)) ∙ ap (λ n. get_or (0 ∷ ends) n 0) sum ∙ sym last in
      subst (λ n. RiseTo n (take (to - from) (drop from ends)) stop) (sym first) (subst (RiseTo (get_or (0 ∷ ends) from 0) (take (to - from) (drop from ends))) end front)

  pub run-ordered : start ≤ stop
  run-ordered = RiseTo-le start (take (to - from) (drop from ends)) stop run-rising

  pub run-within : stop ≤ length bytes
  run-within = let h = RiseTo-le (get_or (0 ∷ ends) to 0) (drop to ends) (length bytes) (RiseTo-drop 0 to ends (length bytes) rising within) in omega (arith, h, last)

  run-parts : parts_between 0 (less start (take (to - from) (drop from ends))) (take (stop - start) (drop start bytes)) ≡ take (to - from) (drop from (parts_between 0 ends bytes))
  run-parts =
      let none : start - start ≡ 0 = omega arith in
      sym (ap (take (to - from)) (parts-drop 0 from ends bytes (omega (arith, ordered, within)))
      ∙ parts-take (get_or (0 ∷ ends) from 0) (to - from) (drop from ends) bytes
      ∙ ap (λ n. parts_between n (take (to - from) (drop from ends)) bytes) (sym first)
      ∙ parts-less start start (take (to - from) (drop from ends)) bytes stop (omega arith) run-rising
      ∙ ap (λ n. parts_between n (less start (take (to - from) (drop from ends))) (take (stop - start) (drop start bytes))) none)

  run-size : length (take (to - from) (drop from ends)) ≡ to - from
  run-size = let a = length-take (to - from) (drop from ends) in let b = length-drop from ends in omega (arith, a, b, within)

  run-are : (flags : List Bool) → length flags ≡ to - from → AllByRecursion IsUtf8 (parts_between 0 ends bytes) →
      AreTexts (take (stop - start) (drop start bytes)) (less start (take (to - from) (drop from ends))) flags
  run-are flags size utf8 =
      let some = length-map (take (to - from) (drop from ends)) (λ end. end - start) in
      let a = length-take (stop - start) (drop start bytes) in let b = length-drop start bytes in
      let l = run-within in
      let none : start - start ≡ 0 = omega arith in
      let all : length (take (stop - start) (drop start bytes)) ≡ stop - start = omega (arith, a, b, l) in
      record {
        one_length = omega (arith, some, run-size, size);
        rising = subst (RiseTo 0 (less start (take (to - from) (drop from ends)))) (sym all)
            (subst (λ n. RiseTo n (less start (take (to - from) (drop from ends))) (stop - start)) none (RiseTo-less start start (take (to - from) (drop from ends)) stop (omega arith) run-rising));
        utf8 = subst (AllByRecursion IsUtf8) (sym run-parts) (AllUtf8-take (to - from) (drop from (parts_between 0 ends bytes)) (AllUtf8-drop from (parts_between 0 ends bytes) utf8));
      }

moved-less : (base start : ℕ) (ends : List ℕ) → map (λ end. base + (end - start)) ends ≡ moved base (less start ends)
moved-less base start [] = refl
moved-less base start (e ∷ es) = ap (λ rest. (base + (e - start)) ∷ rest) (moved-less base start es)

-- what buffers hold to which a run of others was appended
module _ (old_bytes old_ends : List ℕ) (old_flags : List Bool) (bytes ends : List ℕ) (flags : List Bool) (from to start stop base : ℕ) (all_bytes all_ends : List ℕ) (all_flags : List Bool)
    (old : AreTexts old_bytes old_ends old_flags) (ordered : from ≤ to) (within : to ≤ length ends) (first : start ≡ get_or (0 ∷ ends) from 0) (last : stop ≡ get_or (0 ∷ ends) to 0)
    (b : base ≡ length old_bytes) (bytes_are : all_bytes ≡ old_bytes ++ take (stop - start) (drop start bytes))
    (ends_are : all_ends ≡ old_ends ++ map (λ end. base + (end - start)) (take (to - from) (drop from ends))) where
  pub texts-run : AreTexts bytes ends flags → all_flags ≡ old_flags ++ take (to - from) (drop from flags) →
      AreTexts all_bytes all_ends all_flags
      × (flagged (parts_between 0 all_ends all_bytes) all_flags ≡ flagged (parts_between 0 old_ends old_bytes) old_flags ++ take (to - from) (drop from (flagged (parts_between 0 ends bytes) flags)))
  texts-run h flags_are =
      let n = to - from in
      let gs = take n (drop from flags) in
      let size : length gs ≡ to - from = (let a = length-take n (drop from flags) in let d = length-drop from flags in let s = h.one_length in omega (arith, a, d, s, within)) in
      let run = run-are bytes ends from to start stop h.rising ordered within first last gs size h.utf8 in
      let both = texts-after old_bytes (take (stop - start) (drop start bytes)) old_ends (less start (take n (drop from ends))) old_flags gs base all_bytes all_ends all_flags old run b bytes_are
      (ends_are ∙ ap (λ es. old_ends ++ es) (moved-less base start (take n (drop from ends)))) flags_are in (
        both.0,
        both.1 ∙ ap (λ rest. flagged (parts_between 0 old_ends old_bytes) old_flags ++ rest)
            (ap (λ texts. flagged texts gs) (run-parts bytes ends from to start stop h.rising ordered within first last)
            ∙ flagged-take n (drop from (parts_between 0 ends bytes)) (drop from flags) ∙ ap (take n) (flagged-drop from (parts_between 0 ends bytes) flags)),
      )

  pub packed-run : ArePacked bytes ends flags → all_flags ≡ old_flags ++ filled (to - from) (take (to - from) (drop from flags)) →
      AreTexts all_bytes all_ends all_flags
      × (flagged (parts_between 0 all_ends all_bytes) all_flags ≡ flagged (parts_between 0 old_ends old_bytes) old_flags ++ take (to - from) (drop from (marked (parts_between 0 ends bytes) flags)))
  packed-run h flags_are =
      let n = to - from in
      let gs = take n (drop from flags) in
      let few : length gs ≤ n = (let a = length-take n (drop from flags) in omega (arith, a)) in
      let size = length-filled n gs few in
      let run = run-are bytes ends from to start stop h.rising ordered within first last (filled n gs) size h.utf8 in
      let both = texts-after old_bytes (take (stop - start) (drop start bytes)) old_ends (less start (take n (drop from ends))) old_flags (filled n gs) base all_bytes all_ends all_flags old run b bytes_are
      (ends_are ∙ ap (λ es. old_ends ++ es) (moved-less base start (take n (drop from ends)))) flags_are in
      let texts = take n (drop from (parts_between 0 ends bytes)) in
      let long : length texts ≡ n =
      (let a = length-take n (drop from (parts_between 0 ends bytes)) in let d = length-drop from (parts_between 0 ends bytes) in let e = length-parts_between 0 ends bytes in omega (arith, a, d, e, within)) in (
        both.0,
        both.1 ∙ ap (λ rest. flagged (parts_between 0 old_ends old_bytes) old_flags ++ rest)
            (ap (λ ts. flagged ts (filled n gs)) (run-parts bytes ends from to start stop h.rising ordered within first last)
            ∙ sym (marked-flagged texts (filled n gs) (long ∙ sym size))
            ∙ ap (λ k. marked texts (filled k gs)) (sym long)
            ∙ marked-filled texts gs (omega (arith, few, long))
            ∙ marked-take n (drop from (parts_between 0 ends bytes)) (drop from flags) ∙ ap (take n) (marked-drop from (parts_between 0 ends bytes) flags)),
      )

-- ends that rise lie between the first and the last
pub rise-between : (from : ℕ) (ends : List ℕ) (last i : ℕ) → RiseTo from ends last → i < length ends → (from ≤ get_or ends i 0) × (get_or ends i 0 ≤ last)
rise-between from [] last i h l = absurd (omega arith)
rise-between from (e ∷ es) last zero h l = (h.0, RiseTo-le e es last h.1)
rise-between from (e ∷ es) last (suc i) h l =
    let first = h.0 in let further = rise-between e es last i h.1 (omega arith) in let a = further.0 in (omega (arith, first, a), further.1)
