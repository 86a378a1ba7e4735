-- Lines that are bytes of a part.
use Rattle.std.proofs.Common.{◌≡◌, ℕ, ◌+◌, ◌<◌, ◌-◌, Bool, true, false, List, [], ◌∷◌, ◌++◌, map, length, take, drop, slice_range, refl, sym, take-add, get_or, ◌∙◌, ap, arith}
use Rattle.std.specs.Bool.{OnTrue}
use Rattle.std.specs.List.{concat}
use Rattle.std.proofs.lemmas.List.{append-nil, append_assoc, append_cancel_left, map-append, take_more}
use Rattle.std.proofs.lemmas.List.Folds.{concat-append}
use Rattle.std.proofs.Math.Seq.{take-append_seam}
use Rattle.pl_multi.specs.Lines.{found_text}
use Rattle.pl_multi.specs.declared.lines.FoundLines.{FoundLines}

-- texts that are equal with others behind them, and as long, are equal
front-same : (a b x y : List ℕ) → length a ≡ length b → a ++ x ≡ b ++ y → a ≡ b
front-same a b x y sizes same = sym (take-append_seam a x) ∙ (λ i. take (sizes i) (same i)) ∙ take-append_seam b y

-- and so are those behind them
pub behind-same : (a b x y : List ℕ) → length a ≡ length b → a ++ x ≡ b ++ y → x ≡ y
behind-same a b x y sizes same = append_cancel_left b x y (ap (λ (l : List ℕ). l ++ x) (sym (front-same a b x y sizes same)) ∙ same)

-- what stands in front of a place, and so many bytes behind it
take-between : (text : List ℕ) (at n : ℕ) → take (at + n) text ≡ take at text ++ slice_range text at (at + n)
take-between text at n =
    let sum : n ≡ (at + n) - at = omega arith in
    take-add at n text ∙ ap (λ (m : ℕ). take at text ++ take m (drop at text)) sum

pub stands : (text piece : List ℕ) (at : ℕ) (same : Bool) → OnTrue same (slice_range text at (at + length piece) ≡ piece) → OnTrue same (take (at + length piece) text ≡ take at text ++ piece)
stands text piece at true is = take-between text at (length piece) ∙ ap (λ (l : List ℕ). take at text ++ l) is
stands text piece at false is = tt

-- lines that were found, given the text that stands before them
pub found-lines : (mine text copied lines : List ℕ) (len : ℕ) → length mine ≡ length text → mine ++ (take len mine ++ copied) ≡ text ++ lines → take len text ++ copied ≡ lines
found-lines mine text copied lines len sizes same =
    ap (λ (l : List ℕ). take len l ++ copied) (sym (front-same mine text (take len mine ++ copied) lines sizes same)) ∙ behind-same mine text (take len mine ++ copied) lines sizes same

-- where none of them are bytes of the part, it does not matter which bytes these are
pub none-found : (bytes : List ℕ) (found : FoundLines) → found.len ≡ 0 → found_text [] found ≡ found_text bytes found
none-found bytes found is =
    (λ i. take (is i) (drop found.from []) ++ found.copied.items) ∙ sym (λ i. take (is i) (drop found.from bytes) ++ found.copied.items)

-- the lines of one more part, as two texts
pub texts-more : (before lines : List (List ℕ)) (i : ℕ) (kept lent copied : List ℕ) → concat before ≡ concat (take i lines) → i < length lines → kept ≡ get_or lines i kept → lent ++ copied ≡ kept
    → concat (before ++ lent ∷ copied ∷ []) ≡ concat (take (i + 1) lines)
texts-more before lines i kept lent copied same inside at are =
    concat-append before (lent ∷ copied ∷ [])
    ∙ (λ k. same k ++ (ap (λ (l : List ℕ). lent ++ l) (append-nil copied) ∙ are ∙ sym (append-nil kept)) k)
    ∙ sym (concat-append (take i lines) (kept ∷ []))
    ∙ ap concat (ap (λ (l : List ℕ). take i lines ++ l ∷ []) at ∙ sym (take_more lines i kept inside))

-- two more texts
pub push-two : {X : Type 0} (f : X → List ℕ) (before between now : List X) (x y : X) → between ≡ before ++ x ∷ [] → now ≡ between ++ y ∷ [] → map f now ≡ map f before ++ f x ∷ f y ∷ []
push-two f before between now x y one two =
    ap (map f) (two ∙ ap (λ l. l ++ y ∷ []) one)
    ∙ map-append f (before ++ x ∷ []) (y ∷ [])
    ∙ ap (λ (l : List (List ℕ)). l ++ f y ∷ []) (map-append f before (x ∷ []))
    ∙ append_assoc (map f before) (f x ∷ []) (f y ∷ [])
