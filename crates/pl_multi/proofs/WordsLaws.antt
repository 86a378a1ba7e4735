-- Words cut into those of a conversion and the paths.
use Rattle.std.proofs.Common.{◌≡◌, ℕ, ◌+◌, ◌-◌, Bool, not, List, [], ◌∷◌, map, length, take, drop, Option, None, Some, refl, sym, ◌∙◌, ap}
use Rattle.std.specs.Prelude.{nat_lt, if◌then◌else◌}
use Rattle.std.specs.List.{position, position_or_len, prefix_len}
use Rattle.std.specs.Option.{option_map}
use Rattle.std.proofs.lemmas.List.{length-map, take-map, drop-map, take_rest}
use Rattle.pl_words.specs.Defaults.{with}
use Rattle.pl_words.specs.Words.{job_of_words}
use Rattle.pl_multi.specs.Words.{asked_by, asked_of_words, cut_paths, cut_slice, is_dashes, part_at}
use Rattle.pl_multi.specs.declared.part.Part.{Part}

prefix-map : {X Y : Type 0} (f : X → Y) (p : Y → Bool) (xs : List X) → prefix_len p (map f xs) ≡ prefix_len (λ x. p (f x)) xs
prefix-map f p [] = refl
prefix-map f p (x ∷ xs) = ap (λ n. if p (f x) then 1 + n else 0) (prefix-map f p xs)

abbrev placed : ℕ → ℕ → Option ℕ
placed n all = if nat_lt n all then Some n else None

-- the first place of what is made of a list
pub position-map : {X Y : Type 0} (f : X → Y) (p : Y → Bool) (xs : List X) → position p (map f xs) ≡ position (λ x. p (f x)) xs
position-map f p xs = ap (λ n. placed n (length (map f xs))) (prefix-map f (λ y. not (p y)) xs) ∙ ap (placed (position_or_len (λ x. p (f x)) xs)) (length-map xs f)

-- what the words before and behind a place are made of, where the first `--` stands there
pub cut-at : {X : Type 0} (f : X → List ℕ) (words : List X) (place : ℕ) → position (λ word. is_dashes (f word)) words ≡ Some place
    → ◌≡◌ {A = Option (List (List ℕ) × List (List ℕ))} (Some (map f (take place words), map f (take (length words - (place + 1)) (drop (place + 1) words)))) (cut_paths (map f words))
cut-at f words place at =
    sym
    (ap (option_map (λ n. (take n (map f words), drop (n + 1) (map f words)))) (position-map f is_dashes words ∙ at)
    ∙ (λ i. Some (take-map f place words i, drop-map f (place + 1) words i))
    ∙ ap (λ (l : List _). Some (map f (take place words), map f l)) (sym (take_rest words (place + 1))))

pub cut-none : {X : Type 0} (f : X → List ℕ) (words : List X) → position (λ word. is_dashes (f word)) words ≡ None
    → ◌≡◌ {A = Option (List (List ℕ) × List (List ℕ))} None (cut_paths (map f words))
cut-none f words none = sym (ap (option_map (λ n. (take n (map f words), drop (n + 1) (map f words)))) (position-map f is_dashes words ∙ none))

-- words whose parts mean nothing mean nothing
pub asked-none : (words given paths others : List (List ℕ)) (slice : Option (ℕ × ℕ)) (parts : List Part) → ◌≡◌ {A = Option (List (List ℕ) × List (List ℕ))} (Some (given, paths)) (cut_paths words)
    → ◌≡◌ {A = Option (ℕ × ℕ) × List (List ℕ)} (slice, others) (cut_slice given) → parts ≡ map part_at paths → with (job_of_words others) (asked_by slice parts) ≡ None → asked_of_words words ≡ None
asked-none words given paths others slice parts cut sliced are none =
    sym (ap (λ (c : Option (List (List ℕ) × List (List ℕ))). with c (λ cut. with (job_of_words (cut_slice cut.0).1) (asked_by (cut_slice cut.0).0 (map part_at cut.1)))) cut)
    ∙ sym (ap (λ (s : Option (ℕ × ℕ) × List (List ℕ)). with (job_of_words s.1) (asked_by s.0 (map part_at paths))) sliced)
    ∙ sym (ap (λ (p : List Part). with (job_of_words others) (asked_by slice p)) are)
    ∙ none
