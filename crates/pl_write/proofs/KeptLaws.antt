-- Bytes that stay in front while others are appended.
use Rattle.std.proofs.Common.{◌≡◌, ℕ, Bool, true, false, if◌then◌else◌, List, [], ◌++◌, take, drop, refl, sym, ◌∙◌, ap, append_assoc, append-nil}
use Rattle.std.proofs.lemmas.List.{take-append-drop}
use Rattle.pl_write.specs.Writing.{StaysInFront}

-- nothing was appended
pub front-same : (old : List ℕ) → StaysInFront old old
front-same old = record { added = []; is = sym (append-nil old) }

-- these bytes were appended
pub front-append : (old x : List ℕ) → StaysInFront old (old ++ x)
front-append old x = record { added = x; is = refl }

pub front-is : (old x new : List ℕ) → new ≡ old ++ x → StaysInFront old new
front-is old x new is = record { added = x; is = is }

-- these bytes were appended, or nothing was
pub front-if : (t : Bool) (old x new : List ℕ) → new ≡ (if t then old ++ x else old) → StaysInFront old new
front-if true old x new is = record { added = x; is = is }
front-if false old x new is = record { added = []; is = is ∙ sym (append-nil old) }

-- a part is kept of itself
pub front-part : (n : ℕ) (old : List ℕ) → StaysInFront (take n old) old
front-part n old = record { added = drop n old; is = sym (take-append-drop n old) }

-- and then others
pub front-then : {old mid new : List ℕ} → StaysInFront old mid → StaysInFront mid new → StaysInFront old new
front-then {old} {mid} {new} first next = record {
  added = first.added ++ next.added;
  is = next.is ∙ (ap (λ l. l ++ next.added) first.is ∙ append_assoc old first.added next.added);
}

pub ruleset keeping = (front-same, front-append, front-if, front-part, front-then)
