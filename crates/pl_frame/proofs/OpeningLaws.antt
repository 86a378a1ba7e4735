-- The bytes of the first entry of a path, by its place.
use Rattle.std.specs.Borrow.{Bor}
use Rattle.std.proofs.Common.{◌≡◌, ℕ, ◌+◌, ◌<◌, Bool, true, false, cond, List, length, drop, ◌∙◌, ap}
use Rattle.std.specs.Prelude.{Option, Some, slice_index_or, find}
use Rattle.std.specs.Option.{option_map}
use Rattle.std.specs.Str.{bytes_eq}
use Rattle.std.proofs.lemmas.List.{at_drop_more}
use Rattle.pl_frame.specs.Opening.{PathEntry, entries_of, held}

abbrev Entry : Type 0
Entry = Bor (List ℕ) × Bor (List ℕ)

-- the bytes of an entry if its path is the one that is looked for, and those of a later one if not
abbrev choose : Bool → Entry → List Entry → List ℕ → Option (List ℕ)
choose here entry later path =
    option_map (λ (e : PathEntry). e.1) (cond here (Some (entry.0.now, entry.1.now)) (find (λ (e : PathEntry). bytes_eq e.0 path) (entries_of later)))

pub held-here : (entries : List Entry) (path : List ℕ) (i : ℕ) (d : Entry) → i < length entries → bytes_eq (slice_index_or entries i d).0.now path ≡ true
    → held (entries_of (drop i entries)) path ≡ Some (slice_index_or entries i d).1.now
held-here entries path i d h e =
    at_drop_more (λ l. held (entries_of l) path) entries i d h
    ∙ ap (λ t. choose t (slice_index_or entries i d) (drop (i + 1) entries) path) e

pub held-later : (entries : List Entry) (path : List ℕ) (i : ℕ) (d : Entry) → i < length entries → bytes_eq (slice_index_or entries i d).0.now path ≡ false
    → held (entries_of (drop i entries)) path ≡ held (entries_of (drop (i + 1) entries)) path
held-later entries path i d h e =
    at_drop_more (λ l. held (entries_of l) path) entries i d h
    ∙ ap (λ t. choose t (slice_index_or entries i d) (drop (i + 1) entries) path) e
