-- Which path a reader is made of (docs/files.md, "Reading a frame").
use Rattle.std.specs.Prelude.{◌↔◌, ℕ, List, Option, Some, None, IsSome, IsNone}

-- one path is given, and only one: by the options, or beside them
abbrev pub IsOneGiven : (kept beside : Option (List ℕ)) → Type 0
IsOneGiven kept beside = IsSome kept ↔ IsNone beside

-- the path that is given: the one beside the options, or else theirs
abbrev pub given_path : (kept beside : Option (List ℕ)) → Option (List ℕ)
given_path kept None = kept
given_path kept (Some path) = Some path
