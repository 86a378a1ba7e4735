-- What contracts see of openers.
use Rattle.std.specs.Borrow.{Bor}
use Rattle.std.specs.Prelude.{◌≡◌, ℕ, ◌<◌, ◌≤◌, List, Option, map, find}
use Rattle.std.specs.Option.{option_map}
use Rattle.std.specs.Str.{bytes_eq}
use Rattle.pl_frame.specs.Causes.{Rose}

-- a source that was opened has all bytes of its path to come, and has not failed
pub record IsOpened (bytes left : Option (List ℕ)) (faults : ℕ) : Type 0 where
  pub whole : left ≡ bytes
  pub fresh : faults ≡ 0

-- the count of an opener never falls, rises where the source that it takes back had failed, and stays where it had not
pub record Closes (failed before now : ℕ) : Type 0 where
  pub later : before ≤ now
  pub rises : 0 < failed → Rose before now
  pub stays : failed ≡ 0 → now ≡ before

-- a path with its bytes
abbrev pub PathEntry : Type 0
PathEntry = List ℕ × List ℕ

-- the paths and bytes behind references
abbrev pub entries_of : List (Bor (List ℕ) × Bor (List ℕ)) → List PathEntry
entries_of entries = map (λ entry. (entry.0.now, entry.1.now)) entries

-- the bytes of the first entry of a path
abbrev pub held : List PathEntry → List ℕ → Option (List ℕ)
held entries path = option_map (λ entry. entry.1) (find (λ entry. bytes_eq entry.0 path) entries)

-- the paths that are held with their bytes, and how often an opener in memory failed or took back a source that had failed
pub record Opening : Type 0 where
  pub entries : List PathEntry
  pub faults : ℕ

-- the same, with the step and the failing calls of each source that is opened
pub record PipeOpening : Type 0 where
  pub entries : List PathEntry
  pub step : ℕ
  pub fails : List ℕ
  pub faults : ℕ
