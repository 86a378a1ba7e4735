-- The words that ask for a made input (docs/command-line.md, "Words").
use Rattle.std.specs.Prelude.{ℕ, ◌≤◌, Bool, nat_le, if◌then◌else◌, List, [], ◌∷◌, codes, Option, None, Some}
use Rattle.std.specs.List.{list_all, list_any}
use Rattle.std.specs.Option.{option_and_then}
use Rattle.std.specs.Str.{bytes_eq}
use Rattle.pl_options.specs.Options.{default_read_options}
use Rattle.pl_words.specs.declared.job.Job.{Job}
use Rattle.pl_words.specs.declared.job.Job.TheVariants as job
use Rattle.pl_words.specs.Defaults.{option_or, with}
use Rattle.pl_words.specs.OptionValues.{count_of}
use Rattle.pl_words.specs.Parts.{PartText}

-- NUM up to 1000000
abbrev pub rows_of : List ℕ → Option ℕ
rows_of text = option_and_then (λ n. if nat_le n 1000000 then Some n else None) (count_of text)

-- the names that stand in a making job
abbrev pub making_names : List (List ℕ)
making_names = codes "--make" ∷ codes "--workers" ∷ codes "--piece" ∷ []

-- a part that may stand in a making job
abbrev pub is_making : PartText → Bool
is_making part = list_any (bytes_eq part.0) making_names

-- each part may stand in a making job
abbrev pub are_making : List PartText → Bool
are_making parts = list_all is_making parts

-- how many workers read a made input where the words do not say it
abbrev pub default_workers : ℕ
default_workers = 4

-- the making job of so many rows, by the parts: beside the number of rows stand workers and piece size alone
abbrev pub making_of : List ℕ → List PartText → Option Job
making_of text parts =
    if are_making parts then
    with (rows_of text) (λ rows.
    with (option_or default_workers count_of (codes "--workers") parts) (λ workers.
    with (option_or default_read_options.chunk_size count_of (codes "--piece") parts) (λ piece.
    Some (job.Make rows workers piece))))
    else None

-- a making job has at most 1000000 rows
abbrev pub HasFewRows : Job → Type 0
HasFewRows (job.Make rows workers piece) = rows ≤ 1000000
HasFewRows _ = Unit {0}
