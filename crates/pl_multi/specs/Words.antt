-- What words that ask for many files mean (docs/command-line.md, "Many files").
use Rattle.std.specs.Prelude.{ℕ, ◌+◌, Bool, if◌then◌else◌, List, [], ◌∷◌, map, take, drop, codes, Option, None, Some}
use Rattle.std.specs.List.{position}
use Rattle.std.specs.Option.{option_map}
use Rattle.std.specs.Str.{bytes_eq}
use Rattle.pl_options.specs.declared.read_options.CsvReadOptions.{CsvReadOptions}
use Rattle.pl_words.specs.Defaults.{with}
use Rattle.pl_words.specs.OptionValues.{count_of}
use Rattle.pl_words.specs.Splitting.{cut_at}
use Rattle.pl_words.specs.Words.{job_of_words}
use Rattle.pl_words.specs.declared.job.Job.{Job}
use Rattle.pl_words.specs.declared.job.Job.TheVariants as job
use Rattle.pl_write.specs.declared.options.CsvWriterOptions.{CsvWriterOptions}
use Rattle.pl_multi.specs.Hive.{hive_values}
use Rattle.pl_multi.specs.Parts.{is_wrong}
use Rattle.pl_multi.specs.declared.multi_words.MultiJob.{MultiJob}
use Rattle.pl_multi.specs.declared.part.Part.{Part}

-- which rows are wanted, how parts are read, how their frame is written, and the parts
pub record Asked : Type 0 where
  pub slice : Option (ℕ × ℕ)
  pub read : CsvReadOptions
  pub write : CsvWriterOptions
  pub parts : List Part

-- the same, as the code has it
abbrev pub asked : MultiJob → Asked
asked given = record { slice = given.slice; read = given.read; write = given.write; parts = given.parts.items }

-- ---- the slice

-- the rows `A-B` (a minus is byte 45)
abbrev pub rows_of : List ℕ → Option (ℕ × ℕ)
rows_of text =
    with (cut_at 45 text) (λ cut.
    with (count_of cut.0) (λ start.
    with (count_of cut.1) (λ end.
    Some (start, end))))

-- the rows that a word `--slice=A-B` asks for
abbrev pub slice_of_word : List ℕ → Option (ℕ × ℕ)
slice_of_word word = with (cut_at 61 word) (λ cut. if bytes_eq cut.0 (codes "--slice") then rows_of cut.1 else None)

-- the slice that the first word asks for, where it does, and the other words
abbrev pub cut_slice : List (List ℕ) → Option (ℕ × ℕ) × List (List ℕ)
cut_slice [] = (None, [])
cut_slice (word ∷ words) = elim (slice_of_word word) [ None ↦ (None, word ∷ words) | Some rows ↦ (Some rows, words) ]

-- ---- the paths

-- the word is `--`
abbrev pub is_dashes : List ℕ → Bool
is_dashes word = bytes_eq word (codes "--")

-- the words before the first `--` and those behind it, where there is one
abbrev pub cut_paths : List (List ℕ) → Option (List (List ℕ) × List (List ℕ))
cut_paths words = option_map (λ place. (take place words, drop (place + 1) words)) (position is_dashes words)

-- the part at a path, with the values that stand in it
abbrev pub part_at : List ℕ → Part
part_at path = record { path = path; values = hive_values path }

-- ---- all words

-- a conversion under a schema that is given, without a limit of rows, and with a slice that does not end before it starts
abbrev pub asked_by : Option (ℕ × ℕ) → List Part → Job → Option Asked
asked_by slice parts (job.Convert read write) =
    if is_wrong read slice then None else Some (record { slice = slice; read = read; write = write; parts = parts })
asked_by slice parts _ = None

-- what words mean: a slice may stand first, behind it the words of a conversion, and behind the first `--` the paths
abbrev pub asked_of_words : List (List ℕ) → Option Asked
asked_of_words words =
    with (cut_paths words) (λ cut.
    let sliced = cut_slice cut.0 in
    with (job_of_words sliced.1) (asked_by sliced.0 (map part_at cut.1)))
