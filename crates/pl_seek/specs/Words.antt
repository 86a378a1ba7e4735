-- What words that ask for an index or for a slice mean (docs/command-line.md, "An index").
use Rattle.std.specs.Prelude.{ℕ, ◌<◌, ◌==◌, if◌then◌else◌, List, [], ◌∷◌, codes, Option, None, Some}
use Rattle.std.specs.Str.{bytes_eq}
use Rattle.pl_options.specs.declared.read_options.CsvReadOptions.{CsvReadOptions}
use Rattle.pl_words.specs.Defaults.{with}
use Rattle.pl_words.specs.OptionValues.{count_of}
use Rattle.pl_words.specs.Words.{job_of_words}
use Rattle.pl_words.specs.declared.job.Job.{Job}
use Rattle.pl_words.specs.declared.job.Job.TheVariants as job
use Rattle.pl_write.specs.declared.options.CsvWriterOptions.{CsvWriterOptions}
use Rattle.pl_seek.specs.Building.{is_wrong}
use Rattle.pl_seek.specs.declared.job.SeekJob.{SeekJob}
use Rattle.pl_seek.specs.declared.job.SeekJob.TheVariants as seek

-- a conversion under options that an index can have
abbrev pub options_in : Job → Option (CsvReadOptions × CsvWriterOptions)
options_in (job.Convert read write) = if is_wrong read then None else Some (read, write)
options_in _ = None

-- the options that the words of a conversion mean
abbrev pub options_of : List (List ℕ) → Option (CsvReadOptions × CsvWriterOptions)
options_of words = with (job_of_words words) options_in

-- what stands behind `build`: how many records are a group, at least one, the path of the input, and the words of a conversion
abbrev pub build_of : List (List ℕ) → Option SeekJob
build_of (every ∷ path ∷ words) =
    with (count_of every) (λ every.
    if every == 0 then None else
    with (options_of words) (λ options. Some (seek.Build every path options.0)))
build_of _ = None

-- what stands behind `slice`: the number of the first record, how many are asked for, the paths of the input and of its index, and the words
-- of a conversion
abbrev pub slice_of : List (List ℕ) → Option SeekJob
slice_of (start ∷ count ∷ path ∷ index_path ∷ words) =
    with (count_of start) (λ start.
    with (count_of count) (λ count.
    with (options_of words) (λ options. Some (seek.Slice start count path index_path options.0 options.1))))
slice_of _ = None

-- what words mean: the first is `build` or `slice`
abbrev pub asked_of_words : List (List ℕ) → Option SeekJob
asked_of_words [] = None
asked_of_words (word ∷ words) =
    if bytes_eq word (codes "build") then build_of words
    else if bytes_eq word (codes "slice") then slice_of words
    else None

-- what words ask for: a group is at least one record
abbrev pub MayAsk : SeekJob → Type 0
MayAsk (seek.Build every path read) = 0 < every
MayAsk (seek.Slice start count path index_path read write) = Unit {0}
