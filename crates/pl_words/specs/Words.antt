-- What the words of the command line mean (docs/command-line.md, "Words").
use Rattle.std.specs.Prelude.{ℕ, if◌then◌else◌, List, codes, Option, None, Some}
use Rattle.pl_options.specs.declared.read_options.CsvReadOptions.{CsvReadOptions}
use Rattle.pl_write.specs.declared.options.CsvWriterOptions.{CsvWriterOptions}
use Rattle.pl_words.specs.declared.job.Job.{Job}
use Rattle.pl_words.specs.declared.job.Job.TheVariants as job
use Rattle.pl_words.specs.Defaults.{with}
use Rattle.pl_words.specs.MakeWords.{making_of}
use Rattle.pl_words.specs.Parts.{PartText, parts_of, are_known_once, value_under}
use Rattle.pl_words.specs.ReadWords.{read_options_of}
use Rattle.pl_words.specs.WriteWords.{write_options_of}

-- how an input is read, and how its frame is written
pub record Conversion : Type 0 where
  pub read : CsvReadOptions
  pub write : CsvWriterOptions

-- the job of a conversion
abbrev pub converting : Conversion → Job
converting conversion = job.Convert conversion.read conversion.write

-- what the parts of a conversion mean: how an input is read, and how its frame is written
abbrev pub conversion_of_parts : List PartText → Option Conversion
conversion_of_parts parts =
    with (read_options_of parts) (λ read.
    with (write_options_of parts) (λ write.
    Some (record { read = read; write = write })))

-- what parts mean: a making job where --make is one of them, and else a conversion
abbrev pub job_of_parts : List PartText → Option Job
job_of_parts parts = elim (value_under (codes "--make") parts) [
  | Some rows ↦ making_of rows parts
  | None ↦ with (conversion_of_parts parts) (λ conversion. Some (converting conversion))
]

-- what words mean: the words are flags and options, each is known, and no name stands twice
abbrev pub job_of_words : List (List ℕ) → Option Job
job_of_words words = with (parts_of words) (λ parts. if are_known_once parts then job_of_parts parts else None)
