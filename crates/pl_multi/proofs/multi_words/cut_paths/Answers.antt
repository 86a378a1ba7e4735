use Rattle.std.proofs.Common.{◌∙◌, sym}
use Rattle.std.specs.Prelude.{string_bytes}
use Rattle.pl_multi.proofs.WordsLaws.{cut-at, cut-none}
use Rattle.pl_multi.proofs.multi_words.cut_paths.Goals as goal

pub returns-in-Some : goal.returns-in-Some
returns-in-Some c = cut-at string_bytes c.args.words.now c.in-Some.place (sym c.find_dashes.ensures.place ∙ c.in-Some.is)

pub returns-in-None : goal.returns-in-None
returns-in-None c = cut-none string_bytes c.args.words.now (sym c.find_dashes.ensures.place ∙ c.in-None.is)
