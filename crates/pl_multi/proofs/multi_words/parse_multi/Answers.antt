use Rattle.std.proofs.Common.{map, string_bytes}
use Rattle.pl_multi.proofs.WordsLaws.{asked-none}
use Rattle.pl_multi.proofs.multi_words.parse_multi.Goals as goal

pub returns-clause-refused : goal.returns-clause-refused
returns-clause-refused c = λ none.
    asked-none (map string_bytes c.args.words.now) (map string_bytes c.in-Some.given.now) (map string_bytes c.in-Some.paths.now) (map string_bytes c.cut_slice-slice.result.1.now)
    c.cut_slice-slice.result.0 c.in_ok-parts.parts.items c.in-Some.ensures c.cut_slice-slice.ensures c.in_ok-parts.ensures.parts (c.job_of.ensures.refused none)
