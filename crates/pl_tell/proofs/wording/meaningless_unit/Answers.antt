use Rattle.std.proofs.Common.{◌≡◌, None, map, string_bytes}
use Rattle.pl_words.specs.Words.{job_of_words}
use Rattle.pl_tell.proofs.WordLaws.{unit_at}
use Rattle.pl_tell.proofs.wording.meaningless_unit.Goals as goal

pub returns-then-not-is_offset : goal.returns-then-not-is_offset
returns-then-not-is_offset c =
    unit_at (λ unit. job_of_words (map string_bytes unit) ≡ None) c.args.words.now c.loop-start.start c.if-takes_next.count
    (c.is_meaningless.ensures c.if-is_meaningless.true)
