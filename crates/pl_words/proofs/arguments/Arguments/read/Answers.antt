use Rattle.std.proofs.Common.{map, string_bytes}
use Rattle.pl_words.proofs.CommandLaws.{read_as}
use Rattle.pl_words.proofs.arguments.Arguments.read.Goals as goal

pub invariant_of-result : goal.invariant_of-result
invariant_of-result c = read_as (map string_bytes c.args.words.now) c.in-Ok.matches c.requires c.in-Ok.ensures.matches
