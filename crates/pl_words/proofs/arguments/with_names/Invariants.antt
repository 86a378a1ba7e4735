use Rattle.std.proofs.Common.{◌≡◌, drop, map}
use Rattle.std.specs.List.{fold}
use Rattle.clap.specs.Words.{app_of}
use Rattle.pl_words.specs.Arguments.{with_name}
use Rattle.pl_words.proofs.arguments.with_names.Given as goal

abbrev pub invariant-loop-name : goal.invariant-loop-name
invariant-loop-name l =
    fold (with_name l.action) (app_of l.fn.command) (map (λ n. n.now) l.names) ≡ fold (with_name l.action) (app_of l.command) (map (λ n. n.now) (drop l.name-index l.names))
