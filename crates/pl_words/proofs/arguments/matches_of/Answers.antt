use Rattle.std.proofs.Common.{◌≡◌, ◌∙◌, ap, map, string_bytes}
use Rattle.std.proofs.lemmas.Result.{IfErr-weaker}
use Rattle.clap.specs.Simple.{app_of}
use Rattle.clap.specs.Takes.{takes}
use Rattle.pl_words.specs.Arguments.{command}
use Rattle.pl_words.proofs.TakesLaws.{shape_taken}
use Rattle.pl_words.proofs.arguments.matches_of.Goals as goal

pub returns-clause-refused : goal.returns-clause-refused
returns-clause-refused c =
    let words = map string_bytes c.args.words.now in
    let made : app_of c.in_ok-command.command ≡ command = c.in_ok-command.ensures in
    IfErr-weaker c.try_get_matches_from.result _ _ (λ error passes. passes (ap (λ app. takes app words) made ∙ shape_taken words c.requires)) c.try_get_matches_from.ensures.passes
