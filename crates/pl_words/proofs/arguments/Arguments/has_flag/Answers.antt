use Rattle.std.proofs.Common.{◌≡◌, ◌∙◌, Some, ap, map, rules, string_bytes, sym}
use Rattle.std.specs.Option.{option_and_then}
use Rattle.clap.specs.Matches.{found_of, one_text}
use Rattle.pl_words.specs.Arguments.{id_of, parts_in}
use Rattle.pl_words.specs.Parts.{has_name}
use Rattle.pl_words.proofs.CommandLaws.{flag_is}
use Rattle.pl_words.proofs.arguments.Arguments.has_flag.Goals as goal

pub returns-in-Some : goal.returns-in-Some
returns-in-Some c =
    let found = found_of c.self.inside.matches in
    let parts = parts_in (map string_bytes c.self.inside.words.now) in
    let id : id_of c.args.name.now ≡ Some c.in-Some.id.now = search rules in
    let view : parts ≡ c.args.self.now = search rules in
    flag_is (option_and_then (one_text found) (id_of c.args.name.now)) (has_name c.args.name.now parts) c.get_flag.result
    (c.self.invariant.1.1 c.args.name.now c.requires) (λ e. c.get_flag.ensures.value (sym (ap (option_and_then (one_text found)) id) ∙ e))
    (λ e. c.get_flag.ensures.other (sym (ap (option_and_then (one_text found)) id) ∙ e))
    ∙ ap (has_name c.args.name.now) view
