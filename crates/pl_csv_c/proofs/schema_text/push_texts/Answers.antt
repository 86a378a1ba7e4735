use Rattle.std.proofs.Common.{◌++◌, ◌∙◌, ap}
use Rattle.std.specs.Prelude.{string_bytes}
use Rattle.pl_csv_c.proofs.JoinLaws.{joined_more}
use Rattle.pl_csv_c.proofs.schema_text.push_texts.Goals as goal

pub loop-place-preserved : goal.loop-place-preserved
loop-place-preserved c =
    let marked = string_bytes c.push_mark.new.text in
    joined_more 47 (λ t. t) c.args.texts.now c.loop-place.place c.index-texts-place.result (string_bytes c.args.text.now) (string_bytes c.loop-place.text) marked (string_bytes c.push_str.new.self) c.loop-place-test.true
    c.loop-place.invariant c.in_ok-push_mark.ensures (c.in_ok-push_str.ensures.bytes ∙ ap (λ t. marked ++ t) (c.as_str.ensures ∙ c.index-texts-place.is))
