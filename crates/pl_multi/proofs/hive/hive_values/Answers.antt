use Rattle.std.proofs.Common.{rules, ◌++◌, ◌∙◌, ap, sym}
use Rattle.std.specs.Prelude.{option_to_list}
use Rattle.std.proofs.lemmas.List.{append_assoc}
use Rattle.pl_multi.specs.Hive.{value_in, hive_values}
use Rattle.pl_multi.proofs.HiveLaws.{values-more}
use Rattle.pl_multi.proofs.hive.hive_values.Goals as goal

pub loop-segment-preserved : goal.loop-segment-preserved
loop-segment-preserved c =
    let values = c.loop-segment.values.items in
    let segment = c.in-Some.segment.now in
    let behind = c.in-Some.behind.now in (
      search rules,
      c.loop-segment.invariant.1
          ∙ ap (λ l. values ++ l) (values-more c.loop-segment.rest.now segment behind c.in-Some.ensures.parts)
          ∙ sym (append_assoc values (option_to_list (value_in segment)) (hive_values behind))
          ∙ ap (λ l. l ++ hive_values behind) (sym c.in_ok-push_value.ensures.pushed),
    )
