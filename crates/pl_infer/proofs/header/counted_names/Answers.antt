use Rattle.std.proofs.Common.{◌≡◌, ◌+◌, ◌++◌, ◌∷◌, [], refl, ◌∙◌, ap, length, arith}
use Rattle.std.specs.Prelude.{codes, decimal}
use Rattle.std.proofs.lemmas.List.{length_push}
use Rattle.pl_infer.specs.Header.{counted_names}
use Rattle.pl_infer.proofs.NameLaws.{counted_names-push}
use Rattle.pl_infer.proofs.header.counted_names.Goals as goal

pub loop-init : goal.loop-init
loop-init c = record {
  can = tt;
  finite = tt;
  own = rw c.new-names.ensures.items refl;
  count = omega (arith, ap length c.into_iter-iterator.ensures.into_iter_gives, ap length c.new-names.ensures.items);
}

pub loop-preserved : goal.loop-preserved
loop-preserved c =
    let names = c.loop.names.items in
    let count : c.len.result ≡ length names = omega (arith, c.len.ensures, c.loop.names.ok.0) in
    let made : c.as_str.result.now ≡ codes "column_" ++ decimal (length names + 1) = c.as_str.ensures.value ∙ c.in_ok-format.ensures.ok ∙ ap (λ n. codes "column_" ++ decimal (n + 1)) count in
    let pushed : c.push_name.new.names.items ≡ names ++ c.as_str.result.now ∷ [] = c.in_ok-push_name.ensures in
    record {
      can = tt;
      finite = tt;
      own = rw pushed (counted_names-push names c.as_str.result.now c.loop.invariant.own made);
      count = rw pushed (omega (arith, c.loop.invariant.count, length_push names c.as_str.result.now, ap length c.in-Some.ensures.steps));
    }

pub returns : goal.returns
returns c = c.loop.invariant.own ∙ ap counted_names (omega (arith, c.loop.invariant.count, ap length c.in-None.ensures.steps.0))
