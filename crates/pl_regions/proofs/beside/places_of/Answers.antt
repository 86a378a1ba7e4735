use Rattle.std.proofs.Common.{ap, length, arith}
use Rattle.std.proofs.lemmas.List.{length-map}
use Rattle.pl_intake.proofs.TextLaws.{Token}
use Rattle.pl_regions.proofs.beside.places_of.Goals as goal

pub put_regions-requires : goal.put_regions-requires
put_regions-requires c = λ k d inside.
    omega (arith, (c.in_ok-regions.ensures k d inside).inside, length-map c.args.tokens.now.items (λ (token : Token). token.value.items), c.loop-taken.invariant.len, ap length c.deref_mut.ensures.value)
