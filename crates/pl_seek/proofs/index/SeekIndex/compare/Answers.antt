use Rattle.std.proofs.Common.{rules, ◌≡◌, sym, ap, ◌∙◌}
use Rattle.pl_seek.specs.Inside.{inside}
use Rattle.pl_seek.specs.Index.{Index}
use Rattle.pl_seek.specs.Binding.{first_difference}
use Rattle.pl_seek.proofs.BindLaws.{same-index}
use Rattle.pl_seek.proofs.index.SeekIndex.compare.Goals as goal

pub returns-clause-same : goal.returns-clause-same
returns-clause-same c =
    let mine : c.deref.result.now ≡ c.self.inside.places.items = search rules in
    let other : c.deref-2.result.now ≡ c.own.inside.places.items = search rules in
    sym c.self.view_is
    ∙ same-index (inside c.self.inside) (inside c.own.inside)
    (ap (λ (i : Index). i.every) c.self.view_is ∙ c.requires ∙ sym (ap (λ (i : Index). i.every) c.own.view_is))
    (search rules) (search rules, search rules) (sym (λ i. first_difference (mine i) (other i)) ∙ sym c.first_difference.ensures ∙ c.in_default.is) (search rules) c.self.invariant.places.1 c.own.invariant.places.1
    ∙ c.own.view_is
