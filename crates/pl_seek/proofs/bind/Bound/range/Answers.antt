use Rattle.std.proofs.Common.{rules, arith, length, ap, ◌∙◌}
use Rattle.pl_seek.specs.Binding.{Binding}
use Rattle.pl_seek.specs.Building.{index_in, places_in}
use Rattle.pl_seek.specs.Index.{Index}
use Rattle.pl_seek.specs.Slices.{range_in}
use Rattle.pl_seek.proofs.RangeLaws.{range-past}
use Rattle.pl_seek.proofs.bind.Bound.range.Goals as goal

pub returns-in-None : goal.returns-in-None
returns-in-None c =
    let b = c.self.inside in
    let i = b.index in
    let size = length b.input.now in
    let same = c.self.invariant.1 in
    let all = places_in b.read b.input.now in
    range-past i all size c.args.start c.args.count c.place_or-begin.result (omega (arith, c.every-every.ensures.value, c.every-every.ensures.some)) (ap (λ (j : Index). j.records) same) (ap (λ (j : Index). j.places) same)
    (omega (arith, c.if-start-records.false, c.records.ensures)) (omega (arith, c.if-count-eq0.false)) (omega (arith, c.in-None.ensures, c.records.ensures)) (search rules)
    ∙ ap (λ j. range_in j size c.args.start c.args.count) same
    ∙ ap (λ (v : Binding). range_in (index_in v.read v.every v.input) (length v.input) c.args.start c.args.count) c.self.view_is
