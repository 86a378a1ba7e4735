use Rattle.std.proofs.Common.{◌≡◌, [], ◌++◌, map, ◌∙◌, ap, append-nil}
use Rattle.std.specs.Prelude.{slice_range}
use Rattle.std.specs.Cow.{cow_slice_items}
use Rattle.std.specs.List.{concat}
use Rattle.pl_regions.proofs.RegionLaws.{text-pushed}
use Rattle.pl_regions.proofs.region.OpenRegion.append.Goals as goal

pub returns-clause-lines : goal.returns-clause-lines
returns-clause-lines c =
    let region = c.args.self.now in
    let read = slice_range region.text.now region.end c.args.to in
    let first = text-pushed c.reserve-2.new.self.items c.push_reserved.new.self.items _ c.push_reserved.ensures.items in
    let both = text-pushed c.push_reserved.new.self.items c.push_reserved-2.new.self.items _ c.push_reserved-2.ensures.items in
    let none : c.replace-lines.new.dest.items ≡ [] = ap (λ v. v.items) c.replace-lines.ensures.after ∙ c.new.ensures.items in
    (λ j. both j ++ none j)
    ∙ append-nil _
    ∙ ap (λ l. l ++ read) (first ∙ (λ j. concat (map cow_slice_items (c.reserve-2.ensures.items j)) ++ (c.replace-lines.ensures.value j).items))
