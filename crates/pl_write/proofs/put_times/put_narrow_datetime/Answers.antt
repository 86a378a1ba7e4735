use Rattle.std.proofs.Common.{◌≡◌, ◌++◌, ◌∷◌, [], pos, take, ap, ◌∙◌, append_assoc, w64, FitsSigned}
use Rattle.std.proofs.lemmas.Int.{to_z-of_z}
use Rattle.std.specs.Int.{int_div_euclid}
use Rattle.pl_frame.specs.Types.{units_in_second}
use Rattle.pl_text.specs.ValueText.{second_text, padded, places_of, datetime_text}
use Rattle.pl_write.proofs.PutLaws.{put-both}
use Rattle.pl_write.proofs.put_times.put_narrow_datetime.Goals as goal

pub returns-clause-text : goal.returns-clause-text
returns-clause-text c =
    let second = c.second_of.result in
    let places = places_of c.args.unit in
    let units = units_in_second c.args.unit in
    let fits : FitsSigned w64 second = record { sfits = c.second_of.type_inv } in
    let given = to_z-of_z w64 c.args.count c.ranges.count in
    let is : second ≡ int_div_euclid c.args.count (pos units) = simp given at c.second_of.ensures in
    let front = simp (to_z-of_z w64 second fits) at c.put_second-behind.ensures.text in
    let rest = simp given at c.rest_of.ensures.value in
    put-both (take c.args.at c.args.to.now) (take c.put_second-behind.result c.put_second-behind.new.to) (take c.put_places.result c.put_places.new.to)
    (second_text second ++ 46 ∷ []) (padded places c.rest_of.result) (datetime_text c.args.unit c.args.count)
    front
    c.put_places.ensures.text
    (append_assoc (second_text second) (46 ∷ []) (padded places c.rest_of.result)
    ∙ (ap (λ s. second_text s ++ 46 ∷ padded places c.rest_of.result) is
    ∙ ap (λ r. second_text (int_div_euclid c.args.count (pos units)) ++ 46 ∷ padded places r) rest))
