use Rattle.std.proofs.Common.{◌≡◌, ◌<◌, length, arith, map, sym, ◌∙◌, below_more}
use Rattle.std.proofs.lemmas.List.{length-map}
use Rattle.pl_frame.specs.Names.{is_repeat}
use Rattle.pl_frame.proofs.NameLaws.{first_repeat-found, first_repeat-nowhere, is_repeat-tested}
use Rattle.pl_frame.proofs.name.find_repeat.Goals as goal

pub loop-place-preserved : goal.loop-place-preserved
loop-place-preserved g c =
    let tested : is_repeat (map g.T.Named.name c.args.items.now) c.loop-place.place ≡ c.has_name.result =
    is_repeat-tested g.T.Named.name c.args.items.now c.loop-place.place c.index-items-place.result c.name_text.result.now c.has_name.result (omega arith) c.index-items-place.is
    c.name_text.ensures c.has_name.ensures in
    below_more _ _ c.loop-place.invariant (tested ∙ c.if-has_name.false)

pub returns-then-has_name-clause-first : goal.returns-then-has_name-clause-first
returns-then-has_name-clause-first g c =
    let tested : is_repeat (map g.T.Named.name c.args.items.now) c.loop-place.place ≡ c.has_name.result =
    is_repeat-tested g.T.Named.name c.args.items.now c.loop-place.place c.index-items-place.result c.name_text.result.now c.has_name.result (omega arith) c.index-items-place.is
    c.name_text.ensures c.has_name.ensures in
    let within : c.loop-place.place < length (map g.T.Named.name c.args.items.now) = rw length-map (omega arith) in
    sym (first_repeat-found (map g.T.Named.name c.args.items.now) c.loop-place.place within c.loop-place.invariant (tested ∙ c.if-has_name.true))

pub returns-clause-first : goal.returns-clause-first
returns-clause-first g c =
    let all : length (map g.T.Named.name c.args.items.now) ≡ length c.args.items.now = length-map c.args.items.now g.T.Named.name in
    sym (first_repeat-nowhere (map g.T.Named.name c.args.items.now) (λ k h. c.loop-place.invariant k (omega arith)))
