use Rattle.std.proofs.Common.{◌≡◌, sym, subst, arith, ◌∙◌}
use Rattle.pl_seek.specs.Index.{Index, IsIndex, index_bytes}
use Rattle.pl_seek.specs.Viewing.{view}
use Rattle.pl_seek.proofs.Whole.{parts_found, parts_refused, none_refused, only_index, made_is, has_index, true-false}
use Rattle.pl_seek.proofs.index.SeekIndex.from_bytes.Goals as goal

pub returns-in_default-clause-read : goal.returns-in_default-clause-read
returns-in_default-clause-read c = λ has. absurd (none_refused c.args.bytes.now (sym c.in_default.ensures) has)

pub returns-then-not-are_parts-clause-read : goal.returns-then-not-are_parts-clause-read
returns-then-not-are_parts-clause-read c = λ has.
    absurd (parts_refused c.args.bytes.now (view c.in-Some.parts) (sym c.in-Some.ensures) (λ are. true-false (sym (c.are_parts.ensures.1 are) ∙ c.if-not-are_parts.true)) has)

pub returns-in_err-places-clause-refused : goal.returns-in_err-places-clause-refused
returns-in_err-places-clause-refused c = λ not.
    absurd (not (has_index c.args.bytes.now (view c.in-Some.parts) (λ i. omega (arith, c.type_inv.bytes i)) (sym c.in-Some.ensures) (c.are_parts.ensures.0 c.if-not-are_parts.false)))

pub returns-in_err-comment_prefix-clause-refused : goal.returns-in_err-comment_prefix-clause-refused
returns-in_err-comment_prefix-clause-refused c = λ not.
    absurd (not (has_index c.args.bytes.now (view c.in-Some.parts) (λ i. omega (arith, c.type_inv.bytes i)) (sym c.in-Some.ensures) (c.are_parts.ensures.0 c.if-not-are_parts.false)))

pub returns-clause-refused : goal.returns-clause-refused
returns-clause-refused c = λ not.
    absurd (not (has_index c.args.bytes.now (view c.in-Some.parts) (λ i. omega (arith, c.type_inv.bytes i)) (sym c.in-Some.ensures) (c.are_parts.ensures.0 c.if-not-are_parts.false)))

pub returns-clause-found : goal.returns-clause-found
returns-clause-found c =
    let same = made_is c.new.result (view c.in-Some.parts) c.in_ok-comment_prefix.comment_prefix.items c.in_ok-places.places.items c.new.ensures c.in_ok-comment_prefix.ensures.items c.in_ok-places.ensures in
    subst (λ (i : Index). IsIndex i × (c.args.bytes.now ≡ index_bytes i)) (sym same)
    (parts_found c.args.bytes.now (view c.in-Some.parts) (λ i. omega (arith, c.type_inv.bytes i)) (sym c.in-Some.ensures) (c.are_parts.ensures.0 c.if-not-are_parts.false))

pub returns-clause-only : goal.returns-clause-only
returns-clause-only c = λ i is has.
    let same = made_is c.new.result (view c.in-Some.parts) c.in_ok-comment_prefix.comment_prefix.items c.in_ok-places.places.items c.new.ensures c.in_ok-comment_prefix.ensures.items c.in_ok-places.ensures in
    same ∙ only_index c.args.bytes.now (view c.in-Some.parts) i (sym c.in-Some.ensures) is has
