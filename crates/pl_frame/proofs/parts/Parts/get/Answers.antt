use Rattle.std.proofs.Common.{◌≡◌, ◌∷◌, ◌≤◌, ◌<◌, ◌-◌, length, get_or, slice_get, unwrap_or, None, ◌∙◌, ap, sym, arith}
use Rattle.pl_frame.proofs.PartsLaws.{rows_end, at_within, row_within, row_in_part}
use Rattle.pl_frame.proofs.parts.Parts.get.Goals as goal

pub thing_at-at-requires : goal.thing_at-at-requires
thing_at-at-requires c =
    let ends = c.self.inside.ends.items in
    let all : get_or (0 ∷ ends) (length ends) 0 ≡ length c.args.self.now = rows_end c.self.inside.parts.items ends c.self.invariant ∙ ap length c.self.view_is in
    rw c.deref.ensures.value (omega (arith, all, c.requires))

pub index-requires : goal.index-requires
index-requires c =
    let here = rw c.deref.ensures.value at c.thing_at-at.ensures.within in
    let within = at_within c.self.inside.parts.items c.self.inside.ends.items c.thing_at-at.result c.self.invariant here in
    omega (arith, within, c.self.inside.parts.ok)

pub get-requires : goal.get-requires
get-requires c =
    let ends = c.self.inside.ends.items in
    let here = rw c.deref.ensures.value at c.thing_at-at.ensures.within in
    let begin : c.begin_of-begin.result ≡ get_or (0 ∷ ends) c.thing_at-at.result 0 = rw c.deref-2.ensures.value at c.begin_of-begin.ensures in
    let low : c.begin_of-begin.result ≤ c.args.row = (let low = rw c.deref.ensures.value at c.thing_at-at.ensures.begin in omega (arith, begin, low)) in
    let high = rw c.deref.ensures.value at c.thing_at-at.ensures.end in
    row_within c.self.inside.parts.items ends c.args.row c.thing_at-at.result c.begin_of-begin.result c.index.result.now c.self.invariant here begin low high c.index.ensures

pub returns : goal.returns
returns c =
    let ends = c.self.inside.ends.items in
    let here = rw c.deref.ensures.value at c.thing_at-at.ensures.within in
    let begin : c.begin_of-begin.result ≡ get_or (0 ∷ ends) c.thing_at-at.result 0 = rw c.deref-2.ensures.value at c.begin_of-begin.ensures in
    let low : c.begin_of-begin.result ≤ c.args.row = (let low = rw c.deref.ensures.value at c.thing_at-at.ensures.begin in omega (arith, begin, low)) in
    let high = rw c.deref.ensures.value at c.thing_at-at.ensures.end in
    c.get.ensures
    ∙ sym (ap (λ o. unwrap_or o None)
    (row_in_part c.self.inside.parts.items ends c.args.row c.thing_at-at.result c.begin_of-begin.result c.index.result.now c.self.invariant here begin low high c.index.ensures))
    ∙ ap (λ cells. unwrap_or (slice_get cells c.args.row) None) c.self.view_is
