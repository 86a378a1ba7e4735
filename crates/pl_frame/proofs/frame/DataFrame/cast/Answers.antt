use Rattle.std.proofs.Common.{slice_set, sym, ◌∙◌, ap, subst, arith}
use Rattle.pl_frame.specs.Casts.{can_cast, with_cast}
use Rattle.pl_frame.specs.Equal.{types_equal}
use Rattle.pl_frame.specs.Frame.{IsFrame}
use Rattle.pl_frame.proofs.CastLaws.{cast_same}
use Rattle.pl_frame.proofs.FrameLaws.{frame_cast, cast_at, cast_within, with_cast-at, with_cast-same, read_at}
use Rattle.pl_frame.specs.EqualLaws.{types_same}
use Rattle.pl_frame.proofs.frame.DataFrame.cast.Goals as goal

pub index-requires : goal.index-requires
index-requires c =
    let within = cast_within c.self.inside.columns.items c.args.column c.args.to.now (ap (λ f. can_cast f c.args.column c.args.to.now) c.self.view_is ∙ c.requires) in
    omega (arith, within)

pub returns-then-eq-clause-cast : goal.returns-then-eq-clause-cast
returns-then-eq-clause-cast c =
    let columns = c.self.inside.columns.items in
    let within = cast_within columns c.args.column c.args.to.now (ap (λ f. can_cast f c.args.column c.args.to.now) c.self.view_is ∙ c.requires) in
    let at = read_at columns c.args.column c.index.result.now within c.index.ensures in
    let same = types_same c.index.result.now.dtype c.args.to.now (ap (λ t. types_equal t c.args.to.now) (sym c.dtype.ensures.dtype) ∙ sym c.eq.ensures ∙ c.if-eq.true) in
    ap (λ f. f) (sym c.self.view_is) ∙ sym (with_cast-same columns c.args.column c.args.to.now c.index.result.now at (cast_same c.index.result.now c.args.to.now c.dtype.ensures.held same))
    ∙ ap (λ f. with_cast f c.args.column c.args.to.now) c.self.view_is

pub index-requires-2 : goal.index-requires-2
index-requires-2 c =
    let within = cast_within c.self.inside.columns.items c.args.column c.args.to.now (ap (λ f. can_cast f c.args.column c.args.to.now) c.self.view_is ∙ c.requires) in
    omega (arith, within)

pub cast-requires : goal.cast-requires
cast-requires c =
    let columns = c.self.inside.columns.items in
    let asked = ap (λ f. can_cast f c.args.column c.args.to.now) c.self.view_is ∙ c.requires in
    let at = read_at columns c.args.column c.index-2.result.now (cast_within columns c.args.column c.args.to.now asked) c.index-2.ensures in
    record { carried = sym (cast_at columns c.args.column c.args.to.now c.index-2.result.now at) ∙ asked }

pub index_mut-requires : goal.index_mut-requires
index_mut-requires c =
    let within = cast_within c.self.inside.columns.items c.args.column c.args.to.now (ap (λ f. can_cast f c.args.column c.args.to.now) c.self.view_is ∙ c.requires) in
    omega (arith, within)

pub invariant_of-self : goal.invariant_of-self
invariant_of-self c =
    let columns = c.self.inside.columns.items in
    let asked = ap (λ f. can_cast f c.args.column c.args.to.now) c.self.view_is ∙ c.requires in
    let at = read_at columns c.args.column c.index-2.result.now (cast_within columns c.args.column c.args.to.now asked) c.index-2.ensures in
    subst (λ n. IsFrame (slice_set columns c.args.column n)) (sym c.in_ok-cast.ensures.column) (frame_cast columns c.args.column c.args.to.now c.index-2.result.now at c.self.invariant)

pub returns-clause-cast : goal.returns-clause-cast
returns-clause-cast c =
    let columns = c.self.inside.columns.items in
    let asked = ap (λ f. can_cast f c.args.column c.args.to.now) c.self.view_is ∙ c.requires in
    let at = read_at columns c.args.column c.index-2.result.now (cast_within columns c.args.column c.args.to.now asked) c.index-2.ensures in
    ap (slice_set columns c.args.column) c.in_ok-cast.ensures.column ∙ sym (with_cast-at columns c.args.column c.args.to.now c.index-2.result.now at)
    ∙ ap (λ f. with_cast f c.args.column c.args.to.now) c.self.view_is
