use Rattle.std.proofs.Common.{◌≡◌, ◌++◌, ◌∙◌, ap, arith, length, subst, sym}
use Rattle.pl_frame.specs.Optional.{RiseTo}
use Rattle.pl_frame.proofs.JoinLaws.{moved, ends-rising, texts-after}
use Rattle.pl_frame.proofs.texts.Texts.append.Goals as goal

pub extend_ends-requires-clause-rising : goal.extend_ends-requires-clause-rising
extend_ends-requires-clause-rising c =
    let bytes : c.extend_reserved.new.items.items ≡ c.self.inside.bytes.items ++ c.other.inside.bytes.items = cc (c.extend_reserved.ensures, c.in_ok-reserve.ensures.items, c.deref.ensures.value) in
    let base : c.len-base.result ≡ length c.self.inside.bytes.items = omega (arith, c.len-base.ensures, ap length c.in_ok-reserve.ensures.items) in
    let last : c.len-4.result ≡ length (c.self.inside.bytes.items ++ c.other.inside.bytes.items) = omega (arith, c.len-4.ensures, ap length bytes) in
    subst (λ xs. RiseTo c.len-base.result (moved c.len-base.result xs) c.len-4.result) (sym c.deref-2.ensures.value)
    (ends-rising c.other.inside.ends.items c.self.inside.bytes.items c.other.inside.bytes.items c.other.inside.present.items _ _ c.other.invariant base last)

pub invariant_of-self-2 : goal.invariant_of-self-2
invariant_of-self-2 c =
    let base : c.len-base.result ≡ length c.self.inside.bytes.items = omega (arith, c.len-base.ensures, ap length c.in_ok-reserve.ensures.items) in
    (texts-after c.self.inside.bytes.items c.other.inside.bytes.items c.self.inside.ends.items c.other.inside.ends.items c.self.inside.present.items c.other.inside.present.items
    c.len-base.result _ _ _ c.self.invariant c.other.invariant base
    (cc (c.extend_reserved.ensures, c.in_ok-reserve.ensures.items, c.deref.ensures.value))
    (c.extend_ends.ensures ∙ (λ j. c.in_ok-reserve-2.ensures.items j ++ moved c.len-base.result (c.deref-2.ensures.value j)))
    (cc (c.extend_reserved-2.ensures, c.in_ok-reserve-3.ensures.items, c.deref-3.ensures.value))).0

pub returns-clause-ok : goal.returns-clause-ok
returns-clause-ok c =
    let base : c.len-base.result ≡ length c.self.inside.bytes.items = omega (arith, c.len-base.ensures, ap length c.in_ok-reserve.ensures.items) in
    (texts-after c.self.inside.bytes.items c.other.inside.bytes.items c.self.inside.ends.items c.other.inside.ends.items c.self.inside.present.items c.other.inside.present.items
    c.len-base.result _ _ _ c.self.invariant c.other.invariant base
    (cc (c.extend_reserved.ensures, c.in_ok-reserve.ensures.items, c.deref.ensures.value))
    (c.extend_ends.ensures ∙ (λ j. c.in_ok-reserve-2.ensures.items j ++ moved c.len-base.result (c.deref-2.ensures.value j)))
    (cc (c.extend_reserved-2.ensures, c.in_ok-reserve-3.ensures.items, c.deref-3.ensures.value))).1
    ∙ (λ j. c.self.view_is j ++ c.other.view_is j)
