use Rattle.std.proofs.Common.{◌≡◌, ◌+◌, ◌-◌, ◌≤◌, ◌++◌, sym, ◌∙◌, ap, subst, arith, length, map, take, drop}
use Rattle.std.proofs.lemmas.List.{length-append, length-take, length-drop}
use Rattle.pl_frame.specs.Flags.{filled}
use Rattle.pl_frame.specs.Optional.{RiseTo, parts_between}
use Rattle.pl_frame.proofs.FlagLaws.{length-marked}
use Rattle.pl_frame.proofs.OptionalLaws.{length-parts_between}
use Rattle.pl_frame.proofs.TextRunLaws.{run-rising, run-ordered, run-within, packed-run}
use Rattle.pl_frame.proofs.texts.Texts.append_packed.Goals as goal

pub short_begin_of-start-requires : goal.short_begin_of-start-requires
short_begin_of-start-requires c =
    let kept = c.kept-other.result in
    let n = c.args.to - c.args.from in
    let h = c.kept-other.ensures.texts in
    let ordered = c.requires.0 in
    let within : c.args.to ≤ length kept.ends.now = (let a = ap length c.kept-other.ensures.whole in let b = length-marked (parts_between 0 kept.ends.now kept.bytes.now) kept.present.now in let o = length-parts_between 0 kept.ends.now kept.bytes.now in let l = c.requires.1 in omega (arith, a, b, o, l)) in
    omega (arith, ordered, within)

pub short_begin_of-requires : goal.short_begin_of-requires
short_begin_of-requires c =
    let kept = c.kept-other.result in
    let n = c.args.to - c.args.from in
    let h = c.kept-other.ensures.texts in
    let ordered = c.requires.0 in
    let within : c.args.to ≤ length kept.ends.now = (let a = ap length c.kept-other.ensures.whole in let b = length-marked (parts_between 0 kept.ends.now kept.bytes.now) kept.present.now in let o = length-parts_between 0 kept.ends.now kept.bytes.now in let l = c.requires.1 in omega (arith, a, b, o, l)) in
    within

pub between-ends-requires : goal.between-ends-requires
between-ends-requires c =
    let kept = c.kept-other.result in
    let n = c.args.to - c.args.from in
    let h = c.kept-other.ensures.texts in
    let ordered = c.requires.0 in
    let within : c.args.to ≤ length kept.ends.now = (let a = ap length c.kept-other.ensures.whole in let b = length-marked (parts_between 0 kept.ends.now kept.bytes.now) kept.present.now in let o = length-parts_between 0 kept.ends.now kept.bytes.now in let l = c.requires.1 in omega (arith, a, b, o, l)) in
    (ordered, within)

pub between-bytes-requires : goal.between-bytes-requires
between-bytes-requires c =
    let kept = c.kept-other.result in
    let n = c.args.to - c.args.from in
    let h = c.kept-other.ensures.texts in
    let ordered = c.requires.0 in
    let within : c.args.to ≤ length kept.ends.now = (let a = ap length c.kept-other.ensures.whole in let b = length-marked (parts_between 0 kept.ends.now kept.bytes.now) kept.present.now in let o = length-parts_between 0 kept.ends.now kept.bytes.now in let l = c.requires.1 in omega (arith, a, b, o, l)) in
    (run-ordered kept.bytes.now kept.ends.now c.args.from c.args.to c.short_begin_of-start.result c.short_begin_of.result h.rising ordered within c.short_begin_of-start.ensures c.short_begin_of.ensures, run-within kept.bytes.now kept.ends.now c.args.from c.args.to c.short_begin_of-start.result c.short_begin_of.result h.rising ordered within c.short_begin_of-start.ensures c.short_begin_of.ensures)

pub extend_short_run-requires-clause-rising : goal.extend_short_run-requires-clause-rising
extend_short_run-requires-clause-rising c =
    let kept = c.kept-other.result in
    let n = c.args.to - c.args.from in
    let h = c.kept-other.ensures.texts in
    let ordered = c.requires.0 in
    let within : c.args.to ≤ length kept.ends.now = (let a = ap length c.kept-other.ensures.whole in let b = length-marked (parts_between 0 kept.ends.now kept.bytes.now) kept.present.now in let o = length-parts_between 0 kept.ends.now kept.bytes.now in let l = c.requires.1 in omega (arith, a, b, o, l)) in
    let a = run-ordered kept.bytes.now kept.ends.now c.args.from c.args.to c.short_begin_of-start.result c.short_begin_of.result h.rising ordered within c.short_begin_of-start.ensures c.short_begin_of.ensures in
    let b = run-within kept.bytes.now kept.ends.now c.args.from c.args.to c.short_begin_of-start.result c.short_begin_of.result h.rising ordered within c.short_begin_of-start.ensures c.short_begin_of.ensures in
    let some : length c.between-bytes.result.now ≡ c.short_begin_of.result - c.short_begin_of-start.result =
    (let size = length-take (c.short_begin_of.result - c.short_begin_of-start.result) (drop c.short_begin_of-start.result kept.bytes.now) in let rest = length-drop c.short_begin_of-start.result kept.bytes.now in let is = ap length c.between-bytes.ensures in omega (arith, size, rest, is, a, b)) in
    let all = ap length c.extend_reserved.ensures in
    let sum = length-append c.reserve.new.self.items c.between-bytes.result.now in
    let end : c.short_begin_of.result ≡ c.short_begin_of-start.result + (c.len.result - c.len-base.result) = omega (arith, some, all, sum, a, c.len.ensures, c.len-base.ensures) in
    subst (λ ends. RiseTo c.short_begin_of-start.result ends (c.short_begin_of-start.result + (c.len.result - c.len-base.result))) (sym c.between-ends.ensures)
    (subst (RiseTo c.short_begin_of-start.result (take n (drop c.args.from kept.ends.now))) end (run-rising kept.bytes.now kept.ends.now c.args.from c.args.to c.short_begin_of-start.result c.short_begin_of.result h.rising ordered within c.short_begin_of-start.ensures c.short_begin_of.ensures))

pub invariant_of-self-2 : goal.invariant_of-self-2
invariant_of-self-2 c =
    let kept = c.kept-other.result in
    let n = c.args.to - c.args.from in
    let h = c.kept-other.ensures.texts in
    let ordered = c.requires.0 in
    let within : c.args.to ≤ length kept.ends.now = (let a = ap length c.kept-other.ensures.whole in let b = length-marked (parts_between 0 kept.ends.now kept.bytes.now) kept.present.now in let o = length-parts_between 0 kept.ends.now kept.bytes.now in let l = c.requires.1 in omega (arith, a, b, o, l)) in
    let old = c.self.inside in
    let base : c.len-base.result ≡ length old.bytes.items = omega (arith, c.len-base.ensures, ap length c.in_ok-reserve.ensures.items) in
    let bytes : c.extend_reserved.new.items.items ≡ old.bytes.items ++ take (c.short_begin_of.result - c.short_begin_of-start.result) (drop c.short_begin_of-start.result kept.bytes.now) =
    c.extend_reserved.ensures ∙ (λ j. c.in_ok-reserve.ensures.items j ++ c.between-bytes.ensures j) in
    let ends : c.extend_short_run.new.ends.items ≡ old.ends.items ++ map (λ end. c.len-base.result + (end - c.short_begin_of-start.result)) (take n (drop c.args.from kept.ends.now)) =
    c.extend_short_run.ensures ∙ (λ j. c.in_ok-reserve-2.ensures.items j ++ map (λ end. c.len-base.result + (end - c.short_begin_of-start.result)) (c.between-ends.ensures j)) in
    let flags : c.extend_flags.new.flags.items ≡ old.present.items ++ filled n (take n (drop c.args.from kept.present.now)) =
    c.extend_flags.ensures ∙ (λ j. c.in_ok-reserve-3.ensures.items j ++ filled n (c.flags_between-flags.ensures j)) in
    let both = packed-run old.bytes.items old.ends.items old.present.items kept.bytes.now kept.ends.now kept.present.now c.args.from c.args.to c.short_begin_of-start.result c.short_begin_of.result c.len-base.result _ _ _ c.self.invariant ordered within
    c.short_begin_of-start.ensures c.short_begin_of.ensures base bytes ends h flags in
    both.0

pub returns : goal.returns
returns c =
    let kept = c.kept-other.result in
    let n = c.args.to - c.args.from in
    let h = c.kept-other.ensures.texts in
    let ordered = c.requires.0 in
    let within : c.args.to ≤ length kept.ends.now = (let a = ap length c.kept-other.ensures.whole in let b = length-marked (parts_between 0 kept.ends.now kept.bytes.now) kept.present.now in let o = length-parts_between 0 kept.ends.now kept.bytes.now in let l = c.requires.1 in omega (arith, a, b, o, l)) in
    let old = c.self.inside in
    let base : c.len-base.result ≡ length old.bytes.items = omega (arith, c.len-base.ensures, ap length c.in_ok-reserve.ensures.items) in
    let bytes : c.extend_reserved.new.items.items ≡ old.bytes.items ++ take (c.short_begin_of.result - c.short_begin_of-start.result) (drop c.short_begin_of-start.result kept.bytes.now) =
    c.extend_reserved.ensures ∙ (λ j. c.in_ok-reserve.ensures.items j ++ c.between-bytes.ensures j) in
    let ends : c.extend_short_run.new.ends.items ≡ old.ends.items ++ map (λ end. c.len-base.result + (end - c.short_begin_of-start.result)) (take n (drop c.args.from kept.ends.now)) =
    c.extend_short_run.ensures ∙ (λ j. c.in_ok-reserve-2.ensures.items j ++ map (λ end. c.len-base.result + (end - c.short_begin_of-start.result)) (c.between-ends.ensures j)) in
    let flags : c.extend_flags.new.flags.items ≡ old.present.items ++ filled n (take n (drop c.args.from kept.present.now)) =
    c.extend_flags.ensures ∙ (λ j. c.in_ok-reserve-3.ensures.items j ++ filled n (c.flags_between-flags.ensures j)) in
    let both = packed-run old.bytes.items old.ends.items old.present.items kept.bytes.now kept.ends.now kept.present.now c.args.from c.args.to c.short_begin_of-start.result c.short_begin_of.result c.len-base.result _ _ _ c.self.invariant ordered within
    c.short_begin_of-start.ensures c.short_begin_of.ensures base bytes ends h flags in
    both.1 ∙ (λ j. c.self.view_is j ++ take n (drop c.args.from (c.kept-other.ensures.whole j)))
