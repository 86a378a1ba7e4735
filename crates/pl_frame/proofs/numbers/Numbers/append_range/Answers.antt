use Rattle.std.proofs.Common.{◌≡◌, ◌-◌, ◌++◌, ◌∙◌, ap, arith, length, take, drop}
use Rattle.pl_frame.specs.Flags.{flags_behind, marked}
use Rattle.pl_frame.proofs.FlagLaws.{marked-run}
use Rattle.pl_frame.proofs.numbers.Numbers.append_range.Goals as goal

pub returns : goal.returns
returns g c =
    let n = c.args.to - c.args.from in
    let xs = c.self.inside.values.items in
    let fs = c.self.inside.present.items in
    let size : c.len.result ≡ length xs = omega (arith, c.len.ensures, ap length c.in_ok-reserve.ensures.items) in
    let values = c.extend_reserved.ensures ∙ (λ j. c.in_ok-reserve.ensures.items j ++ take n (drop c.args.from (c.deref-2.ensures.value j))) in
    let flags = c.in_ok-append_flags.ensures.ok
    ∙ (λ j. flags_behind fs (size j) ((c.flags_between-flags.ensures ∙ ap (λ gs. take n (drop c.args.from gs)) c.deref.ensures.value) j)) in
    (λ j. marked (values j) (flags j)) ∙ marked-run xs c.other.inside.values.items fs c.other.inside.present.items n c.args.from c.self.invariant
    ∙ (λ j. c.self.view_is j ++ take n (drop c.args.from (c.other.view_is j)))
