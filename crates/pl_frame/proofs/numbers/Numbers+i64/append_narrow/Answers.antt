use Rattle.std.proofs.Common.{◌≡◌, ◌-◌, ◌++◌, ◌∙◌, ap, arith, length, map, take, drop}
use Rattle.std.specs.Option.{option_map}
use Rattle.pl_frame.specs.Flags.{flags_behind, marked}
use Rattle.pl_frame.specs.Frame.{Number}
use Rattle.pl_frame.proofs.FlagLaws.{widened-run, length-widened, length-behind, length-run}
use Rattle.pl_frame.proofs.numbers.Numbers+i64.append_narrow.Goals as goal

pub returns : goal.returns
returns g c =
    let n = c.args.to - c.args.from in
    let xs = c.self.inside.values.items in
    let fs = c.self.inside.present.items in
    let size : c.len.result ≡ length xs = omega (arith, c.len.ensures, ap length c.in_ok-reserve.ensures.items) in
    let values = c.extend_narrow.ensures
    ∙ (λ j. map Number (c.in_ok-reserve.ensures.items j) ++ map g.N.Whole.scalar (take n (drop c.args.from (c.deref-2.ensures.value j)))) in
    let flags = c.in_ok-append_flags.ensures.ok
    ∙ (λ j. flags_behind fs (size j) ((c.flags_between-flags.ensures ∙ ap (λ gs. take n (drop c.args.from gs)) c.deref.ensures.value) j)) in
    widened-run g.N.Whole.scalar xs _ c.other.inside.values.items fs c.other.inside.present.items _ n c.args.from c.self.invariant values flags
    ∙ (λ j. map (option_map Number) (c.self.view_is j) ++ take n (drop c.args.from (map (option_map g.N.Whole.scalar) (c.other.view_is j))))
