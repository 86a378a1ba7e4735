use Rattle.std.proofs.Common.{◌≡◌, ◌++◌, List, ℕ, sym, ◌∙◌, ap, subst}
use Rattle.std.specs.Prelude.{IfSome}
use Rattle.std.specs.Arc.{arc_value}
use Rattle.std.specs.List.{concat}
use Rattle.pl_regions.specs.Arriving.{IsFrontKept, IsPrintedUpTo}
use Rattle.pl_regions.proofs.ArrivingLaws.{IsPrintedUpTo-next}
use Rattle.pl_regions.proofs.line.Line.keep_first.Goals as goal

pub returns-clause-line : goal.returns-clause-line
returns-clause-line g c = λ plan schema o text apart means up.
    let one : List ℕ = (arc_value c.in-Some.text).items in
    let others = c.take_first.new.self in
    let old = c.args.self.now.kept in
    let bytes : c.as_slice-2.result.now ≡ one = c.as_slice-2.ensures.value ∙ ap (λ text. text.items) c.deref-2.ensures in
    let before : IsPrintedUpTo plan schema o text (one ++ concat others) old = subst (λ (left : List ℕ). IsPrintedUpTo plan schema o text left old)
    (ap (λ l. l ++ concat c.args.self.now.pending) c.requires.none ∙ ap concat c.in-Some.ensures.first) up in
    let reads = subst (λ front. IfSome front (g.K.Handing.reads one)) c.in-Some-front.is c.in-Some.ensures.read in
    let front : IsFrontKept plan schema o c.as_slice-2.result.now c.in-Some-front.front = subst (λ (t : List ℕ). IsFrontKept plan schema o t c.in-Some-front.front) (sym bytes) (means one c.in-Some-front.front reads) in
    let next = subst (λ (t : List ℕ). IsPrintedUpTo plan schema o (before.front ++ t) c.in_ok-self.field-0.items c.keep_front.new.kept) bytes
    (c.in_ok-self.ensures.printed plan schema o before.front apart before.is front) in
    subst (λ (pending : List (List ℕ)). IsPrintedUpTo plan schema o text (c.in_ok-self.field-0.items ++ concat pending) c.keep_front.new.kept) (sym c.keep_room.ensures)
    (IsPrintedUpTo-next plan schema o text one c.in_ok-self.field-0.items others old c.keep_front.new.kept before next)
