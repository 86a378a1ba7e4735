use Rattle.std.proofs.Common.{◌+◌, sym, subst, arith, length-drop}
use Rattle.std.proofs.lemmas.List.{take_rest}
use Rattle.pl_write.specs.Options.{cell_options}
use Rattle.pl_verbatim.specs.PrintedTexts.{IsFrontPrinted}
use Rattle.pl_regions.specs.Regions.{lines_so_far}
use Rattle.pl_regions.proofs.RegionLaws.{found, few-printed}
use Rattle.pl_regions.proofs.region.OpenRegion.find.Goals as goal

pub overflow_add-to : goal.overflow_add-to
overflow_add-to c =
    let region = c.args.self.now in
    let front = rw (take_rest region.text.now region.end) at (c.front-front.ensures c.args.plan.now c.args.schema.now (cell_options c.args.options.now) c.requires.can c.requires.verbatim) in
    record { fits = omega (arith, front.within, c.requires.printed.within, length-drop region.end region.text.now) }

pub append-requires-clause-within : goal.append-requires-clause-within
append-requires-clause-within c =
    let region = c.args.self.now in
    let front = rw (take_rest region.text.now region.end) at (c.front-front.ensures c.args.plan.now c.args.schema.now (cell_options c.args.options.now) c.requires.can c.requires.verbatim) in
    omega (arith, front.within, c.requires.printed.within, length-drop region.end region.text.now)

pub overflow_add-self : goal.overflow_add-self
overflow_add-self c =
    let plan = c.args.plan.now in
    let schema = c.args.schema.now in
    let o = cell_options c.args.options.now in
    let region = c.args.self.now in
    let front = rw (take_rest region.text.now region.end) at (c.front-front.ensures plan schema o c.requires.can c.requires.verbatim) in
    let all = found plan schema o region.text.now region.end region.rows c.front-front.result.end c.front-front.result.rows (lines_so_far region) c.requires.can.dialect c.requires.printed front in
    record { fits = omega (arith, few-printed plan schema o region.text.now _ _ _ c.requires.can.dialect all, c.append.ensures.rows) }

pub returns-then-append-clause-printed : goal.returns-then-append-clause-printed
returns-then-append-clause-printed c =
    let plan = c.args.plan.now in
    let schema = c.args.schema.now in
    let o = cell_options c.args.options.now in
    let region = c.args.self.now in
    let next = c.append.new.self in
    let to = region.end + c.front-front.result.end in
    let n = region.rows + c.front-front.result.rows in
    let front = rw (take_rest region.text.now region.end) at (c.front-front.ensures plan schema o c.requires.can c.requires.verbatim) in
    let all = found plan schema o region.text.now region.end region.rows c.front-front.result.end c.front-front.result.rows (lines_so_far region) c.requires.can.dialect c.requires.printed front in
    subst (λ t. IsFrontPrinted plan schema o t to (next.rows + c.front-front.result.rows) (lines_so_far next)) (sym c.append.ensures.text)
    (subst (λ k. IsFrontPrinted plan schema o region.text.now to (k + c.front-front.result.rows) (lines_so_far next)) (sym c.append.ensures.rows)
    (subst (IsFrontPrinted plan schema o region.text.now to n) (sym c.if-append.ensures.lines) all))
