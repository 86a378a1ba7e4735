use Rattle.std.proofs.Common.{◌≡◌, sym, ◌∙◌, ap, subst}
use Rattle.std.proofs.lemmas.Result.{on_ok_weaker}
use Rattle.pl_frame.specs.ColumnData.{cells}
use Rattle.pl_frame.specs.Columns.{HoldsType}
use Rattle.pl_frame.specs.Parts.{part_cells}
use Rattle.pl_frame.proofs.HeldLaws.{held-append}
use Rattle.pl_frame.proofs.column.Column.put_into.Goals as goal

pub returns-in-Single-clause-held : goal.returns-in-Single-clause-held
returns-in-Single-clause-held c =
    let type = c.args.dtype.now in
    let all : HoldsType c.args.self.dtype c.args.self.values = subst (λ v. HoldsType v.dtype v.values) c.self.view_is c.self.invariant.held in
    let same : c.args.self.values ≡ part_cells c.in-Single.part = sym (ap (λ v. v.values) c.self.view_is) ∙ ap (cells c.self.inside.dtype) c.in-Single.is in
    let piece : HoldsType type (part_cells c.in-Single.part) = subst (HoldsType type) same (subst (λ t. HoldsType t c.args.self.values) c.requires.same all) in
    on_ok_weaker c.push.result (λ e. subst (HoldsType type) (sym e) (held-append type c.args.parts.now (part_cells c.in-Single.part) c.requires.held piece)) c.push.ensures

pub returns-in-Parts-clause-held : goal.returns-in-Parts-clause-held
returns-in-Parts-clause-held c =
    let type = c.args.dtype.now in
    let all : HoldsType c.args.self.dtype c.args.self.values = subst (λ v. HoldsType v.dtype v.values) c.self.view_is c.self.invariant.held in
    let same : c.args.self.values ≡ c.in-Parts.more = sym (ap (λ v. v.values) c.self.view_is) ∙ ap (cells c.self.inside.dtype) c.in-Parts.is in
    let piece : HoldsType type c.in-Parts.more = subst (HoldsType type) same (subst (λ t. HoldsType t c.args.self.values) c.requires.same all) in
    on_ok_weaker c.append.result (λ e. subst (HoldsType type) (sym e) (held-append type c.args.parts.now c.in-Parts.more c.requires.held piece)) c.append.ensures
