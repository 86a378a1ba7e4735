use Rattle.std.proofs.Common.{◌≡◌, Some, None, ◌∙◌, ap, subst}
use Rattle.std.specs.Prelude.{map}
use Rattle.pl_frame.specs.Columns.{first_misfit, text_cells, IsFirstFault}
use Rattle.pl_csv_c.proofs.HostLaws.{enum-type, enum-holds}
use Rattle.pl_csv_c.proofs.host_made.enum_column.Goals as goal

pub unreachable-requires : goal.unreachable-requires
unreachable-requires c =
    let host = c.args.host.now in
    let type = c.args.dtype in
    let categories = Some (map (λ x. x.now) host.categories.now) in
    let cells = text_cells c.take_rows.new.cells.texts.items in
    let same = c.in-Ok.ensures.cells type (categories, enum-type host type c.requires.given c.requires.kind) in
    let holds : first_misfit type cells ≡ None = ap (first_misfit type) same ∙ enum-holds host type c.requires.given c.requires.kind in
    let found : first_misfit type cells ≡ Some c.in-Err-OutOfRange.field-0-0 = subst (IsFirstFault (first_misfit type cells)) c.in-Err-OutOfRange.field-0-is c.in-Err-OutOfRange.ensures.refused in
    cc

pub returns-in-Err-clause-refused : goal.returns-in-Err-clause-refused
returns-in-Err-clause-refused c =
    let host = c.args.host.now in
    c.in-Err.ensures.refused c.args.dtype (Some (map (λ x. x.now) host.categories.now), enum-type host c.args.dtype c.requires.given c.requires.kind)
