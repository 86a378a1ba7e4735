use Rattle.std.proofs.Common.{sym, ◌∙◌}
use Rattle.pl_frame.specs.Categories.{decoded}
use Rattle.pl_frame.specs.Columns.{categories_of}
use Rattle.pl_frame.proofs.CategoryLaws.{code-of_row, null-of_row}
use Rattle.pl_frame.proofs.CellLaws.{code-plain, code-enum, null_of_row}
use Rattle.pl_frame.proofs.column.Column.code.Goals as goal

pub returns-in-Categories-clause-code : goal.returns-in-Categories-clause-code
returns-in-Categories-clause-code c =
    rw (← c.self.view_is, c.in-Categories.is)
    (c.code.ensures.code ∙ sym (code-plain c.self.inside.dtype c.in-Categories.texts c.args.row (rw c.in-Categories.is at c.self.invariant.enumerated)))

pub returns-in-Categories-clause-null : goal.returns-in-Categories-clause-null
returns-in-Categories-clause-null c =
    rw (← c.self.view_is, c.in-Categories.is) (c.code.ensures.null ∙ sym (null_of_row c.in-Categories.texts c.args.row))

pub returns-in-Enum-clause-code : goal.returns-in-Enum-clause-code
returns-in-Enum-clause-code c =
    let type = c.self.inside.dtype in
    rw (← c.self.view_is, c.in-Enum.is)
    (code-of_row (categories_of type) c.in-Enum.places c.args.row c.get.result (rw c.in-Enum.is at c.self.invariant.places) c.get.ensures
    ∙ sym (code-enum type (decoded (categories_of type) c.in-Enum.places) c.args.row (rw c.in-Enum.is at c.self.invariant.enumerated)))

pub returns-in-Enum-clause-null : goal.returns-in-Enum-clause-null
returns-in-Enum-clause-null c =
    let type = c.self.inside.dtype in
    rw (← c.self.view_is, c.in-Enum.is)
    (null-of_row (categories_of type) c.in-Enum.places c.args.row c.get.result c.get.ensures
    ∙ sym (null_of_row (decoded (categories_of type) c.in-Enum.places) c.args.row))
