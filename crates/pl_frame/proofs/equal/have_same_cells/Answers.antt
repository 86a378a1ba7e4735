use Rattle.std.proofs.Common.{◌∙◌}
use Rattle.std.specs.Cmp.Lexicographic.{pointwise}
use Rattle.pl_frame.specs.Equal.{cells_equal}
use Rattle.pl_frame.proofs.AlikeLaws.{numbers_same}
use Rattle.pl_frame.proofs.equal.have_same_cells.Goals as goal

pub returns-in-Some-Some : goal.returns-in-Some-Some
returns-in-Some-Some c =
    c.are_same_numbers.ensures ∙ numbers_same c.in-Some-Some.a.now c.in-Some-Some.b.now
    ∙ (λ j. pointwise cells_equal (c.in-Some-Some.ensures j) (c.in-Some-Some.ensures' j))
