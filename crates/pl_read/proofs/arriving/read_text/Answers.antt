use Rattle.std.proofs.Common.{◌≡◌, List, ℕ, Some, subst}
use Rattle.pl_rows.specs.WholePieces.{IsPieceFrame, IsPieceFound}
use Rattle.pl_read.proofs.arriving.read_text.Goals as goal

pub read_as-requires : goal.read_as-requires
read_as-requires g c =
    let plan = c.args.plan.now in
    let schema = c.args.schema.now in
    let found : IsPieceFound plan schema c.as_slice.result.now (Some c.in-Ok-Some.read) = subst (IsPieceFound plan schema c.as_slice.result.now) c.in-Ok-Some.field-0-is c.in-Ok-Some.ensures.found in
    c.requires.meant _ _ (subst (λ (t : List ℕ). IsPieceFrame plan schema t c.in-Ok-Some.read) c.as_slice.ensures found.0)
