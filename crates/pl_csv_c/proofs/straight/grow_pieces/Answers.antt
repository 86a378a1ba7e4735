use Rattle.std.proofs.Common.{map, take, refl, sym, ◌∙◌, subst}
use Rattle.std.specs.Prelude.{slice_range}
use Rattle.pl_cells.specs.InitBuffers.{entry_at}
use Rattle.pl_frame.specs.FrameParts.{empty_columns, stacked}
use Rattle.pl_csv_c.proofs.GrowingLaws.{AreGrown-length}
use Rattle.pl_csv_c.proofs.StraightLaws.{same-length, IsFrontGrown-of}
use Rattle.pl_rows.specs.WholePieces.{text_frame, IsPieceFound, IsPieceFrame}
use Rattle.pl_rows.proofs.LinkLaws.{IsFrontLinked-none, piece-columns, IsFrontLinked-more}
use Rattle.pl_csv_c.proofs.straight.grow_pieces.Goals as goal

pub pieces-init : goal.pieces-init
pieces-init c =
    let none = empty_columns (map (entry_at c.args.schema.now) c.args.plan.now.projection.places.now) in
    IsFrontGrown-of c.args.plan.now c.args.schema.now c.args.range.now none c.args.all.now 0 0 (IsFrontLinked-none c.args.plan.now c.args.schema.now c.args.range.now none refl) c.requires.none

pub grow_piece-requires : goal.grow_piece-requires
grow_piece-requires c =
    let plan = c.args.plan.now in
    let schema = c.args.schema.now in
    let range = c.args.range.now in
    let front = text_frame plan schema (take c.pieces.end range) in
    let text = slice_range range c.pieces.end c.piece_end-to.result in
    let framed : IsPieceFrame plan schema text c.in-Some.piece = (subst (IsPieceFound plan schema text) c.in-Some.is c.in_ok-piece.ensures).0 in
    sym (AreGrown-length front c.pieces.all c.pieces.invariant.grown)
    ∙ same-length front c.in-Some.piece.columns.items (piece-columns plan schema range text front c.in-Some.piece c.pieces.rows c.pieces.end c.pieces.invariant.linked framed)

pub pieces-preserved : goal.pieces-preserved
pieces-preserved c =
    let plan = c.args.plan.now in
    let schema = c.args.schema.now in
    let range = c.args.range.now in
    let to = c.piece_end-to.result in
    let more = c.in-Some-checked_add.more in
    let front = text_frame plan schema (take c.pieces.end range) in
    let text = slice_range range c.pieces.end to in
    let framed : IsPieceFrame plan schema text c.in-Some.piece = (subst (IsPieceFound plan schema text) c.in-Some.is c.in_ok-piece.ensures).0 in
    let linked =
    IsFrontLinked-more plan schema range text front c.in-Some.piece c.pieces.rows c.pieces.end c.pieces.end to more c.requires.dialect c.pieces.invariant.linked framed refl refl c.piece_end-to.ensures.0
    c.piece_end-to.ensures.1 c.in-Some-checked_add.ensures.1 (sym c.is_below.ensures ∙ c.if-not-is_below.false) in
    IsFrontGrown-of plan schema range (stacked front c.in-Some.piece.columns.items) c.grow_piece.new.all more to linked (c.in_ok-grow_piece.ensures front c.pieces.invariant.grown)
