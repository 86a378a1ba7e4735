use Rattle.std.proofs.Common.{refl, sym, ◌∙◌, subst}
use Rattle.std.specs.Prelude.{slice_range}
use Rattle.pl_rows.specs.WholePieces.{IsPieceFound, IsPieceFrame, IsFrontLinked}
use Rattle.pl_rows.proofs.LinkLaws.{IsFrontLinked-none, piece-columns, IsFrontLinked-more}
use Rattle.pl_csv_c.proofs.pieces.link_pieces.Goals as goal

pub pieces-init : goal.pieces-init
pieces-init c = record {
  linked = IsFrontLinked-none c.args.plan.now c.args.schema.now c.args.range.now c.args.stacks.now c.requires.none;
  empty = c.requires.empty;
}

pub push_columns-requires : goal.push_columns-requires
push_columns-requires c =
    let plan = c.args.plan.now in
    let schema = c.args.schema.now in
    let text = slice_range c.args.range.now c.pieces.end c.piece_end-to.result in
    let framed : IsPieceFrame plan schema text c.in-Some.piece = (subst (IsPieceFound plan schema text) c.in-Some.is c.in_ok-piece.ensures.found).0 in
    piece-columns plan schema c.args.range.now text c.pieces.stacks c.in-Some.piece c.pieces.rows c.pieces.end c.pieces.invariant.linked framed

pub pieces-preserved : goal.pieces-preserved
pieces-preserved c =
    let plan = c.args.plan.now in
    let schema = c.args.schema.now in
    let range = c.args.range.now in
    let to = c.piece_end-to.result in
    let more = c.in-Some-checked_add.more in
    let text = slice_range range c.pieces.end to in
    let framed : IsPieceFrame plan schema text c.in-Some.piece = (subst (IsPieceFound plan schema text) c.in-Some.is c.in_ok-piece.ensures.found).0 in
    let linked =
    IsFrontLinked-more plan schema range text c.pieces.stacks c.in-Some.piece c.pieces.rows c.pieces.end c.pieces.end to more c.requires.dialect c.pieces.invariant.linked framed refl refl c.piece_end-to.ensures.0
    c.piece_end-to.ensures.1 c.in-Some-checked_add.ensures.1 (sym c.is_below.ensures ∙ c.if-not-is_below.false) in
    record {
      linked = subst (λ stacks. IsFrontLinked plan schema range stacks more to) (sym c.in_ok-push_columns.ensures) linked;
      empty = c.in_ok-piece.ensures.kept ∙ c.pieces.invariant.empty;
    }
