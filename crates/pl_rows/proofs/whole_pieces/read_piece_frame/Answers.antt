use Rattle.std.proofs.Common.{false, refl, sym, ◌∙◌, ap, subst, arith}
use Rattle.pl_rows.specs.Columns.{columns_of}
use Rattle.pl_rows.specs.Pieces.{plan_behind, HasReadPiece, IsPieceRead, IsWholePiece}
use Rattle.pl_rows.specs.Plan.{states, plan_columns, CanRead}
use Rattle.pl_rows.proofs.FrameLaws.{written_back, CanRead-empty}
use Rattle.pl_rows.proofs.PieceLaws.{CanRead-behind, IsPieceRead-none}
use Rattle.pl_rows.proofs.SoundTextLaws.{IsPieceFound-read, IsPieceFound-none}
use Rattle.pl_rows.proofs.whole_pieces.read_piece_frame.Goals as goal

pub read_piece-requires-clause-can : goal.read_piece-requires-clause-can
read_piece-requires-clause-can c =
    let plan = c.args.plan.now in
    let now = states c.deref_mut.result.now in
    subst (λ p. CanRead p now) (sym c.plan_behind-plan.ensures)
    (CanRead-behind plan 0 false now (CanRead-empty plan c.args.schema.now now (ap states c.deref_mut.ensures.value ∙ c.in_ok-buffers.ensures) c.requires.apart c.requires.width c.requires.rising c.requires.texts))

pub returns-in_default : goal.returns-in_default
returns-in_default c =
    let piece = c.args.piece.now in
    let before = states c.deref_mut.result.now in
    let none = IsPieceRead-none c.plan_behind-plan.result piece before (states c.read_piece.new.buffers) c.in_ok-rows.field-0 c.in_default.not-Some c.in_ok-rows.ensures.read in
    IsPieceFound-none c.args.plan.now c.args.schema.now piece before (ap states c.deref_mut.ensures.value ∙ c.in_ok-buffers.ensures) c.requires.width
    (subst (λ p. IsWholePiece p (plan_columns p before) piece → ⊥) c.plan_behind-plan.ensures none.0)

pub returns : goal.returns
returns c =
    let plan = c.args.plan.now in
    let piece = c.args.piece.now in
    let first = states c.deref_mut.result.now in
    let after = c.read_piece.new.buffers in
    let rows = c.in-Some.rows in
    let back = written_back c.in_ok-buffers.buffers.items after c.in_ok-buffers.buffers.len (omega (arith, c.in_ok-buffers.buffers.ok, c.deref_mut.ensures.len)) (omega (arith, c.read_piece.auto.buffers, c.deref_mut.ensures.len, c.in_ok-buffers.buffers.ok)) in
    let found : HasReadPiece (plan_behind plan 0 false) piece first (states after) rows =
    subst (λ p. HasReadPiece p piece first (states after) rows) c.plan_behind-plan.ensures (subst (IsPieceRead c.plan_behind-plan.result piece first (states after)) c.in-Some.is c.in_ok-rows.ensures.read) in
    IsPieceFound-read plan c.args.schema.now piece first (states after) rows _ (ap states c.deref_mut.ensures.value ∙ c.in_ok-buffers.ensures) c.requires.width found
    (c.in_ok-columns.ensures ∙ ap (λ b. columns_of (states b)) back) refl
