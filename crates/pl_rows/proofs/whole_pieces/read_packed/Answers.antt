use Rattle.std.proofs.Common.{◌≤◌, false, length, refl, sym, ◌∙◌, subst, arith}
use Rattle.std.proofs.lemmas.List.{length-map}
use Rattle.pl_rows.specs.Pieces.{plan_behind, HasReadPiece, IsPieceRead, IsWholePiece}
use Rattle.pl_rows.specs.Plan.{states, plan_columns, CanRead}
use Rattle.pl_rows.proofs.FrameLaws.{CanRead-empty}
use Rattle.pl_rows.proofs.PieceLaws.{CanRead-behind, IsPieceRead-none, HasReadPiece-back}
use Rattle.pl_rows.proofs.SoundTextLaws.{IsPieceFound-read, IsPieceFound-none}
use Rattle.pl_rows.proofs.whole_pieces.read_packed.Goals as goal

pub read_piece-requires-clause-can : goal.read_piece-requires-clause-can
read_piece-requires-clause-can c =
    let plan = c.args.plan.now in
    let now = states c.args.buffers.now in
    subst (λ p. CanRead p now) (sym c.plan_behind-plan.ensures)
    (CanRead-behind plan 0 false now (CanRead-empty plan c.args.schema.now now c.requires.empty c.requires.apart c.requires.width c.requires.rising c.requires.texts))

pub returns-in_default-clause-found : goal.returns-in_default-clause-found
returns-in_default-clause-found c =
    let piece = c.args.piece.now in
    let before = states c.args.buffers.now in
    let none = IsPieceRead-none c.plan_behind-plan.result piece before (states c.read_piece.new.buffers) c.in_ok-rows.field-0 c.in_default.not-Some c.in_ok-rows.ensures.read in
    IsPieceFound-none c.args.plan.now c.args.schema.now piece before c.requires.empty c.requires.width
    (subst (λ p. IsWholePiece p (plan_columns p before) piece → ⊥) c.plan_behind-plan.ensures none.0)

pub returns-clause-found : goal.returns-clause-found
returns-clause-found c =
    let plan = c.args.plan.now in
    let piece = c.args.piece.now in
    let before = states c.args.buffers.now in
    let mid = states c.read_piece.new.buffers in
    let rows = c.in-Some.rows in
    let found : HasReadPiece (plan_behind plan 0 false) piece before mid rows =
    subst (λ p. HasReadPiece p piece before mid rows) c.plan_behind-plan.ensures (subst (IsPieceRead c.plan_behind-plan.result piece before mid) c.in-Some.is c.in_ok-rows.ensures.read) in
    IsPieceFound-read plan c.args.schema.now piece before mid rows _ c.requires.empty c.requires.width found c.in_ok-columns.ensures refl

pub returns-clause-kept : goal.returns-clause-kept
returns-clause-kept c =
    let plan = c.args.plan.now in
    let piece = c.args.piece.now in
    let before = states c.args.buffers.now in
    let mid = states c.read_piece.new.buffers in
    let rows = c.in-Some.rows in
    let p = c.plan_behind-plan.result in
    let found : HasReadPiece p piece before mid rows = subst (IsPieceRead p piece before mid) c.in-Some.is c.in_ok-rows.ensures.read in
    let can : CanRead p before =
    subst (λ q. CanRead q before) (sym c.plan_behind-plan.ensures)
    (CanRead-behind plan 0 false before (CanRead-empty plan c.args.schema.now before c.requires.empty c.requires.apart c.requires.width c.requires.rising c.requires.texts)) in
    let all : length mid ≤ length c.read_piece.new.buffers = simp length-map (omega arith) in
    c.cut_back.ensures ∙ HasReadPiece-back p piece before mid rows (length c.read_piece.new.buffers) can found all
