use Rattle.std.proofs.Common.{◌≡◌, ◌≤◌, true, length, refl, sym, ◌∙◌, arith}
use Rattle.std.proofs.lemmas.List.{length-map}
use Rattle.pl_rows.specs.Plan.{states, plan_columns}
use Rattle.pl_rows.proofs.PieceLaws.{piece-read, whole-read, not-ended, HasReadRange-back}
use Rattle.pl_rows.proofs.pieces.read_piece.Goals as goal

pub returns-then-not-ends_with-clause-read : goal.returns-then-not-ends_with-clause-read
returns-then-not-ends_with-clause-read c =
    let plan = c.args.plan.now in
    (not-ended plan (plan_columns plan (states c.args.buffers.now)) c.args.piece.now (sym c.ends_with.ensures ∙ c.if-not-ends_with.true), refl)

pub returns-then-is_whole-clause-read : goal.returns-then-is_whole-clause-read
returns-then-is_whole-clause-read c =
    let plan = c.args.plan.now in
    piece-read plan c.args.piece.now (states c.args.buffers.now) (states c.read_counted.new.buffers) c.in-Ok.read.end c.in-Ok.read.rows c.requires.can.apart c.requires.before c.in-Ok.ensures.read
    (sym c.ends_with.ensures ∙ c.if-not-ends_with.false) (sym c.is_whole.ensures ∙ c.if-is_whole.true)

pub returns-clause-read : goal.returns-clause-read
returns-clause-read c =
    let plan = c.args.plan.now in
    let piece = c.args.piece.now in
    let before = states c.args.buffers.now in
    let mid = states c.read_counted.new.buffers in
    let all : length mid ≤ length c.read_counted.new.buffers = simp length-map (omega arith) in (
      λ whole.
          let told : c.is_whole.result ≡ true = c.is_whole.ensures ∙ whole-read plan piece before mid c.in-Ok.read.end c.in-Ok.read.rows c.requires.can.apart c.requires.before c.in-Ok.ensures.read whole in
          let none = c.if-is_whole.false in
          cc,
      c.cut_back.ensures ∙ HasReadRange-back plan piece before mid c.in-Ok.read.end c.in-Ok.read.rows (length c.read_counted.new.buffers) c.requires.can c.in-Ok.ensures.read all,
    )
