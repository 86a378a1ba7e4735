use Rattle.std.proofs.Common.{◌≡◌, [], ◌∷◌, take, ◌++◌, sym, ◌∙◌, ap, append_assoc, arith}
use Rattle.pl_cells.specs.Quoting.{undouble}
use Rattle.pl_cells.proofs.QuotingLaws.{undouble-pass, undouble-none, written_more}
use Rattle.pl_cells.proofs.quoting.write_undoubled.Goals as goal

pub loop-at-preserved-in_ok-push : goal.loop-at-preserved-in_ok-push
loop-at-preserved-in_ok-push c =
    let q = c.args.quote in
    let b = c.loop-at.rest.now in
    let n = c.in-Some.at in
    let behind = c.behind_quote-is_doubled.result.1.now in
    let pair = rw c.if-is_doubled.true at c.behind_quote-is_doubled.ensures.pair in
    let split : undouble q b ≡ take n b ++ (q ∷ [] ++ undouble q behind) =
    undouble-pass q b n c.in-Some.ensures.0.before (omega (arith, c.in-Some.ensures.0.high)) ∙ ap (λ l. take n b ++ l) (sym (ap (undouble q) c.split_at.ensures.back) ∙ pair) in
    rw (c.in_ok-push.ensures.items, c.in_ok-extend_from_slice.ensures.items, c.split_at.ensures.front)
    (written_more (undouble q c.args.text.now) c.loop-at.to.items (take n b) (q ∷ []) (undouble q behind) (undouble q b) c.loop-at.invariant split)

pub loop-at-preserved : goal.loop-at-preserved
loop-at-preserved c =
    let q = c.args.quote in
    let b = c.loop-at.rest.now in
    let n = c.in-Some.at in
    let behind = c.behind_quote-is_doubled.result.1.now in
    let pair = rw c.if-is_doubled.false at c.behind_quote-is_doubled.ensures.pair in
    let split : undouble q b ≡ take n b ++ undouble q behind =
    undouble-pass q b n c.in-Some.ensures.0.before (omega (arith, c.in-Some.ensures.0.high)) ∙ ap (λ l. take n b ++ l) (sym (ap (undouble q) c.split_at.ensures.back) ∙ pair) in
    rw (c.in_ok-extend_from_slice.ensures.items, c.split_at.ensures.front)
    (append_assoc c.loop-at.to.items (take n b) (undouble q behind) ∙ ap (λ l. c.loop-at.to.items ++ l) (sym split) ∙ c.loop-at.invariant)

pub returns : goal.returns
returns c =
    let q = c.args.quote in
    let b = c.loop-at.rest.now in
    let plain : undouble q b ≡ b = undouble-none q b c.in_default.ensures in
    rw c.in_ok-extend_from_slice-2.ensures.items (ap (λ l. c.loop-at.to.items ++ l) (sym plain) ∙ c.loop-at.invariant)
