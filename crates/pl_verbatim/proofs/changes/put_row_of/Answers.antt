-- Each field is put behind those before it, and the last is followed by what ends a line.
use Rattle.std.proofs.Common.{◌≡◌, ◌<◌, ◌≤◌, ◌++◌, ◌&&◌, ◌+◌, ◌-◌, length, get_or, take, true, false, refl, ap, sym, subst, ◌∙◌, arith}
use Rattle.std.proofs.lemmas.Bool.Decides.{nat_tests}
use Rattle.pl_verbatim.specs.declared.kinds.Kind.TheVariants as kind
use Rattle.pl_verbatim.proofs.FrontKeptLaws.{front-shorter, front-kept, put-behind}
use Rattle.pl_verbatim.proofs.RowChangeLaws.{ArePutBefore, and-true, and-false, passed-put, put-none, put-column, put-row}
use Rattle.pl_verbatim.specs.Kinds.{is_passed}
use Rattle.pl_verbatim.proofs.changes.put_row_of.Goals as goal
use Rattle.pl_verbatim.proofs.changes.put_row_of.Goals.{else-not-this-via-then-not-this+else-is_passed, else-not-this-via-else-not-this}

pub loop-index-init : goal.loop-index-init
loop-index-init g c = record {
  after = omega arith;
  room = omega (arith, c.if-from-out.false);
  long = refl;
  kept = refl;
  row = put-none c.args.text.now c.args.start c.args.kinds.now c.args.separator c.args.quote c.args.form.now (take c.args.from c.args.out.now) c.requires.inside;
}

pub loop-index-preserved-then-is_passed : goal.loop-index-preserved-then-is_passed
loop-index-preserved-then-is_passed g c =
    let row = c.loop-index in
    let passed : is_passed (get_or c.args.kinds.now row.index kind.Text) ≡ true = sym c.is_passed.ensures ∙ c.if-is_passed.true in
    record {
      after = row.invariant.after;
      room = row.invariant.room;
      long = row.invariant.long;
      kept = row.invariant.kept;
      row =
          subst (λ t. ArePutBefore c.args.text.now c.args.start c.args.kinds.now c.args.separator c.args.quote c.args.form.now (row.index + 1) c.in_ok-at.at t (take c.args.from c.args.out.now) (take row.place row.out))
          (ap (λ t. row.is_first && t) passed ∙ and-true row.is_first)
          (put-column c.args.text.now c.args.start c.args.kinds.now c.args.separator c.args.quote c.args.form.now row.index row.at c.in_ok-at.at row.is_first kind.Text (take c.args.from c.args.out.now)
          (take row.place row.out) (take row.place row.out) row.invariant.row (omega arith)
          (passed-put c.args.text.now row.at c.in_ok-at.at (get_or c.args.kinds.now row.index kind.Text) c.args.separator c.args.separator c.args.quote c.args.form.now row.is_first (take row.place row.out) passed c.in_ok-at.ensures));
    }

pub loop-index-preserved : goal.loop-index-preserved
loop-index-preserved g c =
    let row = c.loop-index in
    let one = c.in_ok-next.ensures in
    let end = c.in_ok-next.end in
    let out = c.put_read.new.out in
    let behind : row.place ≤ end = put-behind row.place end row.out out one.put.part (omega (arith, row.invariant.room)) (omega (arith, one.within)) one.put.now_is in
    let read : is_passed (get_or c.args.kinds.now row.index kind.Text) ≡ false =
    elim c.else-not-this.branch [
      | else-not-this-via-then-not-this+else-is_passed w ↦ sym w.is_passed.ensures ∙ w.if-is_passed.false
      | else-not-this-via-else-not-this w ↦ c.requires.whole (grind (arith, nat_tests, w.if-not-this.false)) row.index kind.Text (omega arith)
    ] in
    record {
      after = omega (arith, row.invariant.after, behind);
      room = one.within;
      long = omega (arith, one.long, row.invariant.long);
      kept = front-shorter c.args.from row.place out row.out row.invariant.after one.kept ∙ row.invariant.kept;
      row =
          subst (λ t. ArePutBefore c.args.text.now c.args.start c.args.kinds.now c.args.separator c.args.quote c.args.form.now (row.index + 1) c.in_ok-next.next t (take c.args.from c.args.out.now) (take end out))
          (ap (λ t. row.is_first && t) read ∙ and-false row.is_first)
          (put-column c.args.text.now c.args.start c.args.kinds.now c.args.separator c.args.quote c.args.form.now row.index row.at c.in_ok-next.next row.is_first kind.Text (take c.args.from c.args.out.now)
          (take row.place row.out) (take end out) row.invariant.row (omega arith) one.put);
    }

pub returns-in_err-next-3-clause-kept : goal.returns-in_err-next-3-clause-kept
returns-in_err-next-3-clause-kept g c =
    front-shorter c.args.from c.loop-index.place c.put_read-2.new.out c.loop-index.out c.loop-index.invariant.after c.in_err-next-3.ensures.kept ∙ c.loop-index.invariant.kept

pub returns-in_err-behind-2-clause-kept : goal.returns-in_err-behind-2-clause-kept
returns-in_err-behind-2-clause-kept g c =
    ap (take c.args.from) c.in_err-behind-2.ensures.unchanged
    ∙ front-shorter c.args.from c.loop-index.place c.put_read-2.new.out c.loop-index.out c.loop-index.invariant.after c.in_ok-next-3.ensures.kept
    ∙ c.loop-index.invariant.kept

pub returns-clause-kept : goal.returns-clause-kept
returns-clause-kept g c =
    let row = c.loop-index in
    let one = c.in_ok-next-3.ensures in
    let end = c.in_ok-next-3.end in
    let out = c.put_read-2.new.out in
    let high : end ≤ length out = omega (arith, one.within) in
    let behind : row.place ≤ end = put-behind row.place end row.out out one.put.part (omega (arith, row.invariant.room)) high one.put.now_is in
    front-shorter c.args.from end c.put_text-2.new.out out (omega (arith, row.invariant.after, behind))
    (front-kept end c.in_ok-behind-2.behind out c.put_text-2.new.out _ high (omega (arith, c.in_ok-behind-2.ensures.within)) c.in_ok-behind-2.ensures.text)
    ∙ front-shorter c.args.from row.place out row.out row.invariant.after one.kept
    ∙ row.invariant.kept

pub returns-clause-put : goal.returns-clause-put
returns-clause-put g c =
    let row = c.loop-index in
    let some : 0 < length c.args.kinds.now = grind (arith, nat_tests, c.if-is_empty.ensures) in
    put-row c.args.text.now c.args.start c.args.kinds.now c.args.separator c.args.quote c.args.form.now row.index row.at c.in_ok-next-3.next row.is_first kind.Text (take c.args.from c.args.out.now) (take row.place row.out)
    (take c.in_ok-next-3.end c.put_read-2.new.out) (take c.in_ok-behind-2.behind c.put_text-2.new.out) row.invariant.row (omega arith) some c.in_ok-next-3.ensures.put
    (c.in_ok-behind-2.ensures.text ∙ ap (λ l. take c.in_ok-next-3.end c.put_read-2.new.out ++ l) c.deref-2.ensures.value)

pub returns-in_err-behind-clause-kept : goal.returns-in_err-behind-clause-kept
returns-in_err-behind-clause-kept g c = ap (take c.args.from) c.in_err-behind.ensures.unchanged ∙ c.loop-index.invariant.kept

pub returns-then-is_passed-2-clause-kept : goal.returns-then-is_passed-2-clause-kept
returns-then-is_passed-2-clause-kept g c =
    let row = c.loop-index in
    let low : row.place ≤ length row.out = omega (arith, row.invariant.room) in
    front-shorter c.args.from row.place c.put_text.new.out row.out row.invariant.after
    (front-kept row.place c.in_ok-behind.behind row.out c.put_text.new.out _ low (omega (arith, c.in_ok-behind.ensures.within)) c.in_ok-behind.ensures.text)
    ∙ row.invariant.kept

pub returns-then-is_passed-2-clause-put : goal.returns-then-is_passed-2-clause-put
returns-then-is_passed-2-clause-put g c =
    let row = c.loop-index in
    let some : 0 < length c.args.kinds.now = grind (arith, nat_tests, c.if-is_empty.ensures) in
    let passed : is_passed (get_or c.args.kinds.now (length c.args.kinds.now - 1) kind.Text) ≡ true = sym c.is_passed-then-not-this-2.ensures ∙ c.if-is_passed-2.true in
    put-row c.args.text.now c.args.start c.args.kinds.now c.args.separator c.args.quote c.args.form.now row.index row.at c.in_ok-next-2.next row.is_first kind.Text (take c.args.from c.args.out.now) (take row.place row.out)
    (take row.place row.out) (take c.in_ok-behind.behind c.put_text.new.out) row.invariant.row (omega arith) some
    (passed-put c.args.text.now row.at c.in_ok-next-2.next (get_or c.args.kinds.now (length c.args.kinds.now - 1) kind.Text) 10 c.args.separator c.args.quote c.args.form.now row.is_first (take row.place row.out) passed
    c.in_ok-next-2.ensures)
    (c.in_ok-behind.ensures.text ∙ ap (λ l. take row.place row.out ++ l) c.deref.ensures.value)
