use Rattle.std.proofs.Common.{◌≡◌, ◌<◌, ◌≤◌, length, eqb-true, sym, ◌∙◌, arith}
use Rattle.std.proofs.lemmas.Bool.Decides.{nat_tests}
use Rattle.std.proofs.lemmas.List.{length-map}
use Rattle.pl_rows.specs.Plan.{states}
use Rattle.pl_rows.proofs.ExcessLaws.{length-nil}
use Rattle.pl_rows.proofs.PlanLaws.{CanRead-more}
use Rattle.pl_rows.proofs.RangeLaws.{IsAtRow, HasReadRows-more, HasReadRows-comment, HasReadRange-closed, HasReadRange-open, HasReadRange-fault, HasReadRows-back, rows_left-none}
use Rattle.pl_rows.proofs.range.read_counted.Goals as goal

pub loop-rest-init : goal.loop-rest-init
loop-rest-init c = c.read_blocks-front.ensures

pub loop-rest-preserved-then-is_comment_line : goal.loop-rest-preserved-then-is_comment_line
loop-rest-preserved-then-is_comment_line c =
    let left = c.loop-rest.rest.now in
    let some : 0 < length left = grind (arith, nat_tests, c.is_empty.ensures, c.loop-rest-test.true) in
    HasReadRows-comment c.args.plan.now c.args.range.now (states c.args.buffers.now) (states c.loop-rest.buffers) left c.behind_comment-rest.result.now c.loop-rest.row some
    (sym c.is_comment_line.ensures ∙ c.if-is_comment_line.true) c.loop-rest.invariant c.behind_comment-rest.ensures

pub read_row-requires : goal.read_row-requires
read_row-requires c =
    let read = c.loop-rest.invariant in CanRead-more c.args.plan.now read.done (states c.args.buffers.now) (states c.loop-rest.buffers) read.filled c.requires

pub returns-in-Open-clause-read : goal.returns-in-Open-clause-read
returns-in-Open-clause-read c =
    let left = c.loop-rest.rest.now in
    let some : 0 < length left = grind (arith, nat_tests, c.is_empty.ensures, c.loop-rest-test.true) in
    let at : IsAtRow c.args.plan.now left c.loop-rest.row = record { some = some; below = sym c.is_below.ensures ∙ c.if-is_below.true; plain = sym c.is_comment_line.ensures ∙ c.if-is_comment_line.false } in
    HasReadRange-open c.args.plan.now c.args.range.now (states c.args.buffers.now) (states c.loop-rest.buffers) (states c.read_row.new.buffers) left c.loop-rest.row c.requires at c.loop-rest.invariant
    c.in-Open.ensures.0 c.in-Open.ensures.1

pub returns-in-Fault-clause-read : goal.returns-in-Fault-clause-read
returns-in-Fault-clause-read c =
    let left = c.loop-rest.rest.now in
    let some : 0 < length left = grind (arith, nat_tests, c.is_empty.ensures, c.loop-rest-test.true) in
    let at : IsAtRow c.args.plan.now left c.loop-rest.row = record { some = some; below = sym c.is_below.ensures ∙ c.if-is_below.true; plain = sym c.is_comment_line.ensures ∙ c.if-is_comment_line.false } in
    HasReadRange-fault c.args.plan.now c.args.range.now (states c.args.buffers.now) (states c.loop-rest.buffers) (states c.read_row.new.buffers) left c.loop-rest.row c.in-Fault.column c.in-Fault.kind c.requires at
    c.loop-rest.invariant c.in-Fault.ensures.0 c.in-Fault.ensures.1 c.in-Fault.ensures.2

pub returns-in-OutOfMemory-clause-kept : goal.returns-in-OutOfMemory-clause-kept
returns-in-OutOfMemory-clause-kept c =
    let after = states c.read_row.new.buffers in
    let all : length after ≤ length c.read_row.new.buffers = simp length-map (omega arith) in
    c.cut_back.ensures
    ∙ HasReadRows-back c.args.plan.now c.args.range.now (states c.args.buffers.now) (states c.loop-rest.buffers) after c.loop-rest.rest.now c.loop-rest.row (length c.read_row.new.buffers) c.requires c.loop-rest.invariant
    c.in-OutOfMemory.ensures all

pub loop-rest-preserved : goal.loop-rest-preserved
loop-rest-preserved c =
    let left = c.loop-rest.rest.now in
    let some : 0 < length left = grind (arith, nat_tests, c.is_empty.ensures, c.loop-rest-test.true) in
    let at : IsAtRow c.args.plan.now left c.loop-rest.row = record { some = some; below = sym c.is_below.ensures ∙ c.if-is_below.true; plain = sym c.is_comment_line.ensures ∙ c.if-is_comment_line.false } in
    HasReadRows-more c.args.plan.now c.args.range.now (states c.args.buffers.now) (states c.loop-rest.buffers) (states c.read_row.new.buffers) left c.in-Read.behind.now c.behind_line_end-rest.result.now c.loop-rest.row
    c.requires at c.loop-rest.invariant c.in-Read.ensures c.behind_line_end-rest.ensures

pub returns-after-loop-rest-clause-read : goal.returns-after-loop-rest-clause-read
returns-after-loop-rest-clause-read c =
    let none : length c.loop-rest.rest.now ≡ 0 = eqb-true _ _ (sym c.is_empty.ensures ∙ c.loop-rest-test.false) in
    HasReadRange-closed c.args.plan.now c.args.range.now (states c.args.buffers.now) (states c.loop-rest.buffers) c.loop-rest.rest.now c.loop-rest.row c.loop-rest.invariant
    (rows_left-none c.args.plan.now c.loop-rest.row c.loop-rest.rest.now (length-nil _ none))
