use Rattle.std.proofs.Common.{◌≡◌, ℕ, ◌+◌, ◌-◌, List, take, ◌<◌, ◌≤◌, Bool, true, false, Option, None, Some, length, drop, rules, arith, length-drop, ap, ◌∙◌, nat_lt}
use Rattle.std.specs.Prelude.{IfSome}
use Rattle.std.proofs.lemmas.Bool.Decides.{nat_tests}
use Rattle.std.proofs.lemmas.List.{take_all}
use Rattle.pl_options.specs.Text.{marks_of, comment_of}
use Rattle.pl_scan.specs.Items.{text_of, item}
use Rattle.pl_rows.specs.Steps.{is_below}
use Rattle.pl_scan.specs.Comment.{is_comment}
use Rattle.pl_stream.specs.Whole.{count_of, IsWholeFront}
use Rattle.pl_stream.proofs.WholeItemLaws.{front-nil, front-more, front-few}
use Rattle.pl_stream.proofs.whole.whole_records.Goals as goal

-- there is room for one record more
few-more : (limit : Option ℕ) (rows next : ℕ) → is_below limit rows ≡ true → next ≤ rows + 1 → IfSome limit (λ most. next ≤ most)
few-more None rows next below most = tt
few-more (Some limit) rows next below most = grind (arith, nat_tests, below, most)

one-most : (t : Bool) → count_of t ≤ 1
one-most true = omega arith
one-most false = omega arith

pub loop-limit-init : goal.loop-limit-init
loop-limit-init c = record { front = front-nil c.args.options.now c.args.bytes.now; few = search rules }

pub with_item-whole-requires-clause-rows : goal.with_item-whole-requires-clause-rows
with_item-whole-requires-clause-rows c =
    let few = front-few c.args.options.now c.args.bytes.now c.loop-limit.whole c.requires c.loop-limit.invariant.front in
    omega (arith, few, c.in-Some.ensures.some, c.in-Some.ensures.within, length-drop c.loop-limit.whole.end c.args.bytes.now)

pub loop-limit-preserved : goal.loop-limit-preserved
loop-limit-preserved c =
    let o = c.args.options.now in
    let text = c.args.bytes.now in
    let whole = c.loop-limit.whole in
    let next = c.with_item-whole.result in
    let rest : List ℕ = take (length text - whole.end) (drop whole.end text) in
    let all : rest ≡ drop whole.end text = take_all (length text - whole.end) (drop whole.end text) (omega (arith, length-drop whole.end text)) in
    let starts : c.is_comment_line-is_comment.result ≡ is_comment (comment_of o) rest = search rules in
    let below : is_below c.args.limit whole.rows ≡ true = search rules in
    let len : c.in-Some.len ≡ length (text_of (item (marks_of o) (comment_of o) rest)) + 1 = c.in-Some.ensures.some in
    let fits : c.in-Some.len ≤ length rest = c.in-Some.ensures.within in
    let rows_are = c.with_item-whole.ensures.rows in
    record {
      front = front-more o text whole next c.in-Some.len c.requires c.loop-limit.invariant.front (len ∙ ap (λ l. length (text_of (item (marks_of o) (comment_of o) l)) + 1) all) (omega (arith, fits, ap length all))
          c.with_item-whole.ensures.end (rows_are ∙ ap (λ t. whole.rows + count_of t) (starts ∙ ap (is_comment (comment_of o)) all));
      few = few-more c.args.limit whole.rows next.rows below (omega (arith, rows_are, one-most c.is_comment_line-is_comment.result));
    }
