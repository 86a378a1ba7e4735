use Rattle.std.proofs.Common.{◌≡◌, ℕ, ◌<◌, length, ◌∙◌, rules, arith, Vec, Global}
use Rattle.pl_csv.specs.Making.{summary_line, IsSummary}
use Rattle.pl_csv.proofs.MakingLaws.{if_ok, no_summary, summary_told}
use Rattle.pl_csv.proofs.making.summary.Goals as goal

pub returns-in-Ok-clause-told : goal.returns-in-Ok-clause-told
returns-in-Ok-clause-told g c =
    let some : 0 < c.args.workers = omega arith in
    let more : 0 < c.args.piece = omega arith in
    let bytes : c.len.result ≡ length c.in_ok-input.input.items = search rules in
    if_ok (λ (line : Vec ℕ Global). line.items ≡ summary_line c.in-Ok.height c.len.result (length c.received.result.now))
    (λ (line : Vec ℕ Global). IsSummary c.args.rows c.args.workers c.args.piece line.items) c.summary_line.result
    (λ line is. summary_told c.args.rows c.args.workers c.args.piece c.in-Ok.height c.len.result c.in_ok-input.input.items c.deref.result.now c.new-text.result.received c.convert_made.new.text.received c.received.result.now line.items
    some more c.in_ok-input.ensures.made c.deref.ensures.value (λ i. (c.new-text.ensures i).received) bytes c.received.ensures c.in-Ok.ensures.rows is)
    c.summary_line.ensures.line

pub returns-clause-refused : goal.returns-clause-refused
returns-clause-refused g c =
    let some : 0 < c.args.workers = omega arith in
    let more : 0 < c.args.piece = omega arith in
    no_summary c.args.rows c.args.workers c.args.piece c.new-text.result.wants c.convert_made.new.text.wants c.deref.result.now c.new-text.result.received c.convert_made.new.text.received c.in-Err.fault
    c.made_input_is_read.ensures c.requires some more (c.deref.ensures.value ∙ c.in_ok-input.ensures.made) c.in-Err.ensures.refused
