use Rattle.std.proofs.Common.{◌≡◌, ◌+◌, ◌≤◌, ◌-◌, length, get_or, nat_eq, false, arith}
use Rattle.std.proofs.lemmas.Bool.Decides.{nat_tests}
use Rattle.pl_cells.proofs.SeenLaws.{quoted_place}
use Rattle.pl_cells.proofs.TextSeenLaws.{quoted_text_place}
use Rattle.pl_cells.proofs.quoted_at.between_quotes_at.Goals as goal

pub returns-then-upto-last-clause-value : goal.returns-then-upto-last-clause-value
returns-then-upto-last-clause-value c =
    let room : c.args.start + 2 ≤ length c.args.upto.now = omega (arith, c.if-upto-lt2.false, c.if-start-upto.false) in
    let other : nat_eq 13 c.args.quote ≡ false = grind (arith, nat_tests, c.if-quote-eq13.false) in
    let first : get_or c.args.upto.now c.args.start 0 ≡ c.args.quote = grind (arith, nat_tests, c.if-upto-start.true) in
    let last : get_or c.args.upto.now (length c.args.upto.now - 1) 0 ≡ c.args.quote = grind (arith, nat_tests, c.if-upto-last.true) in
    quoted_place c.args.quote c.args.upto.now c.args.start room other first last

pub returns-then-upto-last-clause-text : goal.returns-then-upto-last-clause-text
returns-then-upto-last-clause-text c = λ bare.
    let room : c.args.start + 2 ≤ length c.args.upto.now = omega (arith, c.if-upto-lt2.false, c.if-start-upto.false) in
    let other : nat_eq 13 c.args.quote ≡ false = grind (arith, nat_tests, c.if-quote-eq13.false) in
    let first : get_or c.args.upto.now c.args.start 0 ≡ c.args.quote = grind (arith, nat_tests, c.if-upto-start.true) in
    let last : get_or c.args.upto.now (length c.args.upto.now - 1) 0 ≡ c.args.quote = grind (arith, nat_tests, c.if-upto-last.true) in
    quoted_text_place c.args.quote c.args.upto.now c.args.start room other first last bare
