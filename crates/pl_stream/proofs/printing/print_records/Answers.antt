use Rattle.std.proofs.Common.{◌≡◌, ◌+◌, ◌-◌, ◌<◌, ◌≤◌, ◌^◌, ℕ, List, length, take, drop, arith, refl, subst, sym, length-drop, length-take}
use Rattle.std.specs.Prelude.{IfSome}
use Rattle.std.proofs.lemmas.List.{take_all}
use Rattle.pl_rows.specs.Pieces.{left_limit}
use Rattle.pl_seek.proofs.PartLaws.{dialect-given}
use Rattle.pl_stream.specs.Printing.{AreRowsPrinted, IsPrintFault}
use Rattle.pl_stream.specs.Whole.{IsWholeEnd}
use Rattle.pl_stream.proofs.PrintLaws.{printed-more, end-more, few-more, print-fault-more}
use Rattle.pl_stream.proofs.WholeItemLaws.{front-few}
use Rattle.pl_stream.proofs.printing.print_records.Goals as goal

-- what is left, as the code takes it
rest-is : (k : ℕ) (b : List ℕ) → take (length b - k) (drop k b) ≡ drop k b
rest-is k b = take_all (length b - k) (drop k b) (omega (arith, length-drop k b))

pub overflow_add-behind : goal.overflow_add-behind
overflow_add-behind c =
    let o = c.args.read.now in
    let printed = c.in-Ok.ensures.printed c.args.before c.requires.numbered in
    omega (arith, front-few o.parse_options c.args.records.now c.in-Ok.front (dialect-given o c.requires.can.sound) printed.front, printed.front.within, c.requires.fits)

pub print_rest-requires-clause-fits : goal.print_rest-requires-clause-fits
print_rest-requires-clause-fits c =
    let o = c.args.read.now in
    let printed = c.in-Ok.ensures.printed c.args.before c.requires.numbered in
    let few = front-few o.parse_options c.args.records.now c.in-Ok.front (dialect-given o c.requires.can.sound) printed.front in
    omega (arith, few, printed.front.within, c.requires.fits, length-take (length c.args.records.now - c.in-Ok.front.end) (drop c.in-Ok.front.end c.args.records.now), length-drop c.in-Ok.front.end c.args.records.now)

pub overflow_add-result-in-Ok-print_rest : goal.overflow_add-result-in-Ok-print_rest
overflow_add-result-in-Ok-print_rest c =
    let o = c.args.read.now in
    let front = c.in-Ok.front in
    let rest = take (length c.args.records.now - front.end) (drop front.end c.args.records.now) in
    let apart = dialect-given o c.requires.can.sound in
    let printed = c.in-Ok.ensures.printed c.args.before c.requires.numbered in
    let few = front-few o.parse_options c.args.records.now front apart printed.front in
    let next = c.in-Ok-print_rest.ensures.printed.front in
    let fewer = front-few o.parse_options rest c.in-Ok-print_rest.whole apart next in
    omega (arith, few, printed.front.within, fewer, next.within, c.requires.fits, length-take (length c.args.records.now - front.end) (drop front.end c.args.records.now), length-drop front.end c.args.records.now)

pub returns-in-Ok-print_rest-clause-printed : goal.returns-in-Ok-print_rest-clause-printed
returns-in-Ok-print_rest-clause-printed c =
    let o = c.args.read.now in
    let front = c.in-Ok.front in
    let printed = c.in-Ok.ensures.printed c.args.before c.requires.numbered in
    printed-more o c.args.write.now c.args.before c.args.records.now c.args.text.now.items c.print_front.new.text.items c.print_rest.new.text.items front c.in-Ok-print_rest.whole
    (record { end = front.end + c.in-Ok-print_rest.whole.end; rows = front.rows + c.in-Ok-print_rest.whole.rows }) (dialect-given o c.requires.can.sound) printed
    (subst (λ l. AreRowsPrinted o c.args.write.now (c.args.before + front.rows) l c.print_front.new.text.items c.print_rest.new.text.items c.in-Ok-print_rest.whole) (rest-is front.end c.args.records.now) c.in-Ok-print_rest.ensures.printed) refl refl

pub returns-in-Ok-print_rest-clause-end : goal.returns-in-Ok-print_rest-clause-end
returns-in-Ok-print_rest-clause-end c =
    let o = c.args.read.now in
    let front = c.in-Ok.front in
    end-more o c.args.before c.args.records.now front c.in-Ok-print_rest.whole (record { end = front.end + c.in-Ok-print_rest.whole.end; rows = front.rows + c.in-Ok-print_rest.whole.rows }) c.in-Ok.ensures.unlimited
    (subst (λ l. IsWholeEnd o.parse_options l (left_limit o.n_rows c.args.before) c.in-Ok-print_rest.whole) (rest-is front.end c.args.records.now) (subst (λ n. IsWholeEnd o.parse_options (take (length c.args.records.now - front.end) (drop front.end c.args.records.now)) n c.in-Ok-print_rest.whole) c.left_limit-limit.ensures c.in-Ok-print_rest.ensures.end)) refl refl

pub returns-in-Ok-print_rest-clause-few : goal.returns-in-Ok-print_rest-clause-few
returns-in-Ok-print_rest-clause-few c =
    let front = c.in-Ok.front in
    few-more c.args.read.now c.args.before front c.in-Ok-print_rest.whole (record { end = front.end + c.in-Ok-print_rest.whole.end; rows = front.rows + c.in-Ok-print_rest.whole.rows }) c.in-Ok.ensures.unlimited
    (subst (λ n. IfSome n (λ most. c.in-Ok-print_rest.whole.rows ≤ most)) c.left_limit-limit.ensures c.in-Ok-print_rest.ensures.few) refl

pub returns-in-Err-clause-refused : goal.returns-in-Err-clause-refused
returns-in-Err-clause-refused c =
    let o = c.args.read.now in
    let front = c.in-Ok.front in
    print-fault-more o c.args.write.now c.args.before c.args.records.now c.args.text.now.items c.print_front.new.text.items front (dialect-given o c.requires.can.sound)
    (c.in-Ok.ensures.printed c.args.before c.requires.numbered) c.in-Ok.ensures.unlimited c.in-Err.fault
    (subst (λ l. IsPrintFault o (c.args.before + front.rows) (left_limit o.n_rows c.args.before) l c.in-Err.fault) (rest-is front.end c.args.records.now)
    (subst (λ n. IsPrintFault o (c.args.before + front.rows) n (take (length c.args.records.now - front.end) (drop front.end c.args.records.now)) c.in-Err.fault) c.left_limit-limit.ensures c.in-Err.ensures.refused))
