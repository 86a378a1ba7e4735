use Rattle.std.proofs.Common.{◌+◌, take, sym, ◌∙◌, ap, arith}
use Rattle.std.proofs.lemmas.List.{length-take-le}
use Rattle.pl_write.proofs.PutLaws.{put-front}
use Rattle.pl_row_numbers.proofs.FrontLaws.{split-front, put-digit}
use Rattle.pl_row_numbers.proofs.fronts.put_front.Goals as goal

pub overflow_sub-to : goal.overflow_sub-to
overflow_sub-to c =
    let is = split-front c.args.front.now c.requires.front in
    omega (arith, is.size, is.marks)

pub returns-clause-text : goal.returns-clause-text
returns-clause-text c =
    let to = c.args.to.now in
    let at = c.args.at in
    let front = c.args.front.now in
    let is = c.requires.front in
    let new = c.put_bytes.new.to in
    let long = length-take-le at to (omega arith) in
    let put = ap (λ n. take n new) (sym (c.put_bytes.ensures.end ∙ ap (λ n. at + n) is.size)) ∙ c.put_bytes.ensures.text in
    put-digit front (take at to) new at _ is long (put-front (take at to) front.text new at 32 front.len long (omega (arith, is.within)) put) (omega arith)
