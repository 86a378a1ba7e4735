use Rattle.std.proofs.Common.{◌++◌, take, length, sym, ap, ◌∙◌, arith}
use Rattle.pl_write.proofs.DoubledLaws.{doubled-before}
use Rattle.pl_write.proofs.PutLaws.{put-front}
use Rattle.std.proofs.lemmas.List.{length-take-le}
use Rattle.pl_write.proofs.put_parts.put_first_doubled.Goals as goal

pub returns-clause-text : goal.returns-clause-text
returns-clause-text c =
    let to = c.args.to.now in
    let at = c.args.at in
    let bytes = c.args.bytes.now in
    let n = c.args.count in
    let put = put-front (take at to) bytes c.put_bytes.new.to at (length bytes) n (length-take-le at to (omega arith)) (omega arith) (rw c.put_bytes.ensures.end at c.put_bytes.ensures.text) in
    put ∙ ap (λ l. take at to ++ l) (sym (doubled-before c.args.quote bytes n (omega (arith, c.count_before_quote.ensures, c.if-count_before_quote-count.false))))
