use Rattle.std.proofs.Common.{◌∙◌, arith}
use Rattle.pl_row_numbers.proofs.CutLaws.{words-of, odd-words, ends-words}
use Rattle.pl_row_numbers.proofs.line_ends.ends_in_block.Goals as goal

pub returns : goal.returns
returns c =
    let a = c.args in
    let ends = c.even_ends.result.0 in
    let quotes = c.equal_to-2.result in
    let words = words-of a.odd a.text.now c.equal_to.result quotes ends c.equal_to.ensures c.equal_to-2.ensures c.even_ends.ensures.ends in
    record {
      ends = λ i h. ends-words a.odd a.text.now quotes ends i words c.requires.long h;
      odd = c.even_ends.ensures.odd ∙ odd-words a.odd a.text.now quotes ends 64 words c.requires.long (omega arith);
    }
