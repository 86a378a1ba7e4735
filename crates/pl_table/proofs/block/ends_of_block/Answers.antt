use Rattle.std.proofs.Common.{◌≡◌, ◌==◌, length, get_or, take, arith, ◌∙◌, ap}
use Rattle.std.proofs.lemmas.List.{take_all}
use Rattle.pl_scan.specs.Dialect.{marks_of}
use Rattle.pl_scan.specs.Fields.{is_quote}
use Rattle.pl_table.specs.Ends.{is_stop}
use Rattle.pl_table.proofs.FlagLaws.{lines-are}
use Rattle.pl_table.proofs.block.ends_of_block.Goals as goal

pub find_words-requires-clause-stops : goal.find_words-requires-clause-stops
find_words-requires-clause-stops c i h =
    let m = marks_of c.args.dialect.now in
    let whole : take 64 c.args.bytes.now ≡ c.args.bytes.now = take_all 64 c.args.bytes.now (omega arith) in
    c.stop_bits-stops.ensures i h ∙ ap (λ l. is_stop m (get_or l i 0)) whole

pub find_words-requires-clause-quotes : goal.find_words-requires-clause-quotes
find_words-requires-clause-quotes c i h =
    let whole : take 64 c.args.bytes.now ≡ c.args.bytes.now = take_all 64 c.args.bytes.now (omega arith) in
    c.quote_bits-quotes.ensures i h ∙ ap (λ l. is_quote c.args.dialect.now.quote_char (get_or l i 0)) whole

pub returns-in-Some-clause-lines : goal.returns-in-Some-clause-lines
returns-in-Some-clause-lines c =
    let m = marks_of c.args.dialect.now in
    let b = c.args.bytes.now in
    let long : length b ≡ 64 = omega arith in
    let whole : take 64 b ≡ b = take_all 64 b (omega arith) in
    lines-are m b long c.equal_to-lines.result (omega arith) (λ i h. c.equal_to-lines.ensures i h ∙ ap (λ l. get_or l i 0 == c.args.dialect.now.eol_char) whole)
