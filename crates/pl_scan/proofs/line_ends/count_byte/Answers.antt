use Rattle.std.proofs.Common.{◌≡◌, ◌∙◌, ◌&&◌, ◌==◌, Bool, true, false, not, get_or, refl, sym, ap, arith}
use Rattle.std.proofs.lemmas.Bool.Decides.{nat_tests}
use Rattle.pl_scan.proofs.EvenCountLaws.{counted-few, HasCounted-quote, HasCounted-end, HasCounted-other}
use Rattle.pl_scan.proofs.line_ends.count_byte.Goals as goal

pub overflow_add-result : goal.overflow_add-result
overflow_add-result c =
    let a = c.args in
    omega (arith, counted-few a.quote_char a.eol_char a.bytes.now a.at a.so_far c.requires.so_far)

pub returns-then-is_the_quote : goal.returns-then-is_the_quote
returns-then-is_the_quote c =
    let a = c.args in
    HasCounted-quote a.quote_char a.eol_char a.bytes.now a.at a.so_far c.requires.so_far c.requires.at (sym c.is_the_quote.ensures ∙ c.if-is_the_quote.true)

pub returns-then-so_far : goal.returns-then-so_far
returns-then-so_far c =
    let a = c.args in
    HasCounted-other a.quote_char a.eol_char a.bytes.now a.at a.so_far c.requires.so_far c.requires.at (sym c.is_the_quote.ensures ∙ c.if-is_the_quote.false)
    (ap (λ t. get_or a.bytes.now a.at 0 == a.eol_char && true && not t) c.if-so_far.true ∙ never (get_or a.bytes.now a.at 0 == a.eol_char))
  where
    never : (t : Bool) → (t && true && false) ≡ false
    never true = refl
    never false = refl

pub returns-then-x-eol_char : goal.returns-then-x-eol_char
returns-then-x-eol_char c =
    let a = c.args in
    HasCounted-end a.quote_char a.eol_char a.bytes.now a.at a.so_far c.requires.so_far c.requires.at (sym c.is_the_quote.ensures ∙ c.if-is_the_quote.false)
    (let is : (get_or a.bytes.now a.at 0 == a.eol_char) ≡ true = grind (arith, nat_tests) in is) c.if-so_far.false

pub returns-else-x-eol_char : goal.returns-else-x-eol_char
returns-else-x-eol_char c =
    let a = c.args in
    let other : (get_or a.bytes.now a.at 0 == a.eol_char) ≡ false = grind (arith, nat_tests) in
    HasCounted-other a.quote_char a.eol_char a.bytes.now a.at a.so_far c.requires.so_far c.requires.at (sym c.is_the_quote.ensures ∙ c.if-is_the_quote.false)
    (ap (λ t. t && true && not a.so_far.odd) other)
