use Rattle.std.proofs.Common.{◌≡◌, ℕ, ◌+◌, ◌-◌, ◌<◌, ◌==◌, List, take, drop, get_or, refl, ap, ◌∙◌, arith}
use Rattle.std.proofs.lemmas.List.{get_or-take, get_or-drop}
use lib.Count.{ones-le}
use Rattle.pl_scan.specs.Fields.{is_quote}
use Rattle.pl_scan.proofs.EvenCountLaws.{counted-few, HasCounted-block}
use Rattle.pl_scan.proofs.line_ends.count_block.Goals as goal

-- a byte of the block
byte_at : (b : List ℕ) (n i : ℕ) → i < 64 → get_or (take 64 (take (n + 64 - n) (drop n b))) i 0 ≡ get_or b (n + i) 0
byte_at b n i h = get_or-take 64 (take (n + 64 - n) (drop n b)) i 0 h ∙ get_or-take (n + 64 - n) (drop n b) i 0 (omega arith) ∙ get_or-drop n b i 0

pub overflow_add-result : goal.overflow_add-result
overflow_add-result c =
    let a = c.args in
    omega (arith, counted-few a.quote_char a.eol_char a.bytes.now a.at a.so_far c.requires.so_far, ones-le 64 c.even_bits-even.result.0 (omega arith))

pub returns : goal.returns
returns c =
    let a = c.args in
    HasCounted-block a.quote_char a.eol_char a.bytes.now a.at 64 c.requires.at a.so_far c.requires.so_far c.equal_to.result c.quote_bits-quotes.result
    (λ i h. c.equal_to.ensures i h ∙ ap (λ x. x == a.eol_char) (byte_at a.bytes.now a.at i h))
    (λ i h. c.quote_bits-quotes.ensures i h ∙ ap (is_quote a.quote_char) (byte_at a.bytes.now a.at i h))
    c.even_bits-even.result.0 (omega arith) c.even_bits-even.ensures.bits _ refl c.last_place.ensures c.even_bits-even.ensures.odd
