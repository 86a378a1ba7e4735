use Rattle.std.proofs.Common.{◌≡◌, ◌+◌, ◌∙◌, ◌&&◌, sym, ap, take, length, get_or, true, false, ◌∷◌, [], arith, add-zero}
use Rattle.std.proofs.lemmas.Bool.Decides.{nat_tests}
use Rattle.pl_scan.specs.Fields.{is_quote}
use Rattle.pl_scan.specs.LineEnds.{begins_end}
use Rattle.pl_scan.proofs.LineLaws.{line-len, len_from-stop, len_from-end}
use Rattle.pl_scan.proofs.lines.even_len.Goals as goal

pub returns-then-x-eol_char-clause-line : goal.returns-then-x-eol_char-clause-line
returns-then-x-eol_char-clause-line c =
    let q = c.args.quote_char in
    let e = c.args.eol_char in
    let b = c.args.slice.now in
    let i = c.loop-i.i in
    let plain : is_quote q (get_or b i 0) ≡ false = sym c.is_the_quote.ensures ∙ c.if-is_the_quote.false in
    let stop : (c.loop-i.even && begins_end q e (get_or b i 0 ∷ [])) ≡ true = grind (arith, nat_tests, plain) in
    let len = c.loop-i.invariant ∙ ap (λ n. i + n) (len_from-stop q e c.loop-i.even b i (omega arith) stop) ∙ add-zero i in
    sym (line-len q e b ∙ ap (λ n. take n b) len)

pub returns-clause-line : goal.returns-clause-line
returns-clause-line c =
    let q = c.args.quote_char in
    let e = c.args.eol_char in
    let b = c.args.slice.now in
    let i = c.loop-i.i in
    let all : i + 0 ≡ length b = omega arith in
    let len = c.loop-i.invariant ∙ ap (λ n. i + n) (len_from-end q e c.loop-i.even b i (omega arith)) ∙ all in
    sym (line-len q e b ∙ ap (λ n. take n b) len)
