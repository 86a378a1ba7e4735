use Rattle.std.proofs.Common.{◌≡◌, ◌∙◌, ◌==◌, ap, length}
use Rattle.std.specs.Prelude.{None, count_by}
use Rattle.pl_scan.specs.LineEnds.{LineMarks, even_ends}
use Rattle.pl_scan.proofs.LineEndLaws.{even_ends-unquoted}
use Rattle.pl_scan.proofs.line_ends.CountLines.count.Goals as goal

pub returns-clause-unquoted : goal.returns-clause-unquoted
returns-clause-unquoted c = λ none.
    let b = c.args.bytes.now in
    let e = c.self.inside.eol_char in
    let quote : c.self.inside.quote_char ≡ None = ap (λ (m : LineMarks). m.quote) c.self.view_is ∙ none in
    let line_end : e ≡ c.args.self.now.line_end = ap (λ (m : LineMarks). m.line_end) c.self.view_is in
    c.count_even_ends.ensures.number ∙ ap (λ q. length (even_ends q e b)) quote ∙ even_ends-unquoted e b ∙ ap (λ n. count_by (λ x. x == n) b) line_end
