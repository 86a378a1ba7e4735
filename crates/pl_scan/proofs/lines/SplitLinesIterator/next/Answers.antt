use Rattle.std.proofs.Common.{rules, ◌≡◌, ◌∙◌, ap, sym, length, take}
use Rattle.std.proofs.lemmas.List.{nil_from_length, length-take-le}
use Rattle.pl_scan.specs.Comment.{prefix_of}
use Rattle.pl_scan.specs.Lines.{lines}
use Rattle.pl_scan.proofs.LineLaws.{lines-nil, lines-at}
use Rattle.pl_scan.proofs.lines.SplitLinesIterator.next.Goals as goal

pub returns-then-is_empty-clause-steps : goal.returns-then-is_empty-clause-steps
returns-then-is_empty-clause-steps c =
    let inside = c.self.inside in
    let ended = nil_from_length inside.rest.now (search rules) in
    let none = sym c.self.view_is ∙ ap (lines inside.quote_char inside.eol_char (prefix_of inside.comment_prefix)) ended ∙ lines-nil inside.quote_char inside.eol_char (prefix_of inside.comment_prefix) in
    (none, none)

pub returns-clause-steps : goal.returns-clause-steps
returns-clause-steps c =
    let inside = c.self.inside in
    let n = c.line_len-len.result in
    let len : n ≡ length (take n inside.rest.now) = sym (length-take-le n inside.rest.now c.line_len-len.ensures.fits) in
    sym c.self.view_is
    ∙ lines-at inside.quote_char inside.eol_char (prefix_of inside.comment_prefix) inside.rest.now (take n inside.rest.now) n _ (search rules) c.line_len-len.ensures.line len c.behind_line_end-self-inside.ensures

pub returns-clause-goes : goal.returns-clause-goes
returns-clause-goes c = let step = ap length (returns-clause-steps c) in search rules
