use Rattle.std.proofs.Common.{rules, ◌∙◌, ap, sym, length}
use Rattle.std.proofs.lemmas.List.{nil_from_length}
use Rattle.pl_frame.specs.Dialect.{marks}
use Rattle.pl_scan.specs.Items.{items}
use Rattle.pl_scan.specs.Comment.{prefix_of}
use Rattle.pl_scan.proofs.ItemLaws.{items-nil, items-at}
use Rattle.pl_scan.proofs.items.ItemsIterator.next.Goals as goal

pub returns-then-is_empty-clause-steps : goal.returns-then-is_empty-clause-steps
returns-then-is_empty-clause-steps c =
    let m = marks c.self.inside.separator c.self.inside.quote_char c.self.inside.eol_char in
    let ended = nil_from_length c.self.inside.rest.now (search rules) in
    let none = sym c.self.view_is ∙ ap (items m (prefix_of c.self.inside.comment_prefix)) ended ∙ items-nil m (prefix_of c.self.inside.comment_prefix) in (none, none)

pub returns-clause-steps : goal.returns-clause-steps
returns-clause-steps c =
    let m = marks c.self.inside.separator c.self.inside.quote_char c.self.inside.eol_char in
    sym c.self.view_is ∙ items-at m (prefix_of c.self.inside.comment_prefix) c.self.inside.rest.now _ c.first_item-len.result.1 _ (search rules) c.first_item-len.ensures.item c.first_item-len.ensures.len c.behind_line_end-self-inside.ensures

pub returns-clause-goes : goal.returns-clause-goes
returns-clause-goes c = let step = ap length (returns-clause-steps c) in search rules
