use Rattle.std.proofs.Common.{rules, arith, ◌≡◌, ◌∙◌, sym, ap, length}
use Rattle.std.proofs.lemmas.List.{length-take-le}
use Rattle.pl_options.specs.Text.{marks_of, comment_of}
use Rattle.pl_scan.specs.Items.{ItemText, text_of}
use Rattle.pl_scan.proofs.ItemLaws.{comment-len, item-comment}
use Rattle.pl_stream.proofs.head.item_len.Goals as goal

pub returns-in-Some-clause-len : goal.returns-in-Some-clause-len
returns-in-Some-clause-len c =
    let o = c.args.options.now in
    let b = c.args.bytes.now in
    let n = c.in-Some.at in
    sym (length-take-le n b (search rules))
    ∙ ap (λ (f : ItemText). length (text_of f)) (item-comment (marks_of o) (comment_of o) b n (search rules) (comment-len o.eol_char b n (search rules) (search rules) (search rules)))

pub returns-in-None-clause-len : goal.returns-in-None-clause-len
returns-in-None-clause-len c =
    let o = c.args.options.now in
    let b = c.args.bytes.now in
    let n = length b in
    sym (length-take-le n b (omega arith))
    ∙ ap (λ (f : ItemText). length (text_of f)) (item-comment (marks_of o) (comment_of o) b n (search rules) (comment-len o.eol_char b n (omega arith) (search rules) (search rules)))
