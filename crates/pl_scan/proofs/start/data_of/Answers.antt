use Rattle.std.proofs.Common.{◌≡◌, ◌∙◌, sym, ap}
use Rattle.std.specs.Prelude.{None, Some}
use Rattle.std.specs.Option.{option_copied}
use Rattle.pl_frame.specs.Dialect.{marks}
use Rattle.pl_scan.specs.Comment.{prefix_of}
use Rattle.pl_scan.specs.Start.{cut_head, pass_items, pass_header, skips}
use Rattle.pl_scan.proofs.StartLaws.{data_left-none, data_left-some}
use Rattle.pl_scan.proofs.start.data_of.Goals as goal

pub returns-in_err-rest : goal.returns-in_err-rest
returns-in_err-rest c =
    let m = marks c.args.separator c.args.quote_char c.args.eol_char in
    let comment = prefix_of c.args.comment_prefix in
    let o = skips c.args.lines c.args.rows c.args.has_header c.args.after_header in
    let head : pass_items m comment o.rows c.behind_head-text.result.now ≡ None = sym c.behind_items.ensures ∙ ap option_copied c.in_err-rest.was in
    let passed : pass_items m comment o.rows (cut_head o.lines c.args.keep_ends m.line_end c.args.input.now) ≡ None =
    sym (ap (pass_items m comment o.rows) c.behind_head-text.ensures) ∙ head in
    ap option_copied c.from_residual.ensures ∙ sym (data_left-none o c.args.keep_ends m comment c.args.input.now passed)

pub returns : goal.returns
returns c =
    let m = marks c.args.separator c.args.quote_char c.args.eol_char in
    let comment = prefix_of c.args.comment_prefix in
    let o = skips c.args.lines c.args.rows c.args.has_header c.args.after_header in
    let head : pass_items m comment o.rows c.behind_head-text.result.now ≡ Some c.in_ok-rest.rest.now = sym c.behind_items.ensures ∙ ap option_copied c.in_ok-rest.was in
    let passed : pass_items m comment o.rows (cut_head o.lines c.args.keep_ends m.line_end c.args.input.now) ≡ Some c.in_ok-rest.rest.now =
    sym (ap (pass_items m comment o.rows) c.behind_head-text.ensures) ∙ head in
    c.behind_items-2.ensures ∙ ap (pass_items m comment o.after_header) (c.behind_header-data.ensures ∙ ap (pass_header o.has_header m comment) c.behind_comments-body.ensures)
    ∙ sym (data_left-some o c.args.keep_ends m comment c.args.input.now c.in_ok-rest.rest.now passed)
