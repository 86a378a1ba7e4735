use Rattle.std.proofs.Common.{subst}
use Rattle.pl_frame.specs.Dialect.{marks, IsDialect}
use Rattle.pl_scan.specs.Comment.{prefix_of}
use Rattle.pl_csv.proofs.CountingLaws.{by_blocks, no_prefix}
use Rattle.pl_csv.proofs.counting.count_source.Goals as goal

pub returns-then-is_none-clause-read : goal.returns-then-is_none-clause-read
returns-then-is_none-clause-read g c =
    let m = marks c.args.separator c.args.quote_char c.args.eol_char in
    let none = no_prefix c.args.comment_prefix c.is_none.result c.is_none.ensures c.if-is_none.true in
    let plain = subst (IsDialect m) none (c.dialect_ok.ensures.0 c.if-not-dialect_ok.false) in
    by_blocks c.count_by_blocks.result c.args.has_header m (prefix_of c.args.comment_prefix) _ _ none plain c.count_by_blocks.ensures.read
