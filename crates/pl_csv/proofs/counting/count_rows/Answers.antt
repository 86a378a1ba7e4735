use Rattle.std.proofs.Common.{inl}
use Rattle.pl_frame.specs.Dialect.{marks}
use Rattle.pl_scan.specs.Comment.{prefix_of}
use Rattle.pl_csv.proofs.CountingLaws.{rows-of, io-of, dialect-of, compressed-of, known-of, no_dialect-of, told-of}
use Rattle.pl_csv.proofs.counting.count_rows.Goals as goal

pub returns-in-Ok-clause-rows : goal.returns-in-Ok-clause-rows
returns-in-Ok-clause-rows g c =
    rows-of c.in-Ok.answer c.args.has_header (marks c.args.separator c.args.quote_char c.args.eol_char) (prefix_of c.args.comment_prefix) (g.O.Opener.holds c.args.opener.now c.args.path.now) c.in-Ok.ensures.read

pub returns-in-Ok-clause-io : goal.returns-in-Ok-clause-io
returns-in-Ok-clause-io g c = λ h.
    absurd (io-of c.in-Ok.answer c.args.has_header (marks c.args.separator c.args.quote_char c.args.eol_char) (prefix_of c.args.comment_prefix) (g.O.Opener.holds c.args.opener.now c.args.path.now) c.in-Ok.ensures.read h)

pub returns-in-Ok-clause-dialect : goal.returns-in-Ok-clause-dialect
returns-in-Ok-clause-dialect g c =
    dialect-of c.in-Ok.answer c.args.has_header (marks c.args.separator c.args.quote_char c.args.eol_char) (prefix_of c.args.comment_prefix) (g.O.Opener.holds c.args.opener.now c.args.path.now) c.in-Ok.ensures.read

pub returns-in-Ok-clause-compressed : goal.returns-in-Ok-clause-compressed
returns-in-Ok-clause-compressed g c =
    compressed-of c.in-Ok.answer c.args.has_header (marks c.args.separator c.args.quote_char c.args.eol_char) (prefix_of c.args.comment_prefix) (g.O.Opener.holds c.args.opener.now c.args.path.now) c.in-Ok.ensures.read

pub returns-in-Ok-clause-known : goal.returns-in-Ok-clause-known
returns-in-Ok-clause-known g c =
    known-of c.in-Ok.answer c.args.has_header (marks c.args.separator c.args.quote_char c.args.eol_char) (prefix_of c.args.comment_prefix) (g.O.Opener.holds c.args.opener.now c.args.path.now) c.in-Ok.ensures.read

pub returns-in-Ok-clause-no_dialect : goal.returns-in-Ok-clause-no_dialect
returns-in-Ok-clause-no_dialect g c = λ none.
    inl (no_dialect-of c.in-Ok.answer c.args.has_header (marks c.args.separator c.args.quote_char c.args.eol_char) (prefix_of c.args.comment_prefix) (g.O.Opener.holds c.args.opener.now c.args.path.now) c.in-Ok.ensures.read none)

pub returns-in-Ok-clause-told : goal.returns-in-Ok-clause-told
returns-in-Ok-clause-told g c = λ bytes told d.
    inl (told-of c.in-Ok.answer c.args.has_header (marks c.args.separator c.args.quote_char c.args.eol_char) (prefix_of c.args.comment_prefix) (g.O.Opener.holds c.args.opener.now c.args.path.now) c.in-Ok.ensures.read bytes told d)
