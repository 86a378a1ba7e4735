use Rattle.std.proofs.Common.{rules, arith, ◌≡◌, ◌∙◌, length, false, get_or}
use Rattle.std.specs.Prelude.{Some}
use Rattle.std.proofs.lemmas.Bool.Decides.{nat_tests}
use Rattle.pl_frame.specs.Dialect.{marks}
use Rattle.pl_scan.specs.Fields.{is_plain}
use Rattle.pl_scan.proofs.Walk.{walk-HasRead, HasRead-more}
use Rattle.pl_scan.proofs.FieldLaws.{cut_quoted-is}
use Rattle.pl_scan.proofs.fields.quoted_len.Goals as goal

pub returns-then-x-eol_char-clause-cut : goal.returns-then-x-eol_char-clause-cut
returns-then-x-eol_char-clause-cut c =
    let m = marks c.args.separator (Some c.args.quote) c.args.eol_char in
    let stop : is_plain m (get_or c.args.slice.now c.loop-i.i 0) ≡ false = grind (arith, nat_tests, c.if-x-eol_char.either) in
    cut_quoted-is m c.args.slice.now ∙ walk-HasRead m c.args.slice.now c.loop-i.i c.loop-i.even c.loop-i.invariant (λ _. (c.if-even.true, stop))

pub loop-i-preserved : goal.loop-i-preserved
loop-i-preserved c =
    let m = marks c.args.separator (Some c.args.quote) c.args.eol_char in
    HasRead-more m c.args.slice.now c.loop-i.i c.loop-i.even c.if-x-quote.even c.loop-i.invariant (search rules) (search rules) (search rules)

pub returns-clause-cut : goal.returns-clause-cut
returns-clause-cut c =
    let m = marks c.args.separator (Some c.args.quote) c.args.eol_char in
    cut_quoted-is m c.args.slice.now ∙ walk-HasRead m c.args.slice.now (length c.args.slice.now) c.loop-i.even (search rules) (λ h. absurd (omega arith))
