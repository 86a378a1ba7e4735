-- Only the first bytes of a copy of fixed size count.
use Rattle.std.proofs.Common.{◌++◌, ◌-◌, take, ap, ◌∙◌, arith}
use Rattle.pl_verbatim.proofs.FrontKeptLaws.{put-first, slice-first}
use Rattle.pl_verbatim.proofs.changes.put_part.Goals as goal

pub returns-then-text-from-ge16-clause-text : goal.returns-then-text-from-ge16-clause-text
returns-then-text-from-ge16-clause-text c =
    put-first c.args.place (c.args.to - c.args.from) c.put_bytes.result c.args.out.now c.put_bytes.new.to _ (omega (arith, c.requires.room)) (omega (arith, c.put_bytes.ensures.end, c.if-count-le16.true)) c.put_bytes.ensures.text
    ∙ ap (λ l. take c.args.place c.args.out.now ++ l) (slice-first c.args.text.now c.args.from c.args.to 16 (omega (arith, c.if-count-le16.true)))

pub returns-then-text-from-ge32-clause-text : goal.returns-then-text-from-ge32-clause-text
returns-then-text-from-ge32-clause-text c =
    put-first c.args.place (c.args.to - c.args.from) c.put_bytes-then-text-from-ge32.result c.args.out.now c.put_bytes-then-text-from-ge32.new.to _ (omega (arith, c.requires.room)) (omega (arith, c.put_bytes-then-text-from-ge32.ensures.end, c.if-count-le32.true))
    c.put_bytes-then-text-from-ge32.ensures.text
    ∙ ap (λ l. take c.args.place c.args.out.now ++ l) (slice-first c.args.text.now c.args.from c.args.to 32 (omega (arith, c.if-count-le32.true)))
