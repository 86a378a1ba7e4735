use Rattle.std.proofs.Common.{List, ℕ, Bor, map}
use Rattle.pl_csv_c.proofs.CallLaws.{weaker, part-into, part-unread}
use Rattle.pl_csv_c.specs.Handing.{MayRefuse}
use Rattle.pl_csv_c.specs.Part.{IsPartUnread}
use Rattle.pl_csv_c.proofs.part.pl_csv_read_part.Goals as goal

pub returns-clause-read : goal.returns-clause-read
returns-clause-read c = λ done.
    let words = map (λ (word : Bor (List ℕ)). word.now) c.args.words.now in
    part-into words c.args.part.now c.args.skip c.args.length c.read_given-read.result c.hand_out.new.frame c.read_given-read.ensures.read (c.hand_out.ensures.handed done)

pub returns-clause-refused : goal.returns-clause-refused
returns-clause-refused c = λ some.
    let words = map (λ (word : Bor (List ℕ)). word.now) c.args.words.now in
    let read = c.read_given-read.result in
    weaker (MayRefuse read) (IsPartUnread words c.args.part.now c.args.skip c.args.length) _ _ _ _ (part-unread words c.args.part.now c.args.skip c.args.length read c.read_given-read.ensures.refused) (c.hand_out.ensures.refused some)
