use Rattle.std.proofs.Common.{List, ℕ, Bor, map}
use Rattle.pl_csv_c.proofs.CallLaws.{weaker, read-into, unread}
use Rattle.pl_csv_c.specs.Handing.{MayRefuse}
use Rattle.pl_csv_c.specs.Reading.{IsUnread}
use Rattle.pl_csv_c.proofs.reading.pl_csv_read.Goals as goal

pub returns-clause-read : goal.returns-clause-read
returns-clause-read c = λ done.
    let words = map (λ (word : Bor (List ℕ)). word.now) c.args.words.now in
    read-into words c.args.input.now c.read_given-read.result c.hand_out.new.frame c.read_given-read.ensures.read (c.hand_out.ensures.handed done)

pub returns-clause-refused : goal.returns-clause-refused
returns-clause-refused c = λ some.
    let words = map (λ (word : Bor (List ℕ)). word.now) c.args.words.now in
    let read = c.read_given-read.result in
    weaker (MayRefuse read) (IsUnread words c.args.input.now) _ _ _ _ (unread words c.args.input.now read c.read_given-read.ensures.refused) (c.hand_out.ensures.refused some)
