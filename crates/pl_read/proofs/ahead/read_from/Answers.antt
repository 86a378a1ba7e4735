use Rattle.std.proofs.Common.{◌≡◌, ◌++◌, ◌-◌, ◌^◌, [], subst, le_refl}
use Rattle.pl_frame.proofs.Known.{Consumes-nil}
use Rattle.pl_intake.proofs.IntakeLaws.{ok-holds, IsReadOn-behind}
use Rattle.pl_read.specs.Ahead.{IsReadAhead}
use Rattle.pl_read.proofs.AheadLaws.{IsReadAhead-longer}
use Rattle.pl_read.proofs.SourceReadLaws.{unread-behind, behind-first}
use Rattle.pl_read.proofs.ahead.read_from.Goals as goal

pub returns-in-Err-clause-answer : goal.returns-in-Err-clause-answer
returns-in-Err-clause-answer g c =
    let before = g.So.Source.left c.args.source.now in
    unread-behind c.args.options.now [] before (g.So.Source.left c.next_text.new.source) (g.So.Source.faults c.args.source.now) (g.So.Source.faults c.next_text.new.source) c.in-Err.fault _ c.in-Err.ensures.cause c.unread.ensures
    before (g.So.Source.faults c.args.source.now) (Consumes-nil before) (le_refl (g.So.Source.faults c.args.source.now))

pub read_ahead-requires-clause-ahead : goal.read_ahead-requires-clause-ahead
read_ahead-requires-clause-ahead g c κs within =
    let text = c.in-Ok.first.items in
    let rest = c.next_text.new.self.rest.items in
    let back = c.put_back.new.self.rest.items in
    let longer : back ≡ text ++ rest = ok-holds c.put_back.result (back ≡ text ++ rest) c.if-is_err.ensures.negation c.put_back.ensures.rest in
    IsReadAhead-longer c.args.options.now text rest back c.in-Some-prepared.prepared longer (subst (λ front. IsReadAhead c.args.options.now front c.in-Some-prepared.prepared) c.deref.ensures.value c.in-Some-prepared.ensures)

pub returns-in-Some-prepared-clause-answer : goal.returns-in-Some-prepared-clause-answer
returns-in-Some-prepared-clause-answer g c =
    let text = c.in-Ok.first.items in
    let rest = c.next_text.new.self.rest.items in
    let back = c.put_back.new.self.rest.items in
    behind-first c.args.options.now (2 ^ 64 - 1) _ _ _ _ _ _ c.read_ahead.result c.new-intake.result c.next_text.new.self text back c.new-intake.ensures.rest c.in-Ok.ensures.given
    (ok-holds c.put_back.result (back ≡ text ++ rest) c.if-is_err.ensures.negation c.put_back.ensures.rest) c.in-Ok.ensures.later c.read_ahead.ensures.answer

pub returns-clause-answer : goal.returns-clause-answer
returns-clause-answer g c =
    let text = c.in-Ok.first.items in
    let rest = c.next_text.new.self.rest.items in
    let back = c.put_back.new.self.rest.items in
    behind-first c.args.options.now (2 ^ 64 - 1) _ _ _ _ _ _ c.read_whole.result c.new-intake.result c.next_text.new.self text back c.new-intake.ensures.rest c.in-Ok.ensures.given
    (ok-holds c.put_back.result (back ≡ text ++ rest) c.if-is_err.ensures.negation c.put_back.ensures.rest) c.in-Ok.ensures.later c.read_whole.ensures.answer

pub returns-in-Some-prepared-clause-read_on : goal.returns-in-Some-prepared-clause-read_on
returns-in-Some-prepared-clause-read_on g c = IsReadOn-behind _ _ _ _ c.in-Ok.ensures.given.gained.came c.read_ahead.ensures.read_on

pub returns-clause-read_on : goal.returns-clause-read_on
returns-clause-read_on g c = IsReadOn-behind _ _ _ _ c.in-Ok.ensures.given.gained.came c.read_whole.ensures.read_on
