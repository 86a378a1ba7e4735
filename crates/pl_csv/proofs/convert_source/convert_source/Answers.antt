use Rattle.std.proofs.Common.{◌≡◌, ◌++◌, subst, ◌^◌}
use Rattle.pl_intake.proofs.IntakeLaws.{ok-holds}
use Rattle.pl_csv.specs.Sources.{IsReadAhead}
use Rattle.pl_csv.specs.Views.{source_view}
use Rattle.pl_csv.proofs.SourceLaws.{kept-none, kept-first, kept-again, IsReadAhead-longer}
use Rattle.pl_csv.proofs.convert_source.convert_source.Goals as goal

pub returns-then-not-reads_ahead-clause-converted : goal.returns-then-not-reads_ahead-clause-converted
returns-then-not-reads_ahead-clause-converted g c =
    let before = source_view (g.So.Source.left c.args.source.now) (g.So.Source.faults c.args.source.now) in
    c.convert_whole.ensures.converted before (kept-none before c.new-intake.result.rest.items c.new-intake.ensures.rest)

pub returns-then-not-reads_ahead-clause-refused : goal.returns-then-not-reads_ahead-clause-refused
returns-then-not-reads_ahead-clause-refused g c =
    let before = source_view (g.So.Source.left c.args.source.now) (g.So.Source.faults c.args.source.now) in
    c.convert_whole.ensures.refused before (kept-none before c.new-intake.result.rest.items c.new-intake.ensures.rest)

pub convert_ahead-requires-clause-ahead : goal.convert_ahead-requires-clause-ahead
convert_ahead-requires-clause-ahead g c κs within =
    let text = c.in-Ok.first.items in
    let rest = c.next_text.new.self.rest.items in
    let back = c.put_back.new.self.rest.items in
    let longer : back ≡ text ++ rest = ok-holds c.put_back.result (back ≡ text ++ rest) c.if-is_err.ensures.negation c.put_back.ensures.rest in
    IsReadAhead-longer c.args.read.now c.args.write.now text rest back c.in-Some-prepared.prepared longer
    (subst (λ front. IsReadAhead c.args.read.now c.args.write.now front c.in-Some-prepared.prepared) c.deref.ensures.value c.in-Some-prepared.ensures)

pub returns-in-Some-prepared-clause-converted : goal.returns-in-Some-prepared-clause-converted
returns-in-Some-prepared-clause-converted g c =
    let before = source_view (g.So.Source.left c.args.source.now) (g.So.Source.faults c.args.source.now) in
    let first = source_view (g.So.Source.left c.next_text.new.source) (g.So.Source.faults c.next_text.new.source) in
    let text = c.in-Ok.first.items in
    let kept =
    kept-again c.put_back.result before first (text ++ c.next_text.new.self.rest.items) c.put_back.new.self.rest.items c.if-is_err.ensures.negation c.put_back.ensures.rest
    (kept-first before first (2 ^ 36) c.new-intake.result c.next_text.new.self text c.new-intake.ensures.rest c.in-Ok.ensures.later c.in-Ok.ensures.given) in
    c.convert_ahead.ensures.converted before kept

pub returns-in-Some-prepared-clause-refused : goal.returns-in-Some-prepared-clause-refused
returns-in-Some-prepared-clause-refused g c =
    let before = source_view (g.So.Source.left c.args.source.now) (g.So.Source.faults c.args.source.now) in
    let first = source_view (g.So.Source.left c.next_text.new.source) (g.So.Source.faults c.next_text.new.source) in
    let text = c.in-Ok.first.items in
    let kept =
    kept-again c.put_back.result before first (text ++ c.next_text.new.self.rest.items) c.put_back.new.self.rest.items c.if-is_err.ensures.negation c.put_back.ensures.rest
    (kept-first before first (2 ^ 36) c.new-intake.result c.next_text.new.self text c.new-intake.ensures.rest c.in-Ok.ensures.later c.in-Ok.ensures.given) in
    c.convert_ahead.ensures.refused before kept

pub returns-clause-converted : goal.returns-clause-converted
returns-clause-converted g c =
    let before = source_view (g.So.Source.left c.args.source.now) (g.So.Source.faults c.args.source.now) in
    let first = source_view (g.So.Source.left c.next_text.new.source) (g.So.Source.faults c.next_text.new.source) in
    let text = c.in-Ok.first.items in
    let kept =
    kept-again c.put_back.result before first (text ++ c.next_text.new.self.rest.items) c.put_back.new.self.rest.items c.if-is_err.ensures.negation c.put_back.ensures.rest
    (kept-first before first (2 ^ 36) c.new-intake.result c.next_text.new.self text c.new-intake.ensures.rest c.in-Ok.ensures.later c.in-Ok.ensures.given) in
    c.convert_whole-2.ensures.converted before kept

pub returns-clause-refused : goal.returns-clause-refused
returns-clause-refused g c =
    let before = source_view (g.So.Source.left c.args.source.now) (g.So.Source.faults c.args.source.now) in
    let first = source_view (g.So.Source.left c.next_text.new.source) (g.So.Source.faults c.next_text.new.source) in
    let text = c.in-Ok.first.items in
    let kept =
    kept-again c.put_back.result before first (text ++ c.next_text.new.self.rest.items) c.put_back.new.self.rest.items c.if-is_err.ensures.negation c.put_back.ensures.rest
    (kept-first before first (2 ^ 36) c.new-intake.result c.next_text.new.self text c.new-intake.ensures.rest c.in-Ok.ensures.later c.in-Ok.ensures.given) in
    c.convert_whole-2.ensures.refused before kept
