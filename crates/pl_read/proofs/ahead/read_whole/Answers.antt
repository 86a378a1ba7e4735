use Rattle.std.proofs.Common.{◌≡◌, ◌++◌, List, ℕ, ◌∙◌, ap, subst}
use Rattle.std.specs.Prelude.{MatchResult}
use Rattle.pl_read.specs.Options.{settled_schema}
use Rattle.pl_read.specs.Reading.{IsRead, IsReadFault}
use Rattle.pl_read.proofs.SourceReadLaws.{unread-behind, read-behind}
use Rattle.pl_read.proofs.ahead.read_whole.Goals as goal

pub returns-in-Err-clause-answer : goal.returns-in-Err-clause-answer
returns-in-Err-clause-answer g c = unread-behind _ _ _ _ _ _ c.in-Err.fault _ c.in-Err.ensures.cause c.unread.ensures

pub returns-clause-answer : goal.returns-clause-answer
returns-clause-answer g c =
    let o = c.args.options.now in
    let all = c.in_default.ensures.all in
    let same : c.deref.result.now ≡ c.args.intake.rest.items ++ all.bytes = c.deref.ensures.value ∙ ap (λ kept. kept.items) c.into_rest-input.ensures ∙ all.are in
    read-behind o c.args.intake.rest.items all.bytes _ _ _ _ c.read_frame.result all.gained.came all.end
    (subst (λ (l : List ℕ). MatchResult c.read_frame.result (IsRead o (settled_schema o l) l) (IsReadFault o (settled_schema o l) l)) same c.read_frame.ensures)
