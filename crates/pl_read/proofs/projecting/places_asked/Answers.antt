use Rattle.std.proofs.Common.{ℕ, Bool, ◌++◌, ◌∷◌, [], sym, ◌∙◌, ap}
use Rattle.std.specs.Prelude.{slice_index_or}
use Rattle.pl_read.specs.declared.projecting.Times.TheVariants as times
use Rattle.pl_read.specs.Steps.{is_asked}
use Rattle.pl_read.proofs.ProjectionLaws.{passing-more, passing-same}
use Rattle.pl_read.proofs.projecting.places_asked.Goals.{then-is_asked+in_ok-push, else-is_asked}
use Rattle.pl_read.proofs.projecting.places_asked.Goals as goal

pub loop-place-preserved : goal.loop-place-preserved
loop-place-preserved c =
    let p : ℕ → Bool = λ place. is_asked (slice_index_or c.args.times.now place times.Never) in
    let i = c.loop-place.place in
    elim c.if-is_asked.branch [
      | then-is_asked+in_ok-push w ↦ ap (λ v. v.items) w.places-is ∙ w.in_ok-push.ensures.pushed ∙ ap (λ l. l ++ i ∷ []) c.loop-place.invariant ∙ sym (passing-more p i (sym c.is_asked.ensures ∙ w.if-is_asked.true))
      | else-is_asked w ↦ ap (λ v. v.items) w.places-is ∙ c.loop-place.invariant ∙ sym (passing-same p i (sym c.is_asked.ensures ∙ w.if-is_asked.false))
    ]
