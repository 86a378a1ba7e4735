use Rattle.std.proofs.Common.{rules, ◌≡◌, ◌∙◌, None, ap, sym, subst, ℕ, List}
use Rattle.std.specs.Prelude.{Option}
use Rattle.std.specs.Option.{option_map}
use Rattle.pl_frame.specs.declared.error.PolarsError.{PolarsError}
use Rattle.pl_stream.specs.Feeding.{finish_cause, IsStreamFault}
use Rattle.pl_stream.specs.Kept.{error_of}
use Rattle.pl_stream.specs.Stepping.{kept_of}
use Rattle.pl_stream.specs.Stream.{Stream, StandsFor}
use Rattle.pl_stream.proofs.FinishLaws.{unfinished}
use Rattle.pl_stream.proofs.state.StreamState.finish.Goals as goal

pub returns-clause-refused : goal.returns-clause-refused
returns-clause-refused c = λ bytes stands.
    let given = c.in-Err.fault in
    let s = c.self-2.inside in
    let old : Stream = c.args.self.now in
    let now : Stream = record { read = s.read; write = s.write; kept = s.kept.items; place = s.place; rows = s.rows; fault = option_map error_of s.fault; is_finished = s.is_finished } in
    let same : now ≡ old = c.self-2.view_is ∙ c.print_end.ensures.same in
    let unset : old.fault ≡ None = sym (ap (λ (state : Stream). state.fault) c.self.view_is) ∙ ap (option_map error_of) c.in_default.is in
    let cause = finish_cause old.read bytes in
    let kept : option_map error_of c.kept_of-self-inside.result ≡ option_map error_of (kept_of given) = ap (option_map error_of) c.kept_of-self-inside.ensures in
    subst (λ (new : Stream). IsStreamFault old new cause given) (sym (ap (λ (state : Stream). record state { fault = option_map error_of c.kept_of-self-inside.result }) same))
    (subst (λ (f : Option PolarsError). IsStreamFault old (record old { fault = f }) cause given) (sym kept) (unfinished old bytes given unset (c.in-Err.ensures.refused bytes stands)))
