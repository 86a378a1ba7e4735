use Rattle.std.proofs.Common.{rules, ◌≡◌, ◌∙◌, ◌++◌, None, drop, take, length, ap, sym, subst}
use Rattle.std.specs.Option.{option_map}
use Rattle.std.proofs.Math.Seq.{take-append_seam}
use Rattle.pl_seek.proofs.PartLaws.{dialect-given}
use Rattle.pl_stream.specs.Feeding.{feed_cause, IsFed, IsStreamFault}
use Rattle.pl_stream.specs.Kept.{error_of}
use Rattle.pl_stream.specs.Stepping.{IsStepped, IsStepFault}
use Rattle.pl_stream.specs.Stream.{Stream, StandsFor}
use Rattle.pl_stream.proofs.FedLaws.{fed, unfed, step-fits}
use Rattle.pl_stream.proofs.StepLaws.{accepted-given}
use Rattle.pl_stream.proofs.state.StreamState.feed.Goals as goal

pub invariant_of-self-in-Ok : goal.invariant_of-self-in-Ok
invariant_of-self-in-Ok c =
    let s = c.self.inside in
    (c.self.invariant.0, c.self.invariant.1, step-fits s.read s.write s.place s.rows c.deref.result.now c.args.text.now.items c.settle.new.text.items c.in-Ok.step c.self.invariant.2 c.in-Ok.ensures.stepped)

pub returns-in-Ok-clause-fed : goal.returns-in-Ok-clause-fed
returns-in-Ok-clause-fed c = λ bytes stands small.
    let s = c.self.inside in
    let piece = c.args.piece.now in
    let step = c.in-Ok.step in
    let text = c.args.text.now.items in
    let now = c.settle.new.text.items in
    let old : Stream = record { read = s.read; write = s.write; kept = s.kept.items; place = s.place; rows = s.rows; fault = option_map error_of s.fault; is_finished = s.is_finished } in
    let apart = dialect-given s.read (accepted-given s.read s.write c.self.invariant.0) in
    let unset : s.fault ≡ None = search rules in
    let joined : c.extend_from_slice.new.self.items ≡ s.kept.items ++ piece = search rules in
    let looked : c.deref.result.now ≡ s.kept.items ++ piece = c.deref.ensures.value ∙ joined in
    let stepped : IsStepped s.read s.write s.place s.rows (s.kept.items ++ piece) text now step = subst (λ l. IsStepped s.read s.write s.place s.rows l text now step) looked c.in-Ok.ensures.stepped in
    let left : c.let_go.new.kept.items ≡ drop step.at (s.kept.items ++ piece) = c.let_go.ensures ∙ ap (drop step.at) joined in
    let done = fed old bytes piece (subst (λ (t : Stream). StandsFor t bytes) (sym c.self.view_is) stands) apart c.self.invariant.2 (ap (option_map error_of) unset) text now step small stepped in
    subst (λ (t : Stream). IsFed t (record old { kept = c.let_go.new.kept.items; place = step.place; rows = step.rows }) bytes piece text now) c.self.view_is
    (subst (λ l. IsFed old (record old { kept = l; place = step.place; rows = step.rows }) bytes piece text now) (sym left) done)

pub returns-in-Err-clause-refused : goal.returns-in-Err-clause-refused
returns-in-Err-clause-refused c = λ bytes stands small.
    let s = c.self.inside in
    let piece = c.args.piece.now in
    let given = c.in-Err.fault in
    let old : Stream = record { read = s.read; write = s.write; kept = s.kept.items; place = s.place; rows = s.rows; fault = option_map error_of s.fault; is_finished = s.is_finished } in
    let apart = dialect-given s.read (accepted-given s.read s.write c.self.invariant.0) in
    let unset : s.fault ≡ None = search rules in
    let joined : c.extend_from_slice.new.self.items ≡ s.kept.items ++ piece = search rules in
    let looked : c.deref.result.now ≡ s.kept.items ++ piece = c.deref.ensures.value ∙ joined in
    let why : IsStepFault s.read s.place s.rows (s.kept.items ++ piece) given = subst (λ l. IsStepFault s.read s.place s.rows l given) looked c.in-Err.ensures.refused in
    let held : c.len-held.result ≡ length s.kept.items = search rules in
    let back : c.truncate.new.self.items ≡ s.kept.items = c.truncate.ensures.items ∙ (λ i. take (held i) (joined i)) ∙ take-append_seam s.kept.items piece in
    let done = unfed old bytes piece (subst (λ (t : Stream). StandsFor t bytes) (sym c.self.view_is) stands) apart c.self.invariant.2 (ap (option_map error_of) unset) given why in
    subst (λ (t : Stream). IsStreamFault t (record old { kept = c.truncate.new.self.items; fault = option_map error_of c.kept_of-self-inside.result }) (feed_cause t.read (bytes ++ piece)) given) c.self.view_is
    (subst (λ l. IsStreamFault old (record old { kept = l; fault = option_map error_of c.kept_of-self-inside.result }) (feed_cause old.read (bytes ++ piece)) given) (sym back)
    (subst (λ f. IsStreamFault old (record old { fault = option_map error_of f }) (feed_cause old.read (bytes ++ piece)) given) (sym c.kept_of-self-inside.ensures) done))
