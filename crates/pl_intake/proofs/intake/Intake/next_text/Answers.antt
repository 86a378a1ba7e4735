use Rattle.std.proofs.Common.{rules, arith, ◌≡◌, ℕ, ◌++◌, ◌-◌, ◌≤◌, length, take, slice_range, replicate, refl, sym, ◌∙◌, ap, subst, not, append-nil, length-append, length-take}
use Rattle.std.specs.Prelude.{if◌then◌else◌}
use Rattle.std.proofs.lemmas.List.{length-take-le}
use Rattle.pl_intake.specs.Intake.{HasGiven, HasStopped, IsPastLimit}
use Rattle.pl_intake.proofs.IntakeLaws.{HasGiven-nothing, HasGiven-filled, IsReadOn-behind, IsTooLong-behind, HasStopped-behind, written-back, parted, front-resized}
use Rattle.pl_intake.proofs.intake.Intake.next_text.Goals as goal

pub loop-init : goal.loop-init
loop-init g c =
    let size : c.len-from.result ≡ length c.deref.result.now = omega (arith, c.args.self.now.rest.ok, c.deref.ensures.len) in
    record {
      inside = omega (arith, size, c.in-Ok.ensures.inside);
      scanned = omega arith;
      given = HasGiven-nothing _ _ _ _ _ refl c.requires.within (λ ended. absurd (cc))
          (sym (ap (λ l. take c.len-from.result c.in-Ok.text.items ++ l) c.clear.ensures.items ∙ append-nil (take c.len-from.result c.in-Ok.text.items)
          ∙ ap (λ n. take n c.in-Ok.text.items) size ∙ c.in-Ok.ensures.front ∙ c.deref.ensures.value));
      within = c.requires.within;
      rest = c.clear.ensures.items;
      going = refl;
      later = omega arith;
    }

pub returns-in_err-filled-clause-too_long : goal.returns-in_err-filled-clause-too_long
returns-in_err-filled-clause-too_long g c = λ is.
    let far : IsPastLimit (g.So.Source.left c.loop.source) (g.So.Source.left c.fill.new.source) c.args.limit c.loop.self.size = search rules in
    IsTooLong-behind _ _ _ _ _ _ _ c.loop.invariant.given far

pub returns-in_err-filled-clause-failed : goal.returns-in_err-filled-clause-failed
returns-in_err-filled-clause-failed g c = λ is.
    let stopped : HasStopped (g.So.Source.left c.loop.source) (g.So.Source.left c.fill.new.source) c.args.limit c.loop.self.size = search rules in
    HasStopped-behind _ _ _ _ _ _ _ c.loop.invariant.given stopped

pub returns-then-filled-clause-given : goal.returns-then-filled-clause-given
returns-then-filled-clause-given g c =
    let new = c.fill.new.text in
    let to = c.in_ok-filled.filled.to in
    let old = c.loop.text.items in
    let now : c.truncate.new.self.items ≡ take to new =
    c.truncate.ensures.items ∙ ap (take to) (written-back old new c.loop.text.len (omega (arith, c.loop.text.ok)) (omega (arith, c.loop.text.ok, c.fill.auto.text, c.deref_mut.ensures.len))) in
    let kept = c.in_ok-filled.ensures.kept ∙ ap (take c.loop.from) c.deref_mut.ensures.value in
    HasGiven-filled _ _ _ _ _ _ _ old new _ c.loop.from to c.loop.invariant.given c.loop.invariant.rest c.in_ok-filled.ensures.bytes c.in_ok-filled.ensures.after c.in_ok-filled.ensures.inside kept
    refl c.in_ok-filled.ensures.within c.in_ok-filled.ensures.ended
    (sym (ap (λ l. c.truncate.new.self.items ++ l) c.loop.invariant.rest ∙ append-nil c.truncate.new.self.items ∙ now))

pub returns-in-Some-clause-given : goal.returns-in-Some-clause-given
returns-in-Some-clause-given g c =
    let new = c.fill.new.text in
    let to = c.in_ok-filled.filled.to in
    let old = c.loop.text.items in
    let text = c.truncate.new.self.items in
    let cut = c.in-Some.cut in
    let now : text ≡ take to new =
    c.truncate.ensures.items ∙ ap (take to) (written-back old new c.loop.text.len (omega (arith, c.loop.text.ok)) (omega (arith, c.loop.text.ok, c.fill.auto.text, c.deref_mut.ensures.len))) in
    let kept = c.in_ok-filled.ensures.kept ∙ ap (take c.loop.from) c.deref_mut.ensures.value in
    let behind = slice_range c.deref-in-Some.result.now cut (length c.deref-in-Some.result.now) in
    let pushed = c.is_err.ensures.negation ∙ ap not c.if-is_err.false in
    let rest : c.extend_from_slice.new.self.items ≡ slice_range text cut (length text) =
    c.extend_from_slice.ensures.items ∙ ap (λ t. if t then c.loop.self.rest.items ++ behind else c.loop.self.rest.items) pushed
    ∙ ap (λ l. l ++ behind) c.loop.invariant.rest ∙ ap (λ l. slice_range l cut (length l)) c.deref-in-Some.ensures.value in
    HasGiven-filled _ _ _ _ _ _ _ old new _ c.loop.from to c.loop.invariant.given c.loop.invariant.rest c.in_ok-filled.ensures.bytes c.in_ok-filled.ensures.after c.in_ok-filled.ensures.inside kept
    refl c.in_ok-filled.ensures.within c.in_ok-filled.ensures.ended
    (sym (ap (λ l. c.truncate-in-Some.new.self.items ++ l) rest ∙ ap (λ l. l ++ slice_range text cut (length text)) c.truncate-in-Some.ensures.items ∙ parted text cut ∙ now))

pub loop-preserved : goal.loop-preserved
loop-preserved g c =
    let new = c.fill.new.text in
    let to = c.in_ok-filled.filled.to in
    let old = c.loop.text.items in
    let text = c.truncate.new.self.items in
    let size = c.saturating_add.result in
    let more = replicate {A = ℕ} (size - c.truncate.new.self.len) 0 in
    let now : text ≡ take to new =
    c.truncate.ensures.items ∙ ap (take to) (written-back old new c.loop.text.len (omega (arith, c.loop.text.ok)) (omega (arith, c.loop.text.ok, c.fill.auto.text, c.deref_mut.ensures.len))) in
    let long : length text ≡ to = ap length now ∙ length-take-le to new c.in_ok-filled.ensures.inside in
    let fits : to ≤ size = omega (arith, c.saturating_add.ensures, c.in_ok-filled.ensures.inside, c.fill.auto.text, c.deref_mut.ensures.len) in
    let kept = c.in_ok-filled.ensures.kept ∙ ap (take c.loop.from) c.deref_mut.ensures.value in
    let pushed = c.is_err-in-loop.ensures.negation ∙ ap not c.if-is_err-2.false in
    let items : c.resize.new.self.items ≡ take size text ++ more = c.resize.ensures.items ∙ ap (λ t. if t then take size text ++ more else text) pushed in
    record {
      inside = omega (arith, ap length items, length-append (take size text) more, length-take size text, long, fits);
      scanned = omega (arith, c.look_on-scanned.ensures, ap length c.deref-in-loop.ensures.value, long);
      given = HasGiven-filled _ _ _ _ _ _ _ old new _ c.loop.from to c.loop.invariant.given c.loop.invariant.rest c.in_ok-filled.ensures.bytes c.in_ok-filled.ensures.after c.in_ok-filled.ensures.inside kept
          refl c.in_ok-filled.ensures.within c.in_ok-filled.ensures.ended
          (sym (ap (λ l. take to c.resize.new.self.items ++ l) c.loop.invariant.rest ∙ append-nil (take to c.resize.new.self.items) ∙ ap (take to) items ∙ front-resized text more to size long fits ∙ now));
      within = c.in_ok-filled.ensures.within;
      rest = c.loop.invariant.rest;
      going = c.if-filled.false;
      later = omega (arith, c.in_ok-filled.ensures.later);
    }

pub returns-clause-given : goal.returns-clause-given
returns-clause-given g c = subst (HasGiven _ _ _ _ _) (sym c.truncate-2.ensures.items) c.loop.invariant.given

pub returns-in_err-filled-clause-read_on : goal.returns-in_err-filled-clause-read_on
returns-in_err-filled-clause-read_on g c = IsReadOn-behind _ _ _ _ c.loop.invariant.given.gained.came c.in_err-filled.ensures.read_on

pub returns-then-filled-clause-read_on : goal.returns-then-filled-clause-read_on
returns-then-filled-clause-read_on g c = IsReadOn-behind _ _ _ _ c.loop.invariant.given.gained.came c.in_ok-filled.ensures.read_on

pub returns-then-is_err-clause-read_on : goal.returns-then-is_err-clause-read_on
returns-then-is_err-clause-read_on g c = IsReadOn-behind _ _ _ _ c.loop.invariant.given.gained.came c.in_ok-filled.ensures.read_on

pub returns-in-Some-clause-read_on : goal.returns-in-Some-clause-read_on
returns-in-Some-clause-read_on g c = IsReadOn-behind _ _ _ _ c.loop.invariant.given.gained.came c.in_ok-filled.ensures.read_on

pub returns-then-is_err-2-clause-read_on : goal.returns-then-is_err-2-clause-read_on
returns-then-is_err-2-clause-read_on g c = IsReadOn-behind _ _ _ _ c.loop.invariant.given.gained.came c.in_ok-filled.ensures.read_on
