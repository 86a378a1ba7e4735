use Rattle.std.proofs.Common.{rules, ◌≡◌, ◌++◌, ◌∷◌, [], ◌+◌, length, get_or, sym, ◌∙◌, ap, not, subst, arith}
use Rattle.std.specs.Prelude.{if◌then◌else◌}
use Rattle.std.specs.Sync.OnceLock.{Named}
use Rattle.std.proofs.lemmas.List.{length_push}
use Rattle.pl_intake.specs.Texts.{AreSetIn}
use Rattle.pl_intake.specs.Intake.{HasGiven}
use Rattle.pl_intake.proofs.IntakeLaws.{ok-holds}
use Rattle.pl_intake.proofs.TextLaws.{AreSetIn-push, HasRead, HasRead-none, HasRead-push, HasRead-back, HasRead-given}
use Rattle.pl_intake.proofs.IntakeLaws.{IsReadOn-behind, IsTooLong-behind, HasStopped-behind}
use Rattle.pl_intake.proofs.texts.read_texts.Goals as goal

pub loop-place-init : goal.loop-place-init
loop-place-init g c = record {
  len = search rules;
  set = c.requires.set;
  read = HasRead-none (g.So.Source.left c.args.source.now) c.args.limit c.args.intake.now c.args.tokens.now.items c.requires.within c.requires.ended;
  later = omega arith;
}

pub returns-in_err-text-clause-too_long : goal.returns-in_err-text-clause-too_long
returns-in_err-text-clause-too_long g c = λ fault. IsTooLong-behind _ _ _ _ _ _ _ c.loop-place.invariant.read.given (c.in_err-text.ensures.too_long (search rules))

pub returns-in_err-text-clause-failed : goal.returns-in_err-text-clause-failed
returns-in_err-text-clause-failed g c = λ fault. HasStopped-behind _ _ _ _ _ _ _ c.loop-place.invariant.read.given (c.in_err-text.ensures.failed (search rules))

pub returns-then-is_ended-clause-given : goal.returns-then-is_ended-clause-given
returns-then-is_ended-clause-given g c = λ before first given. HasRead-given before _ _ _ first _ _ _ _ c.loop-place.invariant.read given

pub returns-in-Err-clause-given : goal.returns-in-Err-clause-given
returns-in-Err-clause-given g c = λ before first given.
    let left = g.So.Source.left in
    let same : c.in-Err.text ≡ c.in_ok-text.text = c.in-Err.ensures.1 in
    let rest : c.put_back.new.self.rest.items ≡ c.in-Err.text.items ++ c.next_text.new.self.rest.items =
    ok-holds c.put_back.result (c.put_back.new.self.rest.items ≡ c.in-Err.text.items ++ c.next_text.new.self.rest.items) (c.is_err-in-Err.ensures.negation ∙ ap not c.if-is_err-2.false) c.put_back.ensures.rest in
    let read = HasRead-back (left c.args.source.now) (left c.loop-place.source) (left c.next_text.new.source) c.args.limit c.args.intake.now c.loop-place.intake c.next_text.new.self c.put_back.new.self
    c.args.tokens.now.items c.loop-place.tokens.items c.in_ok-text.text.items c.loop-place.invariant.read c.in_ok-text.ensures.given (rest ∙ ap (λ text. text.items ++ c.next_text.new.self.rest.items) same)
    c.put_back.ensures.size c.put_back.ensures.ended in
    HasRead-given before _ _ _ first _ _ _ _ read given

pub loop-place-preserved : goal.loop-place-preserved
loop-place-preserved g c =
    let left = g.So.Source.left in
    let tokens = c.loop-place.tokens.items in
    let token = c.in-Ok.token in
    let pushed = c.is_err.ensures.negation ∙ ap not c.if-is_err.false in
    let items : c.push.new.self.items ≡ tokens ++ token ∷ [] = c.push.ensures.items ∙ ap (λ t. if t then tokens ++ token ∷ [] else tokens) pushed in
    let cell = c.index-cells-place.result in
    let is : token.of ≡ (get_or c.args.cells.now (length tokens) cell).id =
    c.in-Ok.ensures.0.0 ∙ ap (λ (named : Named). named.id) (c.index-cells-place.is ∙ ap (λ n. get_or c.args.cells.now n cell) (sym c.loop-place.invariant.len)) in
    let text : token.value.items ≡ c.in_ok-text.text.items = ap (λ text. text.items) c.in-Ok.ensures.0.1 in
    let given = subst (HasGiven (left c.loop-place.source) (left c.next_text.new.source) c.args.limit c.loop-place.intake c.next_text.new.self) (sym text) c.in_ok-text.ensures.given in
    let set = AreSetIn-push c.args.cells.now tokens token cell c.loop-place.invariant.set (omega (arith, c.loop-place.invariant.len, c.loop-place-test.true)) is in
    let read = HasRead-push (left c.args.source.now) (left c.loop-place.source) (left c.next_text.new.source) c.args.limit c.args.intake.now c.loop-place.intake c.next_text.new.self
    c.args.tokens.now.items tokens token c.loop-place.invariant.read given in
    record {
      len = ap length items ∙ length_push tokens token ∙ ap (λ n. n + 1) c.loop-place.invariant.len;
      set = subst (AreSetIn c.args.cells.now) (sym items) set;
      read = subst (HasRead (left c.args.source.now) (left c.next_text.new.source) c.args.limit c.args.intake.now c.next_text.new.self c.args.tokens.now.items) (sym items) read;
      later = omega (arith, c.loop-place.invariant.later, c.next_text.ensures.later);
    }

pub returns-clause-given : goal.returns-clause-given
returns-clause-given g c = λ before first given. HasRead-given before _ _ _ first _ _ _ _ c.loop-place.invariant.read given

pub returns-in_err-text-clause-read_on : goal.returns-in_err-text-clause-read_on
returns-in_err-text-clause-read_on g c = IsReadOn-behind _ _ _ _ c.loop-place.invariant.read.given.gained.came c.in_err-text.ensures.read_on

pub returns-then-is_err-clause-read_on : goal.returns-then-is_err-clause-read_on
returns-then-is_err-clause-read_on g c = IsReadOn-behind _ _ _ _ c.loop-place.invariant.read.given.gained.came c.in_ok-text.ensures.read_on

pub returns-then-is_err-2-clause-read_on : goal.returns-then-is_err-2-clause-read_on
returns-then-is_err-2-clause-read_on g c = IsReadOn-behind _ _ _ _ c.loop-place.invariant.read.given.gained.came c.in_ok-text.ensures.read_on

pub returns-in-Err-clause-read_on : goal.returns-in-Err-clause-read_on
returns-in-Err-clause-read_on g c = IsReadOn-behind _ _ _ _ c.loop-place.invariant.read.given.gained.came c.in_ok-text.ensures.read_on
