use Rattle.std.proofs.Common.{◌≡◌, ℕ, suc, List, Bor, [], ◌+◌, ◌<◌, ◌∷◌, ◌++◌, length, map, get_or, refl, sym, ◌∙◌, ap, subst, arith}
use Rattle.std.proofs.lemmas.List.{length_push, length-map, get_or-map}
use Rattle.pl_rows.specs.WholePieces.{IsPieceFrame}
use Rattle.pl_rows.proofs.LinkLaws.{piece-columns}
use Rattle.pl_rows.proofs.TextLinkLaws.{AreLinked, AreLinked-first, AreLinked-more, read-next}
use Rattle.pl_rows.proofs.linking.link_texts.Goals as goal

pub loop-read-init : goal.loop-read-init
loop-read-init c = record {
  place_is = refl;
  after = omega arith;
  linked = λ before all. AreLinked-first c.args.plan.now c.args.schema.now before _ _ _ all;
}

pub push_columns-requires : goal.push_columns-requires
push_columns-requires c =
    let plan = c.args.plan.now in
    let schema = c.args.schema.now in
    let texts = map (λ (text : Bor (List ℕ)). text.now) c.args.texts.now in
    let piece = c.in-Some-read.piece in
    let own = read-next plan schema texts c.args.reads.items c.into_iter-read-iterator.result c.loop-read.yielded c.loop-read.read-iterator c.in-Some.read piece c.next.new.self c.requires.read
    c.into_iter-read-iterator.ensures.into_iter_gives.0 c.loop-read.yielded_by c.in-Some.ensures.steps.0 c.in-Some-read.is in
    let linked = c.loop-read.invariant.linked c.requires.linked.0 c.requires.linked.1 in
    piece-columns plan schema _ _ c.loop-read.stacks piece c.loop-read.front.rows c.loop-read.front.end linked.linked own

pub loop-read-preserved : goal.loop-read-preserved
loop-read-preserved c =
    let plan = c.args.plan.now in
    let schema = c.args.schema.now in
    let place = c.loop-read.place in
    let texts = map (λ (text : Bor (List ℕ)). text.now) c.args.texts.now in
    let piece = c.in-Some-read.piece in
    let own = read-next plan schema texts c.args.reads.items c.into_iter-read-iterator.result c.loop-read.yielded c.loop-read.read-iterator c.in-Some.read piece c.next.new.self c.requires.read
    c.into_iter-read-iterator.ensures.into_iter_gives.0 c.loop-read.yielded_by c.in-Some.ensures.steps.0 c.in-Some-read.is in
    let here : IsPieceFrame plan schema (get_or texts place []) piece = subst (λ (k : ℕ). IsPieceFrame plan schema (get_or texts k []) piece) (sym c.loop-read.invariant.place_is) own in
    let inside : place < length texts = omega (arith, c.if-place-texts.false, length-map c.args.texts.now (λ (text : Bor (List ℕ)). text.now)) in
    let end_is = c.in-Some-checked_add-2.ensures.1 ∙ ap (λ (t : List ℕ). c.loop-read.front.end + length t) (sym (get_or-map (λ (text : Bor (List ℕ)). text.now) c.args.texts.now place _ [] (omega (arith, c.if-place-texts.false)))) in
    record {
      place_is = omega (arith, c.loop-read.invariant.place_is, length_push c.loop-read.yielded c.in-Some.read);
      after = omega (arith, c.loop-read.invariant.after, end_is);
      linked = λ before all.
          let more =
          AreLinked-more plan schema (before ∷ texts) c.loop-read.stacks c.loop-read.front (record { rows = c.in-Some-checked_add.rows; end = c.in-Some-checked_add-2.end }) (suc place) piece c.requires.dialect
          (c.loop-read.invariant.linked before all) (omega (arith, inside)) here end_is
          (omega (arith, c.in-Some-checked_add.ensures)) (sym c.is_below.ensures ∙ c.if-not-is_below.false) in
          let same : suc place + 1 ≡ suc (place + 1) = omega arith in
          subst (λ s. AreLinked plan schema (before ∷ texts) s (record { rows = c.in-Some-checked_add.rows; end = c.in-Some-checked_add-2.end }) (suc (place + 1))) (sym c.in_ok-push_columns.ensures)
          (subst (AreLinked plan schema (before ∷ texts) _ _) same more);
    }
