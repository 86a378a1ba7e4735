use Rattle.std.proofs.Common.{◌≡◌, ◌-◌, ◌+◌, ◌++◌, ◌∷◌, [], true, length, replicate, sym, ◌∙◌, ap, arith, append_assoc}
use Rattle.std.proofs.lemmas.List.{take_all, length-append, append-nil, replicate_more}
use Rattle.pl_frame.proofs.texts.extend_flags.Goals as goal

pub returns : goal.returns
returns c =
    let more = c.args.more.now in
    let left : c.loop-place.place - length more ≡ c.args.count - length more = (let t = c.loop-place-test.false in omega (arith, t)) in
    c.loop-place.invariant.items
    ∙ (λ j. c.put_flags.ensures.items j ++ replicate (left j) true)
    ∙ append_assoc c.args.flags.now.items more (replicate (c.args.count - length more) true)
    ∙ ap (λ first. c.args.flags.now.items ++ (first ++ replicate (c.args.count - length more) true)) (sym (take_all c.args.count more c.requires.few))

pub loop-place-init : goal.loop-place-init
loop-place-init c =
    let none : length c.args.more.now - length c.args.more.now ≡ 0 = omega arith in
    let size = length-append c.args.flags.now.items c.args.more.now in
    let all = ap length c.put_flags.ensures.items in
    record {
      items = sym (ap (λ n. c.put_flags.new.flags.items ++ replicate n true) none ∙ append-nil c.put_flags.new.flags.items);
      behind = omega arith;
      room = omega (arith, size, all, c.requires.room, c.requires.few, c.put_flags.ensures.room);
    }

pub loop-place-preserved : goal.loop-place-preserved
loop-place-preserved c =
    let size = length c.args.more.now in
    let behind = c.loop-place.invariant.behind in
    let next : c.loop-place.place - size + 1 ≡ c.loop-place.place + 1 - size = omega (arith, behind) in
    record {
      items = c.push_reserved.ensures.items ∙ ap (λ xs. xs ++ true ∷ []) c.loop-place.invariant.items
          ∙ append_assoc c.put_flags.new.flags.items (replicate (c.loop-place.place - size) true) (true ∷ [])
          ∙ ap (λ xs. c.put_flags.new.flags.items ++ xs) (replicate_more (c.loop-place.place - size) true ∙ ap (λ n. replicate n true) next);
      behind = omega (arith, behind);
      room = (let room = c.loop-place.invariant.room in let t = c.loop-place-test.true in omega (arith, room, t, c.push_reserved.ensures.len, c.push_reserved.ensures.capacity));
    }
