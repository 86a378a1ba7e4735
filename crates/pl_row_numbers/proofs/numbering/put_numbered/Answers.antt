use Rattle.std.proofs.Common.{◌++◌, take, sym, ◌∙◌, ap, subst, arith}
use Rattle.std.proofs.lemmas.List.{take_rest}
use Rattle.pl_row_numbers.specs.Numbered.{Stands, followed, inside, stand_behind}
use Rattle.pl_row_numbers.proofs.FollowedLaws.{followed-next, Stands-next, stand-is, IsPut-last, numbered-begun, numbered-ended}
use Rattle.pl_row_numbers.proofs.numbering.put_numbered.Goals as goal

pub loop-from-preserved : goal.loop-from-preserved
loop-from-preserved c =
    let form = c.args.form in
    let s = c.args.stand in
    let text = c.args.text.now in
    let from = c.loop-from.from in
    let front = c.loop-from.front in
    let odd = c.loop-from.odd in
    let inv = c.loop-from.invariant in
    let rest = take_rest text from in
    record {
      within = omega (arith, c.loop-from-test.true, inv.within);
      room = omega (arith, c.put_block.ensures.end, inv.room);
      text = followed-next form s text from 64 front odd _ _ inv.stands inv.text (c.put_block.ensures.text ∙ ap (λ t. take c.loop-from.at c.loop-from.to ++ followed front.form (inside front odd) (take 64 t)) rest);
      stands = Stands-next form s text from 64 front c.put_block.new.front odd c.put_block.result.1 inv.stands
          (subst (λ t. Stands front.form (stand_behind (inside front odd) (take 64 t)) c.put_block.new.front c.put_block.result.1) rest c.put_block.ensures.stand);
    }

pub overflow_sub-len : goal.overflow_sub-len
overflow_sub-len c =
    let l = c.loop-from in
    let p = c.put_short in
    let inv = l.invariant in
    let all = IsPut-last c.args.form c.args.stand c.args.text.now l.from l.front p.new.front l.odd p.result.1 _ _ inv.within inv.stands inv.text p.ensures.text p.ensures.stand in
    (numbered-ended c.args.form c.args.stand c.args.text.now p.new.to p.result.0 p.new.front p.result.1 (omega arith) all (sym (c.goes_on-begun.ensures c.args.stand (sym all.stands.odd_is)) ∙ c.if-begun.false)).0

pub returns-then-begun : goal.returns-then-begun
returns-then-begun c =
    let l = c.loop-from in
    let p = c.put_short in
    let inv = l.invariant in
    let all = IsPut-last c.args.form c.args.stand c.args.text.now l.from l.front p.new.front l.odd p.result.1 _ _ inv.within inv.stands inv.text p.ensures.text p.ensures.stand in
    let begun = c.goes_on-begun.ensures c.args.stand (sym all.stands.odd_is) in
    record {
      text = numbered-begun c.args.form c.args.stand c.args.text.now _ p.new.front p.result.1 all (sym begun ∙ c.if-begun.true);
      within = omega arith;
      stand = stand-is c.args.form (stand_behind c.args.stand c.args.text.now) p.new.front c.goes_on-begun.result p.result.1 all.stands begun;
    }

pub returns-else-begun : goal.returns-else-begun
returns-else-begun c =
    let l = c.loop-from in
    let p = c.put_short in
    let inv = l.invariant in
    let all = IsPut-last c.args.form c.args.stand c.args.text.now l.from l.front p.new.front l.odd p.result.1 _ _ inv.within inv.stands inv.text p.ensures.text p.ensures.stand in
    let begun = c.goes_on-begun.ensures c.args.stand (sym all.stands.odd_is) in
    record {
      text = (numbered-ended c.args.form c.args.stand c.args.text.now p.new.to p.result.0 p.new.front p.result.1 (omega arith) all (sym begun ∙ c.if-begun.false)).1;
      within = omega arith;
      stand = stand-is c.args.form (stand_behind c.args.stand c.args.text.now) p.new.front c.goes_on-begun.result p.result.1 all.stands begun;
    }
