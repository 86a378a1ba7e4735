use Rattle.std.proofs.Common.{◌≡◌, ◌+◌, ◌*◌, ◌≤◌, ◌++◌, take}
use Rattle.pl_row_numbers.specs.Numbered.{IsFront, followed, inside, stand_behind}
use Rattle.pl_row_numbers.proofs.CutLaws.{IsLeft}
use Rattle.pl_row_numbers.proofs.numbering.put_block.Given as goal

abbrev pub invariant-loop-left : goal.invariant-loop-left
invariant-loop-left l =
    let s = inside l.fn.front l.odd in
    record {
      within : l.from ≤ 64;
      room : l.now ≤ l.at + 24 * l.from;
      text : take l.now l.to ≡ take l.at l.fn.to ++ followed l.fn.front.form s (take l.from l.text);
      left : IsLeft l.ends l.left l.from;
      front : IsFront l.front;
      form : l.front.form ≡ l.fn.front.form;
      number : l.front.number ≡ (stand_behind s (take l.from l.text)).number;
    }

abbrev pub decreases-loop-left : goal.decreases-loop-left
decreases-loop-left l = l.left
