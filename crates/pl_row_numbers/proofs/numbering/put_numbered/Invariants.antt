use Rattle.std.proofs.Common.{◌≡◌, ◌+◌, ◌-◌, ◌*◌, ◌≤◌, ◌++◌, length, take}
use Rattle.pl_row_numbers.specs.Numbered.{Stands, followed, front_at, stand_behind}
use Rattle.pl_row_numbers.proofs.numbering.put_numbered.Given as goal

abbrev pub invariant-loop-from : goal.invariant-loop-from
invariant-loop-from l = record {
  within : l.from ≤ length l.text;
  room : l.at ≤ 24 * l.from + 23;
  text : take l.at l.to ≡ front_at l.fn.form l.fn.stand ++ followed l.fn.form l.fn.stand (take l.from l.text);
  stands : Stands l.fn.form (stand_behind l.fn.stand (take l.from l.text)) l.front l.odd;
}

abbrev pub decreases-loop-from : goal.decreases-loop-from
decreases-loop-from l = length l.text - l.from
