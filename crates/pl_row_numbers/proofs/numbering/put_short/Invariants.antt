use Rattle.std.proofs.Common.{◌≡◌, ◌+◌, ◌*◌, ◌≤◌, ◌++◌, take}
use Rattle.pl_row_numbers.specs.Numbered.{Stands, followed, inside, stand_behind}
use Rattle.pl_row_numbers.proofs.numbering.put_short.Given as goal

abbrev pub invariant-loop-byte : goal.invariant-loop-byte
invariant-loop-byte l =
    let s = inside l.fn.front l.odd in
    record {
      room : l.now ≤ l.at + 24 * l.byte-index;
      text : take l.now l.to ≡ take l.at l.fn.to ++ followed l.fn.front.form s (take l.byte-index l.text);
      stands : Stands l.fn.front.form (stand_behind s (take l.byte-index l.text)) l.front l.odd_now;
    }
