use Rattle.std.proofs.Common.{◌≡◌, ◌++◌, ◌+◌, ◌≤◌, ◌/◌, length, vec_capacity}
use Rattle.pl_seek.specs.Reading.{numbers_in}
use Rattle.pl_seek.proofs.reading.numbers_in.Given as goal

abbrev pub invariant-numbers : goal.invariant-numbers
invariant-numbers l =
    (l.numbers.items ++ numbers_in (length l.rest / 8) l.rest ≡ numbers_in (length l.bytes / 8) l.bytes)
    × (length l.numbers.items + length l.rest / 8 ≤ vec_capacity l.numbers)

abbrev pub decreases-numbers : goal.decreases-numbers
decreases-numbers l = length l.rest
