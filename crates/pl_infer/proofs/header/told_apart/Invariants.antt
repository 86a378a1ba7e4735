use Rattle.std.proofs.Common.{◌≡◌, ℕ, List, [], take, count_by}
use Rattle.std.specs.Str.{bytes_eq}
use Rattle.pl_infer.specs.Header.{apart_behind}
use Rattle.pl_infer.specs.ReadNames.{count_of}
use Rattle.pl_infer.proofs.header.told_apart.Given as goal

abbrev pub invariant-loop-name : goal.invariant-loop-name
invariant-loop-name l = record {
  counted : (other : List ℕ) → count_of l.counts other ≡ count_by (bytes_eq other) (take l.name-index l.names);
  apart : l.apart.items ≡ apart_behind [] (take l.name-index l.names);
}
