use Rattle.std.proofs.Common.{◌≡◌, take}
use Rattle.std.specs.Prelude.{None, find}
use Rattle.std.specs.List.{filter_map}
use Rattle.pl_frame.specs.Schema.{place_of, lacks}
use Rattle.pl_read.proofs.projecting.places_of.Given as goal

abbrev pub invariant-loop-name : goal.invariant-loop-name
invariant-loop-name l = record {
  read : l.places.items ≡ filter_map (λ name. place_of name l.schema) (take l.name-index l.names);
  known : find (lacks l.schema) (take l.name-index l.names) ≡ None;
}
