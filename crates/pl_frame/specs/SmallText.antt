-- How a short text is held.
use Rattle.std.specs.Prelude.{ℕ, List, string_bytes}
use Rattle.std.specs.Arc.{arc_str_bytes}
use Rattle.pl_frame.specs.declared.name.Held.{Held}
use Rattle.pl_frame.specs.declared.name.Held.TheVariants as held

-- its bytes
abbrev pub held_bytes : Held → List ℕ
held_bytes (held.Alone text) = string_bytes text
held_bytes (held.Shared text) = arc_str_bytes text
