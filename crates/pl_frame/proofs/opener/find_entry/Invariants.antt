use Rattle.std.proofs.Common.{◌≡◌, drop}
use Rattle.pl_frame.specs.Opening.{entries_of, held}
use Rattle.pl_frame.proofs.opener.find_entry.Given as goal

abbrev pub invariant-loop-entry : goal.invariant-loop-entry
invariant-loop-entry l = held (entries_of (drop l.entry-index l.entries)) l.path ≡ held (entries_of l.entries) l.path
