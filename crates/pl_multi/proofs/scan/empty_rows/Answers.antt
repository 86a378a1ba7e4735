use Rattle.std.proofs.Common.{◌∙◌, ◌<◌, ℕ, List, length, sym, subst}
use Rattle.std.specs.Prelude.{slice_index}
use Rattle.pl_frame.specs.Schema.{Entry}
use Rattle.pl_read.specs.SettleGiven.{given_schema}
use Rattle.pl_read.proofs.ProjectionLaws.{projected-below}
use Rattle.pl_multi.proofs.scan.empty_rows.Goals as goal

pub empty_stacks-requires : goal.empty_stacks-requires
empty_stacks-requires c =
    let o = c.args.read.now in
    let places = c.deref.result.now in
    subst (λ (s : List Entry). (k : ℕ) → k < length places → slice_index places k < length s) (sym c.requires.settled)
    (projected-below o (given_schema o) places (c.deref.ensures.value ∙ c.requires.places))
