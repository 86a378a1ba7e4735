-- What a run sees of its source and its sinks.
use Rattle.std.specs.Prelude.{ℕ, List, Option}

-- what a sink received, and its counts of faults and of wants
pub record SinkView : Type 0 where
  pub received : Option (List ℕ)
  pub faults : ℕ
  pub wants : ℕ

abbrev pub sink_view : Option (List ℕ) → ℕ → ℕ → SinkView
sink_view received faults wants = record { received = received; faults = faults; wants = wants }

-- what a source has left, and its count of faults
pub record SourceView : Type 0 where
  pub left : Option (List ℕ)
  pub faults : ℕ

abbrev pub source_view : Option (List ℕ) → ℕ → SourceView
source_view left faults = record { left = left; faults = faults }

-- what a run reads from and writes to
pub record Views : Type 0 where
  pub source : SourceView
  pub out : SinkView

abbrev pub views : Option (List ℕ) → ℕ → Option (List ℕ) → ℕ → ℕ → Views
views left source_faults received out_faults out_wants = record {
  source = source_view left source_faults;
  out = sink_view received out_faults out_wants;
}
