-- Steps of a state.
use Rattle.std.proofs.Common.{◌≡◌, ℕ, ◌++◌, List, [], ◌∙◌, ap, append-nil, inl, inr}
use Rattle.pl_options.specs.declared.read_options.CsvReadOptions.{CsvReadOptions}
use Rattle.pl_write.specs.declared.options.CsvWriterOptions.{CsvWriterOptions}
use Rattle.pl_stream.specs.Stepping.{IsSettledStep, IsStepped}
use Rattle.pl_stream.specs.declared.place.Place.{Place}
use Rattle.pl_stream.specs.declared.stepping.Step.{Step}

-- what is appended to nothing, appended to a text
settled-behind : (o : CsvReadOptions) (write : CsvWriterOptions) (rows : ℕ) (records : List ℕ) (at : ℕ) (text now : List ℕ) (step : Step) → IsSettledStep o write rows records at [] now step → IsSettledStep o write rows records at text (text ++ now) step
settled-behind o write rows records at text now step is = record {
  whole = is.whole;
  settled = record { front = is.settled.front; sound = is.settled.sound; gained = ap (λ l. text ++ l) is.settled.gained };
  end = is.end;
  few = is.few;
  rows_is = is.rows_is;
  left = is.left;
}

same-behind : (text now : List ℕ) → now ≡ [] → text ++ now ≡ text
same-behind text now none = ap (λ l. text ++ l) none ∙ append-nil text

pub stepped-behind : (o : CsvReadOptions) (write : CsvWriterOptions) (from : Place) (rows : ℕ) (bytes text now : List ℕ) (step : Step) → IsStepped o write from rows bytes [] now step → IsStepped o write from rows bytes text (text ++ now) step
stepped-behind o write from rows bytes text now step (inl (inl is)) = inl (inl (record { few = is.few; is = is.is; same = same-behind text now is.same }))
stepped-behind o write from rows bytes text now step (inl (inr (inl is))) = inl (inr (inl (record {
  within = is.within;
  enough = is.enough;
  plain = is.plain;
  reached = is.reached;
  moved = is.moved;
  stops = is.stops;
  first = is.first;
  still = is.still;
  is = is.is;
  same = same-behind text now is.same;
})))
stepped-behind o write from rows bytes text now step (inl (inr (inr is))) = inl (inr (inr (record { reached = is.reached; out = is.out; settled = settled-behind o write rows _ is.reached.at text now step is.settled })))
stepped-behind o write from rows bytes text now step (inr (inl is)) = inr (inl (record { out = is.out; some = is.some; settled = settled-behind o write rows bytes 0 text now step is.settled }))
stepped-behind o write from rows bytes text now step (inr (inr is)) = inr (inr (record { full = is.full; is = is.is; same = same-behind text now is.same }))
