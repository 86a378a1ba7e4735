-- The rows of a text without comments, one after another.
use Rattle.std.proofs.Common.{◌≡◌, ℕ, ◌+◌, ◌<◌, ◌==◌, List, [], ◌∷◌, length, take, drop, None, ◌∙◌, ap}
use Rattle.std.specs.List.{filter_map}
use Rattle.std.proofs.lemmas.List.{length-take-le}
use Rattle.pl_frame.specs.Dialect.{Marks, AreDistinct}
use Rattle.pl_scan.specs.Fields.{fields, extent}
use Rattle.pl_scan.proofs.ItemLaws.{IsRecordAt-extent, items_behind-nil, items_behind-step}
use Rattle.pl_scan.proofs.RecordLaws.{fields-text}
use Rattle.pl_table.specs.Rows.{row_at, row_of, rows}

pub rows-nil : (m : Marks) → rows m None [] ≡ []
rows-nil m = ap (filter_map (row_of m)) (items_behind-nil m None)

-- the length of the record at the front
pub record-length : (m : Marks) (b : List ℕ) → length (take (extent m b) b) ≡ extent m b
record-length m b = length-take-le (extent m b) b (IsRecordAt-extent m b).fits

pub rows-step : (m : Marks) (b : List ℕ) → AreDistinct m → 0 < length b → rows m None b ≡ row_at m b ∷ rows m None (drop (extent m b + 1) b)
rows-step m b distinct some =
    ap (filter_map (row_of m)) (items_behind-step m None b some)
    ∙ ap (λ k. record { fields = fields m (take (extent m b) b); is_end = length (drop k b) == 0 } ∷ rows m None (drop (k + 1) b)) (record-length m b)
    ∙ ap (λ fs. record { fields = fs; is_end = length (drop (extent m b) b) == 0 } ∷ rows m None (drop (extent m b + 1) b)) (fields-text m b distinct)
