-- Batches that are written one behind the other.
use Rattle.std.proofs.Common.{◌≡◌, ℕ, ◌+◌, ◌<◌, Bool, true, if◌then◌else◌, List, [], ◌∷◌, ◌++◌, length, take, get_or, Option, sym, ◌∙◌, ap, append_assoc, append-nil}
use Rattle.std.specs.Io.KnownBytes.{Appends}
use Rattle.std.specs.List.{flat_map}
use Rattle.std.proofs.lemmas.Grind.{flat_map-append}
use Rattle.std.proofs.lemmas.List.{take_more}
use Rattle.pl_frame.specs.Frame.{ColumnValue}
use Rattle.pl_frame.specs.Schema.{names_in}
use Rattle.pl_text.specs.FrameText.{head_text}
use Rattle.pl_frame.proofs.Known.{Appends-more}
use Rattle.pl_write.specs.Batches.{BatchWriter, all_lines, batch_text, head_to_come}
use Rattle.pl_write.specs.JoinedBatches.{batches_text}
use Rattle.pl_write.specs.Options.{frame_options}

-- what was written, and what of byte order mark and header is to come, are the text of some batches
pub record IsBatching {S : Type 0} (received : S → Option (List ℕ)) (old now : BatchWriter S) (batches : List (List ColumnValue)) : Type 0 where
  pub written : List ℕ
  pub appended : Appends (received old.writer.sink) (received now.writer.sink) written
  pub whole : written ++ head_to_come now ≡ batches_text old batches

-- one batch more
pub IsBatching-more : {S : Type 0} (received : S → Option (List ℕ)) (old now next : BatchWriter S) (batches : List (List ColumnValue)) (i : ℕ) (batch : List ColumnValue) → i < length batches
    → IsBatching received old now (take i batches) → now.writer.options ≡ old.writer.options → next.begun ≡ true
    → Appends (received now.writer.sink) (received next.writer.sink) (batch_text now (get_or batches i batch)) → IsBatching received old next (take (i + 1) batches)
IsBatching-more received old now next batches i batch inside so_far same begun appended =
    let lines = all_lines (frame_options old.writer.options) in
    let item = get_or batches i batch in
    let head = head_to_come old in
    let here : batch_text now item ≡ head_to_come now ++ lines item = ap (λ o. head_to_come now ++ all_lines (frame_options o) item) same in
    let none : head_to_come next ≡ [] = ap (λ (b : Bool). if b then [] else head_text (frame_options next.writer.options) (names_in next.schema)) begun in
    let more : flat_map lines (take (i + 1) batches) ≡ flat_map lines (take i batches) ++ lines item =
    ap (flat_map lines) (take_more batches i batch inside) ∙ flat_map-append lines (take i batches) (item ∷ []) ∙ ap (λ l. flat_map lines (take i batches) ++ l) (append-nil (lines item)) in
    record {
      written = so_far.written ++ batch_text now item;
      appended = Appends-more (received old.writer.sink) (received now.writer.sink) (received next.writer.sink) so_far.written (batch_text now item) so_far.appended appended;
      whole =
          (λ j. (so_far.written ++ here j) ++ none j)
          ∙ append-nil (so_far.written ++ (head_to_come now ++ lines item))
          ∙ sym (append_assoc so_far.written (head_to_come now) (lines item))
          ∙ ap (λ l. l ++ lines item) so_far.whole
          ∙ append_assoc head (flat_map lines (take i batches)) (lines item)
          ∙ ap (λ l. head ++ l) (sym more);
    }
