use Rattle.std.proofs.Common.{◌≡◌, ℕ, List, Option, None, Some, refl, sym, ◌∙◌, ap, subst, true, false, arith}
use Rattle.std.specs.Prelude.{OnOk, IfErr, is_none, Result}
use Rattle.std.specs.Option.{option_map}
use Rattle.pl_frame.specs.Compression.{is_compressed}
use Rattle.pl_frame.specs.declared.error.NoDataFault.TheVariants as no_data
use Rattle.pl_frame.specs.declared.error.PolarsError.TheVariants as error
use Rattle.pl_read.specs.Refusals.{numbers_past}
use Rattle.pl_stream.specs.Ending.{HasEndText}
use Rattle.pl_stream.specs.Feeding.{finish_cause}
use Rattle.pl_stream.specs.Kept.{error_of}
use Rattle.pl_stream.specs.Printing.{IsRowsFault}
use Rattle.pl_stream.specs.Stream.{Stream, StandsFor, data_at}
use Rattle.pl_stream.specs.declared.fault.StreamFault.{StreamFault}
use Rattle.pl_stream.specs.declared.place.Place.TheVariants as place
use Rattle.pl_stream.proofs.FeedLaws.{none-before}
use Rattle.pl_stream.proofs.EndLaws.{end-compressed, end-skipped, has-end, end-refused}
use Rattle.pl_stream.proofs.StreamingLaws.{accepted-dialect}
use Rattle.pl_stream.proofs.state.StreamState.print_end.Goals as goal

pub returns-then-is_marked-clause-refused : goal.returns-then-is_marked-clause-refused
returns-then-is_marked-clause-refused c =
    let s : Stream = record { read = c.self.inside.read; write = c.self.inside.write; kept = c.self.inside.kept.items; place = c.self.inside.place; rows = c.self.inside.rows; fault = option_map error_of c.self.inside.fault; is_finished = c.self.inside.is_finished } in
    let apart = accepted-dialect s.read s.write c.self.invariant.0 in
    let marked = c.if-is_marked.ensures.yes refl in
    let kept : is_compressed s.kept ≡ true = ap is_compressed (sym c.deref.ensures.value) ∙ marked.1 in
    subst (λ (state : Stream). (bytes : List ℕ) → StandsFor state bytes → IsRowsFault (finish_cause state.read bytes) c.compressed.result) c.self.view_is
    (λ bytes stands. subst (λ (given : StreamFault). IsRowsFault (finish_cause s.read bytes) given) (sym c.compressed.ensures) (end-compressed s bytes apart stands marked.0 kept))

pub returns-in_default-clause-refused : goal.returns-in_default-clause-refused
returns-in_default-clause-refused c =
    let s : Stream = record { read = c.self.inside.read; write = c.self.inside.write; kept = c.self.inside.kept.items; place = c.self.inside.place; rows = c.self.inside.rows; fault = option_map error_of c.self.inside.fault; is_finished = c.self.inside.is_finished } in
    let apart = accepted-dialect s.read s.write c.self.invariant.0 in
    let plain : s.place ≡ place.Start → is_compressed s.kept ≡ false = λ start. ap is_compressed (sym c.deref.ensures.value) ∙ c.if-is_marked.ensures.no refl start in
    let none : data_at s.read s.place s.kept ≡ None = ap (data_at s.read s.place) (sym c.deref-2.ensures.value) ∙ sym c.in_default.ensures in
    subst (λ (state : Stream). (bytes : List ℕ) → StandsFor state bytes → finish_cause state.read bytes ≡ Some (error.NoData no_data.Skip)) c.self.view_is
    (λ bytes stands. end-skipped s bytes apart stands plain none)

pub returns-clause-ended : goal.returns-clause-ended
returns-clause-ended c =
    let s : Stream = record { read = c.self.inside.read; write = c.self.inside.write; kept = c.self.inside.kept.items; place = c.self.inside.place; rows = c.self.inside.rows; fault = option_map error_of c.self.inside.fault; is_finished = c.self.inside.is_finished } in
    let apart = accepted-dialect s.read s.write c.self.invariant.0 in
    let plain : s.place ≡ place.Start → is_compressed s.kept ≡ false = λ start. ap is_compressed (sym c.deref.ensures.value) ∙ c.if-is_marked.ensures.no refl start in
    let told : data_at s.read s.place s.kept ≡ Some c.in-Some.records.now = ap (data_at s.read s.place) (sym c.deref-2.ensures.value) ∙ sym c.in-Some.ensures in
    let numbered : numbers_past s.read.row_index 0 ≡ None = none-before s.read.row_index 0 s.rows (omega arith) c.self.invariant.2 in
    subst (λ (state : Stream). (bytes : List ℕ) → StandsFor state bytes → OnOk c.push_end.result (HasEndText state bytes c.args.text.now.items c.push_end.new.text.items)) c.self.view_is
    (λ bytes stands. has-end s bytes apart stands c.in-Some.records.now plain told numbered c.push_end.result c.args.text.now.items c.push_end.new.text.items c.push_end.ensures.text c.push_end.ensures.sound)

pub returns-clause-refused : goal.returns-clause-refused
returns-clause-refused c =
    let s : Stream = record { read = c.self.inside.read; write = c.self.inside.write; kept = c.self.inside.kept.items; place = c.self.inside.place; rows = c.self.inside.rows; fault = option_map error_of c.self.inside.fault; is_finished = c.self.inside.is_finished } in
    let apart = accepted-dialect s.read s.write c.self.invariant.0 in
    let plain : s.place ≡ place.Start → is_compressed s.kept ≡ false = λ start. ap is_compressed (sym c.deref.ensures.value) ∙ c.if-is_marked.ensures.no refl start in
    let told : data_at s.read s.place s.kept ≡ Some c.in-Some.records.now = ap (data_at s.read s.place) (sym c.deref-2.ensures.value) ∙ sym c.in-Some.ensures in
    let numbered : numbers_past s.read.row_index 0 ≡ None = none-before s.read.row_index 0 s.rows (omega arith) c.self.invariant.2 in
    subst (λ (state : Stream). (bytes : List ℕ) → StandsFor state bytes → IfErr c.push_end.result (IsRowsFault (finish_cause state.read bytes))) c.self.view_is
    (λ bytes stands. end-refused s bytes apart stands c.in-Some.records.now plain told numbered c.push_end.result c.push_end.ensures.refused)
