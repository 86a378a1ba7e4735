-- Laws of calls: why they refuse, and what they hand out.
use Rattle.std.proofs.Common.{◌≡◌, ℕ, ◌-◌, ◌<◌, List, Bor, [], ◌∷◌, ◌++◌, length, map, take, get_or, Some, Result, Ok, Err, refl, sym, ◌∙◌, ap, subst, arith, inl, inr, length-append}
use Rattle.std.specs.Prelude.{IfOk, IfErr}
use lib.ListN.{get_or-map}
use lib.Seq.{take-append_seam}
use Rattle.std.proofs.lemmas.List.{length-map}
use Rattle.std.proofs.lemmas.Option.{slice_get-get_or}
use Rattle.pl_csv.specs.Telling.{status_of}
use Rattle.pl_csv.specs.declared.run.Refusal.{Refusal}
use Rattle.pl_csv.specs.declared.run.Refusal.TheVariants as refusal
use Rattle.pl_csv_c.specs.Fault.{IsRefusedAs}
use Rattle.pl_csv_c.specs.Given.{IsNoText, IsUnasked}
use Rattle.pl_csv_c.specs.Handing.{IsHandedOut, MayRefuse}
use Rattle.pl_csv_c.specs.Part.{IsKeptPart, IsPartReadInto, IsPartUnread}
use Rattle.pl_csv_c.specs.Reading.{IsKeptRead, IsReadInto, IsUnread}
use Rattle.pl_csv_c.specs.Views.{AreKept, IsFrameKept, HasShape}
use Rattle.pl_csv_c.specs.declared.kept.KeptColumn.{KeptColumn}
use Rattle.pl_csv_c.specs.declared.kept.KeptFrame.{KeptFrame}
use Rattle.pl_csv_c.specs.declared.views.ColumnView.{ColumnView}
use Rattle.pl_csv_c.specs.declared.views.FrameView.{FrameView}
use Rattle.pl_frame.proofs.OptionalLaws.{AllUtf8-at}
use Rattle.pl_frame.specs.Frame.{ColumnValue}
use Rattle.pl_frame.specs.declared.error.ComputeFault.TheVariants as compute_fault
use Rattle.pl_frame.specs.declared.error.NamePlace.TheVariants as name_place
use Rattle.pl_frame.specs.declared.error.NoDataFault.TheVariants as no_data
use Rattle.pl_frame.specs.declared.error.OpFault.TheVariants as op_fault
use Rattle.pl_frame.specs.declared.error.PolarsError.TheVariants as error

-- ---- statuses and lines

-- no refusal has the status 0
pub some-status : (given : Refusal) → status_of given ≡ 0 → ⊥
some-status refusal.Words e = omega arith
some-status refusal.Source e = omega arith
some-status refusal.TooLong e = omega arith
some-status (refusal.Polars error.IO) e = omega arith
some-status (refusal.Polars error.OutOfMemory) e = omega arith
some-status (refusal.Polars (error.InvalidOperation op_fault.Dialect)) e = omega arith
some-status (refusal.Polars (error.InvalidOperation op_fault.Option)) e = omega arith
some-status (refusal.Polars (error.InvalidOperation (op_fault.Overrides given columns))) e = omega arith
some-status (refusal.Polars (error.ComputeError compute_fault.Quote)) e = omega arith
some-status (refusal.Polars (error.ComputeError compute_fault.Compressed)) e = omega arith
some-status (refusal.Polars (error.ComputeError (compute_fault.Dtype column))) e = omega arith
some-status (refusal.Polars (error.ComputeError (compute_fault.Record row column kind))) e = omega arith
some-status (refusal.Polars (error.ComputeError (compute_fault.Index offset rows))) e = omega arith
some-status (refusal.Polars (error.NoData no_data.Empty)) e = omega arith
some-status (refusal.Polars (error.NoData no_data.Skip)) e = omega arith
some-status (refusal.Polars (error.Duplicate name name_place.Schema)) e = omega arith
some-status (refusal.Polars (error.Duplicate name name_place.Projection)) e = omega arith
some-status (refusal.Polars (error.ColumnNotFound name)) e = omega arith
some-status (refusal.Polars (error.OutOfBounds index length)) e = omega arith
some-status (refusal.Polars error.EmptyProjection) e = omega arith

-- what stands in front of the last byte
pub front-is : (xs text : List ℕ) (b : ℕ) → text ≡ xs ++ b ∷ [] → take (length text - 1) text ≡ xs
front-is xs text b e =
    let size : length text - 1 ≡ length xs = omega (arith, ap length e, length-append xs (b ∷ [])) in
    (λ j. take (size j) (e j)) ∙ take-append_seam xs (b ∷ [])

-- a refusal for a cause is one for a weaker cause
pub weaker : (P Q : Refusal → Type 0) (status : ℕ) (old new : List ℕ) (len : ℕ) → ((given : Refusal) → P given → Q given) → IsRefusedAs P status old new len → IsRefusedAs Q status old new len
weaker P Q status old new len h is = record { given = is.given; cause = h is.given is.cause; status_is = is.status_is; line = is.line }

-- ---- words

-- a word that is no text bars all
pub bars : (words : List (Bor (List ℕ))) (i : ℕ) (d : Bor (List ℕ)) (given : Refusal) → i < length words → IsNoText ((get_or words i d).now) given → IsUnasked (map (λ (word : Bor (List ℕ)). word.now) words) given
bars words i d refusal.Words within wrong = λ asked asks.
    let texts : List (List ℕ) = map (λ (word : Bor (List ℕ)). word.now) words in
    let inside : i < length texts = omega (arith, within, length-map words (λ (word : Bor (List ℕ)). word.now)) in
    wrong (AllUtf8-at texts i (get_or words i d).now asks.utf8 (slice_get-get_or texts i d.now inside ∙ ap Some (get_or-map (λ (word : Bor (List ℕ)). word.now) words i d)))
bars words i d (refusal.Polars fault) within wrong = wrong
bars words i d refusal.Source within wrong = wrong
bars words i d refusal.TooLong within wrong = wrong

-- ---- frames that are handed out

-- as many views as columns
views-count : (columns : List ColumnValue) (kept : List KeptColumn) (views : List ColumnView) → AreKept columns kept views → length views ≡ length columns
views-count [] [] [] all = refl
views-count [] [] (w ∷ ws) all = absurd all
views-count [] (o ∷ os) ws all = absurd all
views-count (c ∷ cs) [] ws all = absurd all
views-count (c ∷ cs) (o ∷ os) [] all = absurd all
views-count (c ∷ cs) (o ∷ os) (w ∷ ws) all = let rest = views-count cs os ws all.2 in omega (arith, rest)

shape-of : (frame : List ColumnValue) (kept : KeptFrame) (view : FrameView) → IsFrameKept frame kept → (view.width ≡ length kept.views.items) × (view.height ≡ kept.height) → HasShape view frame
shape-of frame kept view is handed = record { width_is = handed.0 ∙ views-count frame kept.columns.items kept.views.items is.columns_are; height_is = handed.1 ∙ is.height_is }

pub read-into : (words : List (List ℕ)) (input : List ℕ) (read : Result KeptFrame Refusal) (view : FrameView) → IfOk read (IsKeptRead words input) → IsHandedOut read view → IsReadInto words input view
read-into words input (Ok kept) view is handed = record { frame = is.frame; means = is.means; shape = shape-of is.frame kept view is.is handed }
read-into words input (Err given) view is handed = absurd handed

pub unread : (words : List (List ℕ)) (input : List ℕ) (read : Result KeptFrame Refusal) → IfErr read (IsUnread words input) → (told : Refusal) → MayRefuse read told → IsUnread words input told
unread words input (Ok kept) is told may = subst (IsUnread words input) (sym may) (inl refl)
unread words input (Err given) is told (inl same) = subst (IsUnread words input) (sym same) is
unread words input (Err given) is told (inr memory) = subst (IsUnread words input) (sym memory) (inl refl)

pub part-into : (words : List (List ℕ)) (part : List ℕ) (skip count : ℕ) (read : Result KeptFrame Refusal) (view : FrameView) → IfOk read (IsKeptPart words part skip count) → IsHandedOut read view → IsPartReadInto words part skip count view
part-into words part skip count (Ok kept) view is handed = record { frame = is.frame; means = is.means; shape = shape-of is.frame kept view is.is handed }
part-into words part skip count (Err given) view is handed = absurd handed

pub part-unread : (words : List (List ℕ)) (part : List ℕ) (skip count : ℕ) (read : Result KeptFrame Refusal) → IfErr read (IsPartUnread words part skip count) → (told : Refusal) → MayRefuse read told → IsPartUnread words part skip count told
part-unread words part skip count (Ok kept) is told may = subst (IsPartUnread words part skip count) (sym may) (inl refl)
part-unread words part skip count (Err given) is told (inl same) = subst (IsPartUnread words part skip count) (sym same) is
part-unread words part skip count (Err given) is told (inr memory) = subst (IsPartUnread words part skip count) (sym memory) (inl refl)
