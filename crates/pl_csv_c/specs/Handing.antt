-- What a call hands out that reads a frame, or why it does not.
use Rattle.std.specs.Prelude.{◌≡◌, ◌⊎◌, length, Result, Ok, Err}
use Rattle.pl_csv.specs.declared.run.Refusal.{Refusal}
use Rattle.pl_csv.specs.declared.run.Refusal.TheVariants as refusal
use Rattle.pl_csv_c.specs.declared.kept.KeptFrame.{KeptFrame}
use Rattle.pl_csv_c.specs.declared.views.FrameView.{FrameView}
use Rattle.pl_frame.specs.declared.error.PolarsError.TheVariants as error

-- a frame was read, and its view has as many columns and rows
abbrev pub IsHandedOut : Result KeptFrame Refusal → FrameView → Type 0
IsHandedOut (Ok kept) view = (view.width ≡ length kept.views.items) × (view.height ≡ kept.height)
IsHandedOut (Err given) view = ⊥

-- why nothing is handed out: that for which nothing was read, or want of memory
abbrev pub MayRefuse : Result KeptFrame Refusal → Refusal → Type 0
MayRefuse (Ok kept) told = told ≡ refusal.Polars error.OutOfMemory
MayRefuse (Err given) told = (told ≡ given) ⊎ (told ≡ refusal.Polars error.OutOfMemory)
