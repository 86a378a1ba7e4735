-- A box of a `KeptFrame`, from the heap of the C library, under the short names of the kit's walks.
use Rattle.std.proofs.Common.{[], ◌∷◌}
use mir.Syntax.{impl, tnil, tcons, dnil}
use mir.Raw.{raw}
use mathlib.Core.Path.{refl}
use denote.Exit.{no}
use denote.RattleType.{RattleType}
use denote.Param.{layout, arg}
use denote.Param.Laws.{Laws, arg_laws}
use Rattle.std.proofs.BoxSteps.Form.{Bx}
use Rattle.std.specs.contracts.alloc.Global as Heap
use Rattle.std.specs.contracts.impls.GlobalAllocator.TheImpl.{ghosts, dict}
use Rattle.std.proofs.alloc.Global.TheLaws as heap
use Rattle.pl_csv_c.specs.contracts.kept.KeptFrame as Frame
use Rattle.pl_csv_c.proofs.kept.KeptFrame.TheLaws as frame

-- the two types as a call passes them
abbrev pub Inner : RattleType
Inner = arg (raw (layout Frame.the_row)) no Frame.the_row

abbrev pub Handle : RattleType
Handle = arg (raw (layout Heap.the_row)) no Heap.the_row

abbrev pub inner_laws : Laws Inner
inner_laws = arg_laws (raw (layout Frame.the_row)) no Frame.the_row frame.the_row_laws refl

abbrev pub handle_laws : Laws Handle
handle_laws = arg_laws (raw (layout Heap.the_row)) no Heap.the_row heap.the_row_laws refl

abbrev pub E : Bx
E = record { row = Inner; laws = inner_laws; al = record { row = Handle; laws = handle_laws; g = ghosts; d = dict; drops = impl ("pl_csv_c::Destruct++none::drop" ∷ []) (tcons (layout Handle) tnil) dnil } }
