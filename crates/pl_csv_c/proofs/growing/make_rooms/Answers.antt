use Rattle.std.proofs.Common.{◌<◌, [], length, get_or, ◌∙◌, arith}
use Rattle.std.proofs.lemmas.List.{length-set}
use Rattle.pl_csv_c.proofs.GrowingLaws.{AreGrown-at, AreGrown-same}
use Rattle.pl_frame.specs.Frame.{ColumnValue}
use Rattle.pl_frame.specs.declared.data_type.DataType.TheVariants as dtype
use Rattle.pl_csv_c.proofs.growing.make_rooms.Goals as goal

none : ColumnValue
none = record { name = []; dtype = dtype.Null; values = [] }

pub loop-place-preserved : goal.loop-place-preserved
loop-place-preserved c =
    let all = c.loop-place.all in
    let place = c.loop-place.place in
    let inside : place < length all = omega (arith, c.loop-place.invariant.as_many) in
    record {
      as_many = length-set all place c.grow_room.new.growing ∙ c.loop-place.invariant.as_many;
      grown = λ columns are.
          let so_far = c.loop-place.invariant.grown columns are in
          AreGrown-same columns all place none c.grow_room.new.growing so_far inside
          (c.in_ok-grow_room.ensures (get_or columns place none) (AreGrown-at columns all place none c.index-all-place.result so_far inside));
    }
