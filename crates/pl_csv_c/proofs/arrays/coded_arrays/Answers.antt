use Rattle.std.proofs.Common.{◌++◌, [], map, is_some, ◌∙◌, ap}
use Rattle.pl_csv_c.specs.Arrays.{codes_of}
use Rattle.pl_csv_c.proofs.arrays.coded_arrays.Goals as goal

pub returns : goal.returns
returns c =
    let column = c.args.column.now in
    let first = c.in_ok-make_room.ensures.cells [] c.in_ok-arrays.ensures.cells in
    record {
      present = c.in_ok-put_codes.ensures.flags ∙ ap (λ xs. xs ++ map is_some column.values) first.present;
      numbers = c.in_ok-put_codes.ensures.numbers ∙ ap (λ xs. xs ++ codes_of column) first.numbers;
      words = first.words;
      ends = first.ends;
      bytes = first.bytes;
      categories = c.in_ok-arrays-2.ensures ∙ c.categories.ensures;
    }
