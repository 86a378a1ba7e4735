use Rattle.std.proofs.Common.{rules, ◌<◌, length, ◌++◌, ◌∙◌, ap, refl, arith}
use Rattle.pl_csv_c.proofs.ArrayLaws.{flat_more, ends_more}
use Rattle.pl_csv_c.specs.Arrays.{letters_in}
use Rattle.pl_csv_c.proofs.put_texts.put_each.Goals as goal

pub loop-row-preserved : goal.loop-row-preserved
loop-row-preserved c =
    let values = c.args.column.now.values in
    let within : c.loop-row.row < length values = omega arith in
    let bytes = flat_more letters_in values c.loop-row.row _ _ _ within c.loop-row.invariant.bytes
    (c.in_ok-extend_from_slice.ensures.items ∙ ap (λ text. c.loop-row.bytes.items ++ text) (c.as_bytes.ensures.value ∙ c.letters_in.ensures ∙ ap letters_in c.get.ensures)) in
    record {
      bytes = bytes;
      ends = ends_more values c.loop-row.row _ _ _ _ c.args.bytes.now.items _ within refl bytes c.loop-row.invariant.ends (search rules);
    }
