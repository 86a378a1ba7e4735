use Rattle.std.proofs.Common.{◌++◌, sym, subst}
use Rattle.std.proofs.lemmas.List.{append-nil}
use Rattle.pl_csv_c.proofs.ArrayLaws.{HaveCells-more}
use Rattle.pl_csv_c.specs.Arrays.{HaveCells}
use Rattle.pl_csv_c.specs.declared.kinds.Kind.TheVariants as kind
use Rattle.pl_csv_c.proofs.arrays.put_rows.Goals as goal

pub returns-in_ok-put_texts-in-Texts-clause-cells : goal.returns-in_ok-put_texts-in-Texts-clause-cells
returns-in_ok-put_texts-in-Texts-clause-cells c = λ cells have.
    let more = c.args.column.now.values in
    let old = c.args.arrays.now in
    let now = record old { present = c.put_flags.new.flags; ends = c.put_texts.new.ends; bytes = c.put_texts.new.bytes } in
    subst (λ k. HaveCells k (cells ++ more) now) (sym c.in-Texts.is)
    (HaveCells-more kind.Texts cells more old now (subst (λ k. HaveCells k cells old) c.in-Texts.is have) c.in_ok-put_flags.ensures (sym (append-nil old.numbers.items)) (sym (append-nil old.words.items))
    c.in_ok-put_texts-in-Texts.ensures.bytes c.in_ok-put_texts-in-Texts.ensures.ends)
