use Rattle.std.proofs.Common.{◌++◌, ◌∷◌, [], true, replicate, ◌∙◌, ap, arith, append_assoc}
use Rattle.std.proofs.lemmas.List.{replicate_more}
use Rattle.pl_csv_c.proofs.put_cells.put_set_flags.Goals as goal

pub loop-row-preserved : goal.loop-row-preserved
loop-row-preserved c =
    let old = c.args.flags.now.items in
    record {
      items = c.push_reserved.ensures.items ∙ ap (λ xs. xs ++ true ∷ []) c.loop-row.invariant.items ∙ append_assoc old (replicate c.loop-row.row true) (true ∷ [])
          ∙ ap (λ xs. old ++ xs) (replicate_more c.loop-row.row true);
      room = omega (arith, c.push_reserved.ensures.len, c.push_reserved.ensures.capacity, c.loop-row.invariant.room);
    }
