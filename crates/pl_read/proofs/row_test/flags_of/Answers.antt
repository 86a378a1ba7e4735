use Rattle.std.proofs.Common.{ℕ, Bool, ◌++◌, ◌∷◌, [], sym, ◌∙◌, ap, map}
use Rattle.std.proofs.lemmas.List.{map-append}
use Rattle.std.specs.List.{range_with_len}
use Rattle.pl_rows.proofs.PlanLaws.{places-more}
use Rattle.pl_read.specs.RowTest.{row_of}
use Rattle.pl_read.proofs.row_test.flags_of.Goals as goal

pub loop-row-preserved : goal.loop-row-preserved
loop-row-preserved g c =
    let wants : ℕ → Bool = λ row. g.P.RowTest.wants c.args.predicate.now (row_of c.args.df.now row) in
    let row = c.loop-row.row in
    c.in_ok-push.ensures.items ∙ ap (λ l. l ++ c.test.result ∷ []) c.loop-row.invariant ∙ ap (λ t. map wants (range_with_len 0 row) ++ t ∷ []) c.test.ensures
    ∙ sym (map-append wants (range_with_len 0 row) (row ∷ [])) ∙ ap (map wants) (sym (places-more row))
