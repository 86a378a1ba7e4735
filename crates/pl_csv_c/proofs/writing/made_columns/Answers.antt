use Rattle.std.proofs.Common.{◌++◌, ◌∷◌, [], map, take, sym, ◌∙◌, ap}
use Rattle.std.proofs.lemmas.List.Elements.{All-more}
use Rattle.pl_csv_c.specs.HostColumns.{host_column, IsSound}
use Rattle.pl_csv_c.proofs.HostLaws.{map-take-more}
use Rattle.pl_csv_c.proofs.writing.made_columns.Goals as goal

pub loop-place-preserved : goal.loop-place-preserved
loop-place-preserved c =
    let hosts = c.args.hosts.now in
    let place = c.loop-place.place in
    let inv = c.loop-place.invariant in
    record {
      columns_are =
          c.in-Ok-push.ensures.pushed
          ∙ ap (λ l. l ++ c.in-Ok.column ∷ []) inv.columns_are
          ∙ ap (λ x. map host_column (take place hosts) ++ x ∷ []) c.in-Ok.ensures.column
          ∙ sym (map-take-more host_column hosts place _ c.loop-place-test.true);
      sound = All-more IsSound hosts place _ c.loop-place-test.true inv.sound c.in-Ok.ensures.sound;
    }
