use Rattle.std.proofs.Common.{string_bytes}
use Rattle.std.proofs.lemmas.Map.Text.{hash_map_updates_text}
use Rattle.pl_infer.proofs.NameLaws.{count_of-set}
use Rattle.pl_infer.proofs.header.count_up.Goals as goal

pub returns : goal.returns
returns c =
    let sets = hash_map_updates_text (string_bytes c.in_ok-key.key) c.args.counts.now c.insert.new.self _ c.in_ok-insert.ensures.updates in
    count_of-set c.args.counts.now c.insert.new.self c.args.name.now (rw (c.in_ok-key.ensures.ok, c.count_of-count.ensures) at sets)
