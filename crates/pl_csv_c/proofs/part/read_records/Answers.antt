use Rattle.pl_csv_c.proofs.part.read_records.Goals as goal

pub read_part-requires : goal.read_part-requires
read_part-requires c = c.in-Ok.ensures.can c.args.part.now
