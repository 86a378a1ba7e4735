use Rattle.pl_read.proofs.BatchStepLaws.{opened-is, refused-opening}
use Rattle.pl_csv_c.proofs.starting.start_checked.Goals as goal

pub returns-in-Ok-clause-start : goal.returns-in-Ok-clause-start
returns-in-Ok-clause-start c = record {
  sound = (opened-is c.args.read.now c.args.input.now c.in-Ok.prepared c.requires c.in-Ok.ensures.sound c.in-Ok.ensures.prepared).0;
  within = c.in-Ok.ensures.prepared.within;
  data_is = c.in-Ok.ensures.prepared.data_is;
}

pub returns-in-Err-clause-refused : goal.returns-in-Err-clause-refused
returns-in-Err-clause-refused c = refused-opening c.args.read.now c.args.input.now c.in-Err.fault c.requires c.in-Err.ensures.refused
