use Rattle.pl_seek.proofs.SeekRunLaws.{from-fault, format-fault, on-ok, slice-fault}
use Rattle.pl_seek.proofs.run.slice_by.Goals as goal

pub returns-in-Err-clause-refused : goal.returns-in-Err-clause-refused
returns-in-Err-clause-refused c =
    format-fault c.args.read.now c.args.start c.args.count c.args.input.now c.args.bytes.now c.in-Err.cause (from-fault _ c.args.bytes.now c.in-Err.cause c.in-Err.ensures.read c.in-Err.ensures.refused)

pub returns-clause-bound : goal.returns-clause-bound
returns-clause-bound c =
    on-ok c.slice-frame.result (record {
      index = c.in-Ok.index;
      is = c.in-Ok.ensures.found.0;
      bytes_are = c.in-Ok.ensures.found.1;
      may = c.in-Ok-bind.ensures.may;
      own = c.in-Ok-bind.ensures.same;
    })

pub returns-clause-refused : goal.returns-clause-refused
returns-clause-refused c =
    slice-fault c.args.read.now c.args.start c.args.count c.args.input.now c.args.bytes.now c.in-Ok.index.every c.in-Ok-bind.bound c.slice-frame.result c.in-Ok-bind.ensures.bound
    (record {
      index = c.in-Ok.index;
      is = c.in-Ok.ensures.found.0;
      bytes_are = c.in-Ok.ensures.found.1;
      may = c.in-Ok-bind.ensures.may;
      own = c.in-Ok-bind.ensures.same;
    })
    c.slice-frame.ensures.refused
