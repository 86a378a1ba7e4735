use Rattle.std.proofs.Common.{inl}
use Rattle.pl_read.specs.Options.{settled_schema}
use Rattle.pl_read.proofs.CauseLaws.{refused-early}
use Rattle.pl_csv_c.proofs.ReadLaws.{read-kept, read-refused}
use Rattle.pl_csv_c.proofs.alone.read_kept.Goals as goal

pub returns-in-Ok : goal.returns-in-Ok
returns-in-Ok c =
    let o = c.args.options.now in
    let input = c.args.input.now in
    let result = c.read_checked.result in
    record {
      read = read-kept o (settled_schema o input) input result c.in-Ok.ensures.passed c.read_checked.ensures.kept c.read_checked.ensures.sound;
      refused = read-refused o (settled_schema o input) input result c.in-Ok.ensures.passed c.read_checked.ensures.refused;
    }

pub returns-in-Err-clause-refused : goal.returns-in-Err-clause-refused
returns-in-Err-clause-refused c =
    let o = c.args.options.now in
    let input = c.args.input.now in
    inl (refused-early o (settled_schema o input) input c.in-Err.fault c.in-Err.ensures.refused)
