use Rattle.std.proofs.Common.{◌≡◌, false, None, subst, sym, length}
use Rattle.pl_multi.specs.Joining.{IsJoinFault}
use Rattle.pl_multi.specs.Parts.{end_of}
use Rattle.pl_multi.specs.Printing.{ArePrinted, have_codes}
use Rattle.pl_multi.proofs.PrintingLaws.{printed-joined, printed-whole}
use Rattle.pl_multi.proofs.ScanLaws.{join-fault}
use Rattle.pl_multi.proofs.printing.print_parts.Goals as goal

pub returns-in-Ok-clause-joined : goal.returns-in-Ok-clause-joined
returns-in-Ok-clause-joined g c =
    let holds = g.O.Opener.holds c.args.opener.now in
    let job = c.args.job.now in
    let parts = job.parts.items in
    let write = c.in_ok-write.write in
    let lines = c.in-Ok.lines.items in
    let all : ArePrinted holds job.read write parts (length parts) lines = subst (λ p. ArePrinted holds job.read write p (length p) lines) c.deref.ensures.value c.in-Ok.ensures.lines in
    record {
      frame = all.columns;
      is = printed-joined holds job.read job.slice parts c.requires.sound c.requires.plain write lines all (subst (λ l. have_codes l ≡ false) c.requires.empty c.requires.uncoded);
      text_is = printed-whole holds job.read job.slice parts c.requires.sound c.requires.plain write lines all job.write c.args.empty c.in_ok-write.ensures.cells c.requires.empty;
    }

pub returns-in-Err-clause-refused : goal.returns-in-Err-clause-refused
returns-in-Err-clause-refused g c =
    let holds = g.O.Opener.holds c.args.opener.now in
    let job = c.args.job.now in
    let before = g.O.Opener.faults c.args.opener.now in
    let now = g.O.Opener.faults c.print_each-printed.new.opener in
    let unsliced = c.requires.plain.unsliced in
    join-fault holds before now job.read job.slice job.parts.items c.in-Err.fault c.requires.sound
    (subst (λ s. IsJoinFault holds before now job.read (end_of s) job.parts.items c.in-Err.fault) (sym unsliced)
    (subst (λ p. IsJoinFault holds before now job.read None p c.in-Err.fault) c.deref.ensures.value c.in-Err.ensures.refused))
