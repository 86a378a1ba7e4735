use Rattle.std.proofs.Common.{List, ℕ, ◌≡◌, refl, subst, sym, inr, IfSome, Option}
use Rattle.pl_seek.specs.Files.{IsHeld}
use Rattle.pl_seek.specs.Meaning.{IsMeaning, IsSliceFault}
use Rattle.pl_seek.specs.Run.{IsNoText}
use Rattle.pl_seek.specs.declared.job.SeekJob.TheVariants as job
use Rattle.pl_seek.proofs.SeekRunLaws.{no-text}
use Rattle.pl_seek.proofs.run.slice.Goals as goal

pub returns-in-Err-frame-clause-refused : goal.returns-in-Err-frame-clause-refused
returns-in-Err-frame-clause-refused g c = λ write.
    let holds = g.O.Opener.holds c.args.opener.now in
    let before = g.O.Opener.faults c.args.opener.now in
    let now = g.O.Opener.faults c.read_path-2.new.opener in
    let found = subst (λ (b : List ℕ). IsSliceFault c.args.read.now c.args.start c.args.count c.in-Ok.input.items b c.in-Err-frame.cause) c.deref-2.ensures.value
    (subst (λ (i : List ℕ). IsSliceFault c.args.read.now c.args.start c.args.count i c.deref-2.result.now c.in-Err-frame.cause) c.deref.ensures.value c.in-Err-frame.ensures.refused) in
    let Means = IsMeaning (IsHeld holds) (job.Slice c.args.start c.args.count c.args.path.now c.args.index_path.now c.args.read.now write) in
    subst (IsNoText Means before now) (sym c.refusal_of.ensures)
    (no-text Means before now c.in-Err-frame.cause (λ not. (
      c.in-Ok.input.items,
      c.in-Ok.ensures.bytes,
      inr (
        c.in-Ok.ensures.within,
        (
          c.in-Ok-read_path.bytes.items,
          subst (λ (h : Option (List ℕ)). IfSome h (λ told. c.in-Ok-read_path.bytes.items ≡ told)) (c.read_path.ensures.stays c.args.index_path.now) c.in-Ok-read_path.ensures.bytes,
          inr (c.in-Ok-read_path.ensures.within, (c.in-Err-frame.cause, found, not, refl)),
        ),
      ),
    )))
