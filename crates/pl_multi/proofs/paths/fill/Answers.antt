use Rattle.std.proofs.Common.{rules, ◌≡◌, ◌++◌, take, refl, sym, ◌∙◌, ap, subst, arith, append-nil}
use Rattle.std.specs.Io.KnownBytes.{Consumes}
use Rattle.std.proofs.lemmas.Slice.{take-put_mid_below}
use Rattle.pl_frame.proofs.Known.{Consumes-nil, Consumes-append}
use Rattle.pl_multi.proofs.PathLaws.{take-filled}
use Rattle.pl_multi.proofs.paths.fill.Goals as goal

pub loop-to-init : goal.loop-to-init
loop-to-init g c = record {
  inside = omega arith;
  came = Consumes-nil (g.So.Source.left c.args.source.now);
  later = omega arith;
}

pub returns-then-count-eq0-clause-bytes : goal.returns-then-count-eq0-clause-bytes
returns-then-count-eq0-clause-bytes g c =
    let came = take c.loop-to.to c.loop-to.bytes in
    let more : Consumes (g.So.Source.left c.args.source.now) (g.So.Source.left c.read.new.self) (came ++ take c.in-Ok.count c.read.new.buf) =
    Consumes-append _ _ _ came (take c.in-Ok.count c.read.new.buf) c.loop-to.invariant.came c.in-Ok.ensures.bytes.0 in
    let none : came ++ take c.in-Ok.count c.read.new.buf ≡ came = ap (λ n. came ++ take n c.read.new.buf) c.if-count-eq0.true ∙ append-nil came in
    let same = take-put_mid_below c.loop-to.to _ c.loop-to.bytes c.read.new.buf c.loop-to.to (omega arith) c.loop-to.invariant.inside in
    subst (Consumes _ _) (none ∙ sym same) more

pub loop-to-preserved : goal.loop-to-preserved
loop-to-preserved g c =
    let i = c.loop-to.invariant in
    record {
      inside = search rules;
      came = subst (Consumes _ _) (sym (take-filled c.loop-to.to _ c.in-Ok.count c.loop-to.bytes c.read.new.buf i.inside c.in-Ok.ensures.bound.0))
          (Consumes-append _ _ _ _ _ i.came c.in-Ok.ensures.bytes.0);
      later = omega arith;
    }
