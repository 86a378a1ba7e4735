use Rattle.std.proofs.Common.{List, ℕ, Ok, subst, sym}
use Rattle.pl_text.specs.FrameText.{text_of_frame}
use Rattle.pl_write.specs.Options.{frame_options}
use Rattle.pl_csv.specs.Views.{sink_view}
use Rattle.pl_seek.specs.Files.{IsHeld, IsReadAnd}
use Rattle.pl_seek.specs.Meaning.{IsBuildMeaning, IsMeaning}
use Rattle.pl_seek.specs.Run.{IsNoText}
use Rattle.pl_seek.specs.declared.job.SeekJob.{SeekJob}
use Rattle.pl_seek.specs.declared.job.SeekJob.TheVariants as job
use Rattle.pl_seek.proofs.SeekRunLaws.{written-is, unwritten-is, none-unwritten}
use Rattle.pl_seek.proofs.run.write_job.Goals as goal

pub returns-in-Ok-clause-done : goal.returns-in-Ok-clause-done
returns-in-Ok-clause-done g c =
    let holds = g.O.Opener.holds c.args.opener.now in
    let text = c.in-Ok.bytes.items in
    let means = subst (λ (p : List ℕ). IsReadAnd (IsHeld holds) p (IsBuildMeaning c.in-Build.read c.in-Build.every) (Ok text)) c.as_str.ensures c.in-Ok.ensures.bytes in
    written-is c.args.job.now holds c.requires.printable text (subst (λ (j : SeekJob). IsMeaning (IsHeld holds) j (Ok text)) (sym c.in-Build.is) means) _ _ c.write_index.result c.write_index.ensures.text

pub returns-in-Ok-clause-refused : goal.returns-in-Ok-clause-refused
returns-in-Ok-clause-refused g c =
    let holds = g.O.Opener.holds c.args.opener.now in
    let text = c.in-Ok.bytes.items in
    let means = subst (λ (p : List ℕ). IsReadAnd (IsHeld holds) p (IsBuildMeaning c.in-Build.read c.in-Build.every) (Ok text)) c.as_str.ensures c.in-Ok.ensures.bytes in
    unwritten-is c.args.job.now holds c.requires.printable text (subst (λ (j : SeekJob). IsMeaning (IsHeld holds) j (Ok text)) (sym c.in-Build.is) means) (g.O.Opener.faults c.args.opener.now) (g.O.Opener.faults c.build.new.opener)
    (sink_view (g.Si.Sink.received c.args.out.now) (g.Si.Sink.faults c.args.out.now) (g.Si.Sink.wants c.args.out.now))
    (sink_view (g.Si.Sink.received c.write_index.new.out) (g.Si.Sink.faults c.write_index.new.out) (g.Si.Sink.wants c.write_index.new.out)) c.write_index.result c.write_index.ensures.refused

pub returns-in-Ok-slice-clause-done : goal.returns-in-Ok-slice-clause-done
returns-in-Ok-slice-clause-done g c =
    let holds = g.O.Opener.holds c.args.opener.now in
    let s = c.in-Slice in
    let text = text_of_frame (frame_options s.write) c.in-Ok-slice.frame in
    let means = subst (λ (p : List ℕ). IsMeaning (IsHeld holds) (job.Slice s.start s.count s.path p s.read s.write) (Ok text)) c.as_str-index_path.ensures
    (subst (λ (p : List ℕ). IsMeaning (IsHeld holds) (job.Slice s.start s.count p c.as_str-index_path.result.now s.read s.write) (Ok text)) c.as_str-path.ensures (c.in-Ok-slice.ensures.frame s.write)) in
    written-is c.args.job.now holds c.requires.printable text (subst (λ (j : SeekJob). IsMeaning (IsHeld holds) j (Ok text)) (sym s.is) means) _ _ c.write_slice.result c.write_slice.ensures.text

pub returns-in-Ok-slice-clause-refused : goal.returns-in-Ok-slice-clause-refused
returns-in-Ok-slice-clause-refused g c =
    let holds = g.O.Opener.holds c.args.opener.now in
    let s = c.in-Slice in
    let text = text_of_frame (frame_options s.write) c.in-Ok-slice.frame in
    let means = subst (λ (p : List ℕ). IsMeaning (IsHeld holds) (job.Slice s.start s.count s.path p s.read s.write) (Ok text)) c.as_str-index_path.ensures
    (subst (λ (p : List ℕ). IsMeaning (IsHeld holds) (job.Slice s.start s.count p c.as_str-index_path.result.now s.read s.write) (Ok text)) c.as_str-path.ensures (c.in-Ok-slice.ensures.frame s.write)) in
    unwritten-is c.args.job.now holds c.requires.printable text (subst (λ (j : SeekJob). IsMeaning (IsHeld holds) j (Ok text)) (sym s.is) means) (g.O.Opener.faults c.args.opener.now) (g.O.Opener.faults c.slice.new.opener)
    (sink_view (g.Si.Sink.received c.args.out.now) (g.Si.Sink.faults c.args.out.now) (g.Si.Sink.wants c.args.out.now))
    (sink_view (g.Si.Sink.received c.write_slice.new.out) (g.Si.Sink.faults c.write_slice.new.out) (g.Si.Sink.wants c.write_slice.new.out)) c.write_slice.result c.write_slice.ensures.refused

pub returns-in-Err-slice-clause-refused : goal.returns-in-Err-slice-clause-refused
returns-in-Err-slice-clause-refused g c =
    let holds = g.O.Opener.holds c.args.opener.now in
    let before = g.O.Opener.faults c.args.opener.now in
    let now = g.O.Opener.faults c.slice.new.opener in
    let s = c.in-Slice in
    let given = c.in-Err-slice.refusal in
    let none = subst (λ (p : List ℕ). IsNoText (IsMeaning (IsHeld holds) (job.Slice s.start s.count s.path p s.read s.write)) before now given) c.as_str-index_path.ensures
    (subst (λ (p : List ℕ). IsNoText (IsMeaning (IsHeld holds) (job.Slice s.start s.count p c.as_str-index_path.result.now s.read s.write)) before now given) c.as_str-path.ensures (c.in-Err-slice.ensures.refused s.write)) in
    none-unwritten c.args.job.now holds before now _ given c.requires.printable (subst (λ (j : SeekJob). IsNoText (IsMeaning (IsHeld holds) j) before now given) (sym s.is) none)
