use Rattle.std.proofs.Common.{◌++◌, ◌≤◌, ℕ, List}
use Rattle.std.specs.Prelude.{IfSome}
use Rattle.std.specs.List.{concat}
use Rattle.pl_frame.specs.Dialect.{IsDialect}
use Rattle.pl_frame.specs.Schema.{Entry}
use Rattle.pl_scan.specs.Dialect.{marks_of, comment_of}
use Rattle.pl_text.specs.FrameText.{WriteOptions}
use Rattle.pl_rows.specs.declared.plan.RangePlan.{RangePlan}
use Rattle.pl_regions.specs.Arriving.{IsFrontKept, IsPrintedUpTo}
use Rattle.pl_regions.specs.declared.kept.Kept.{Kept}
use Rattle.pl_regions.proofs.line.Line.keep_known.Given as goal

abbrev pub invariant-loop : goal.invariant-loop
invariant-loop g l = record {
  line : (plan : RangePlan) (schema : List Entry) (o : WriteOptions) (text : List ℕ) → IsDialect (marks_of plan.dialect) (comment_of plan.dialect)
      → ((text : List ℕ) (front : Kept) → g.K.Handing.reads text front → IsFrontKept plan schema o text front)
      → IsPrintedUpTo plan schema o text (l.initial.self.left.items ++ concat l.initial.self.pending) l.initial.self.kept
      → IsPrintedUpTo plan schema o text (l.self.left.items ++ concat l.self.pending) l.self.kept;
  few : IfSome l.fn.most (λ most. l.self.kept.rows ≤ most);
}
