use Rattle.std.proofs.Common.{List, length, take, ◌-◌, ◌≤◌}
use Rattle.pl_frame.specs.Schema.{Entry}
use Rattle.pl_text.specs.FrameText.{WriteOptions}
use Rattle.pl_rows.specs.declared.plan.RangePlan.{RangePlan}
use Rattle.pl_verbatim.specs.PrintedTexts.{CanPrint, IsFrontPrinted}
use Rattle.pl_verbatim.specs.Verbatim.{IsVerbatimOf}
use Rattle.pl_verbatim.proofs.verbatim.Verbatim.front_alike.Given as goal

abbrev pub invariant-loop-end : goal.invariant-loop-end
invariant-loop-end l = record {
  within : l.end ≤ length l.text;
  few : l.rows ≤ l.end;
  printed : (plan : RangePlan) (schema : List Entry) (o : WriteOptions) → CanPrint plan schema → IsVerbatimOf plan schema o l.self → IsFrontPrinted plan schema o l.text l.end l.rows (take l.end l.text);
}

abbrev pub decreases-loop-end : goal.decreases-loop-end
decreases-loop-end l = length l.text - l.end
