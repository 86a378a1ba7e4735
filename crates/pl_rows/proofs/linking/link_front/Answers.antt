use Rattle.std.proofs.Common.{sym, ◌∙◌, ap, subst, arith}
use Rattle.std.specs.Prelude.{IfSome, slice_range}
use Rattle.pl_rows.specs.WholePieces.{IsReadApart, IsPieceFrame, IsFrontLinked}
use Rattle.pl_rows.proofs.LinkLaws.{IsFrontLinked-none, piece-columns, IsFrontLinked-more}
use Rattle.pl_rows.proofs.linking.link_front.Goals as goal

pub loop-posted-init : goal.loop-posted-init
loop-posted-init g c = IsFrontLinked-none c.args.plan.now c.args.schema.now c.args.range.now c.args.stacks.now c.requires.empty

pub push_columns-requires : goal.push_columns-requires
push_columns-requires g c =
    let plan = c.args.plan.now in
    let schema = c.args.schema.now in
    let text = c.in-Some-posted.posted.0.text in
    let piece = c.in-Some-read.piece in
    let range = g.K.Reading.range in
    let reads = g.K.Reading.reads in
    let done = c.into_done-from.result in
    let own : IsReadApart range reads text done.from done.to done.read = subst (λ d. IsReadApart range reads text d.from d.to d.read) (sym c.into_done-from.ensures.done) c.into_done-from.ensures.own in
    let framed : IsPieceFrame plan schema text piece = c.requires.meant text piece (subst (λ o. IfSome o (reads text)) c.in-Some-read.is own.read_is) in
    piece-columns plan schema c.args.range.now text c.loop-posted.stacks piece c.loop-posted.rows c.loop-posted.end c.loop-posted.invariant framed

pub loop-posted-preserved : goal.loop-posted-preserved
loop-posted-preserved g c =
    let plan = c.args.plan.now in
    let schema = c.args.schema.now in
    let text = c.in-Some-posted.posted.0.text in
    let piece = c.in-Some-read.piece in
    let range = g.K.Reading.range in
    let reads = g.K.Reading.reads in
    let done = c.into_done-from.result in
    let own : IsReadApart range reads text done.from done.to done.read = subst (λ d. IsReadApart range reads text d.from d.to d.read) (sym c.into_done-from.ensures.done) c.into_done-from.ensures.own in
    let framed : IsPieceFrame plan schema text piece = c.requires.meant text piece (subst (λ o. IfSome o (reads text)) c.in-Some-read.is own.read_is) in
    let more =
    IsFrontLinked-more plan schema c.args.range.now text c.loop-posted.stacks piece c.loop-posted.rows c.loop-posted.end done.from done.to c.in-Some-checked_add.more c.requires.dialect c.loop-posted.invariant framed
    (own.text_is ∙ ap (λ r. slice_range r done.from done.to) c.requires.range) (omega (arith, c.if-from-end.false)) (omega (arith, c.if-to-end.false)) (omega (arith, c.if-to-range.false))
    (omega (arith, c.in-Some-checked_add.ensures)) (sym c.is_below.ensures ∙ c.if-not-is_below.false) in
    subst (λ s. IsFrontLinked plan schema c.args.range.now s c.in-Some-checked_add.more done.to) (sym c.in_ok-push_columns.ensures) more
