use Rattle.std.proofs.Common.{refl, ◌∙◌, arith, length, drop, None}
use Rattle.std.proofs.lemmas.List.{drop_all}
use Rattle.pl_scan.specs.Dialect.{marks_of}
use Rattle.pl_seek.specs.Places.{record_places}
use Rattle.pl_seek.proofs.GoneLaws.{begun-none, begun-first, begun-next, begun-all}
use Rattle.pl_seek.proofs.places.add_plain.Goals as goal

pub loop-begin-init : goal.loop-begin-init
loop-begin-init c = (
  begun-none (marks_of c.args.dialect.now) c.args.input.now c.args.groups.now c.args.start c.requires.apart c.requires.within c.requires.none,
  c.requires.within,
  refl,
)

pub add_records-requires-clause-gone : goal.add_records-requires-clause-gone
add_records-requires-clause-gone c = (
  record_places (marks_of c.args.dialect.now) None (length c.args.input.now) (drop c.args.start c.args.input.now),
  begun-first (marks_of c.args.dialect.now) c.args.input.now c.loop-begin.groups c.add.new.self _ c.loop-begin.begin c.requires.apart (omega arith) c.in_ok-add.ensures.seen c.loop-begin.invariant.0,
)

pub loop-begin-preserved : goal.loop-begin-preserved
loop-begin-preserved c = (
  begun-next (marks_of c.args.dialect.now) c.args.input.now c.add_records.new.groups _ c.in_ok-last.last c.behind_record-begin.result c.requires.apart c.behind_record-begin.ensures.rest
      (c.in_ok-last.ensures.gone _
      (begun-first (marks_of c.args.dialect.now) c.args.input.now c.loop-begin.groups c.add.new.self _ c.loop-begin.begin c.requires.apart (omega arith) c.in_ok-add.ensures.seen c.loop-begin.invariant.0)),
  c.behind_record-begin.ensures.fits,
  c.in_ok-last.ensures.every ∙ c.in_ok-add.ensures.every ∙ c.loop-begin.invariant.2,
)

pub returns-clause-seen : goal.returns-clause-seen
returns-clause-seen c =
    begun-all (marks_of c.args.dialect.now) c.args.input.now c.loop-begin.groups _ c.loop-begin.begin (drop_all c.loop-begin.begin c.args.input.now (omega arith)) c.loop-begin.invariant.0
