use Rattle.std.proofs.Common.{rules, refl, ◌∙◌}
use Rattle.std.proofs.lemmas.List.{nil_from_length}
use Rattle.pl_scan.specs.Dialect.{marks_of, comment_of}
use Rattle.pl_seek.proofs.PlaceLaws.{come-more, come-all}
use Rattle.pl_seek.proofs.places.add_items.Goals as goal

pub loop-rest-preserved : goal.loop-rest-preserved
loop-rest-preserved c = (
  come-more (marks_of c.args.dialect.now) (comment_of c.args.dialect.now) c.args.input.now c.args.start c.loop-rest.groups c.add_unless.new.self c.loop-rest.rest.now c.behind_item-rest.result.now
      c.front_item-is_comment.result.0 c.front_item-is_comment.result.1 _ (search rules) c.front_item-is_comment.ensures.comment c.front_item-is_comment.ensures.len refl c.behind_item-rest.ensures
      c.in_ok-add_unless.ensures.seen c.loop-rest.invariant.0,
  c.in_ok-add_unless.ensures.every ∙ c.loop-rest.invariant.1,
)

pub returns-clause-seen : goal.returns-clause-seen
returns-clause-seen c =
    come-all (marks_of c.args.dialect.now) (comment_of c.args.dialect.now) c.args.input.now c.args.start c.loop-rest.groups c.loop-rest.rest.now (nil_from_length c.loop-rest.rest.now (search rules)) c.loop-rest.invariant.0
