use Rattle.std.proofs.Common.{◌≡◌, ◌∙◌, ◌+◌, refl, sym, ap, subst, arith, true, false}
use Rattle.pl_frame.specs.Frame.{height_of}
use Rattle.pl_frame.specs.FrameParts.{schema_of, HaveSameColumns}
use Rattle.pl_options.specs.declared.read_options.CsvReadOptions.{CsvReadOptions}
use Rattle.pl_read.specs.Refusals.{is_zero}
use Rattle.pl_read.specs.SettleGiven.{given_schema}
use Rattle.pl_multi.specs.Joining.{AreJoined}
use Rattle.pl_multi.specs.Scan.{part_options, part_rows, wanted_behind}
use Rattle.pl_multi.proofs.JoinedLaws.{joined-none, joined-all, joined-some, joined-step, fault-step}
use Rattle.pl_multi.proofs.RowsLaws.{height-none, same-part, same-names, height-behind}
use Rattle.pl_multi.proofs.joining.join_each.Goals as goal

pub loop-place-init : goal.loop-place-init
loop-place-init g c =
    let read = c.args.read.now in
    let parts = c.args.parts.now in
    record {
      joined = subst (AreJoined (g.O.Opener.holds c.args.opener.now) read c.args.end parts 0) (sym c.requires.empty) (joined-none (g.O.Opener.holds c.args.opener.now) read c.args.end parts);
      frame = c.requires.frame;
      same = refl;
      counted = sym (ap height_of c.requires.empty ∙ height-none read parts);
      options_are = c.requires.options;
      within = omega arith;
      later = omega arith;
      stays = λ other. refl;
    }

pub returns-then-has_enough-clause-joined : goal.returns-then-has_enough-clause-joined
returns-then-has_enough-clause-joined g c =
    let l = c.loop-place.invariant in
    let enough : is_zero (wanted_behind c.args.end (height_of c.loop-place.stacks)) ≡ true =
    ap (λ r. is_zero (wanted_behind c.args.end r)) (sym l.counted) ∙ ap is_zero (sym c.wanted_behind-wanted.ensures) ∙ sym c.has_enough.ensures ∙ c.if-has_enough.true in
    joined-some _ c.args.read.now c.args.end c.args.parts.now c.loop-place.place c.loop-place.stacks l.joined enough

pub join_part-requires-clause-same : goal.join_part-requires-clause-same
join_part-requires-clause-same g c κs inside bytes =
    let l = c.loop-place.invariant in
    let read = c.args.read.now in
    let parts = c.args.parts.now in
    let part = c.index-parts-place.result in
    let names = same-names parts c.loop-place.place part c.requires.others c.loop-place-test.true c.index-parts-place.is in
    let is = ap (λ (o : CsvReadOptions). record o { n_rows = c.wanted_behind-wanted.result }) l.options_are in
    subst (λ (o : CsvReadOptions). HaveSameColumns c.loop-place.stacks (part_rows o (given_schema o) (part, bytes))) (sym is)
    (sym l.same ∙ ap schema_of c.requires.empty ∙ same-part read parts c.wanted_behind-wanted.result part bytes names)

pub returns-in-Err-clause-refused : goal.returns-in-Err-clause-refused
returns-in-Err-clause-refused g c =
    let l = c.loop-place.invariant in
    let read = c.args.read.now in
    let end = c.args.end in
    let stacks = c.loop-place.stacks in
    let rows : c.wanted_behind-wanted.result ≡ wanted_behind end (height_of stacks) = c.wanted_behind-wanted.ensures ∙ ap (wanted_behind end) l.counted in
    let wanted : is_zero (wanted_behind end (height_of stacks)) ≡ false = ap is_zero (sym rows) ∙ sym c.has_enough.ensures ∙ c.if-has_enough.false in
    let is = ap (λ (o : CsvReadOptions). record o { n_rows = c.wanted_behind-wanted.result }) l.options_are ∙ ap (part_options read) rows in
    fault-step (g.O.Opener.holds c.args.opener.now) (g.O.Opener.holds c.loop-place.opener) l.stays read end c.args.parts.now c.loop-place.place stacks l.joined
    c.index-parts-place.result c.loop-place-test.true c.index-parts-place.is wanted _ is
    (g.O.Opener.faults c.args.opener.now) (g.O.Opener.faults c.loop-place.opener) (g.O.Opener.faults c.join_part.new.opener) c.in-Err.fault l.later c.in-Err.ensures.refused

pub loop-place-preserved : goal.loop-place-preserved
loop-place-preserved g c =
    let l = c.loop-place.invariant in
    let read = c.args.read.now in
    let end = c.args.end in
    let parts = c.args.parts.now in
    let stacks = c.loop-place.stacks in
    let part = c.index-parts-place.result in
    let joined = c.in-Ok.ensures.joined in
    let rows : c.wanted_behind-wanted.result ≡ wanted_behind end (height_of stacks) = c.wanted_behind-wanted.ensures ∙ ap (wanted_behind end) l.counted in
    let wanted : is_zero (wanted_behind end (height_of stacks)) ≡ false = ap is_zero (sym rows) ∙ sym c.has_enough.ensures ∙ c.if-has_enough.false in
    let here = ap (λ (o : CsvReadOptions). record o { n_rows = c.wanted_behind-wanted.result }) l.options_are in
    let names = same-names parts c.loop-place.place part c.requires.others c.loop-place-test.true c.index-parts-place.is in
    let same = subst (λ (o : CsvReadOptions). HaveSameColumns stacks (part_rows o (given_schema o) (part, joined.bytes))) (sym here)
    (sym l.same ∙ ap schema_of c.requires.empty ∙ same-part read parts c.wanted_behind-wanted.result part joined.bytes names) in
    let mine = l.later in
    let its = c.join_part.ensures.later in
    record {
      joined = joined-step (g.O.Opener.holds c.args.opener.now) (g.O.Opener.holds c.loop-place.opener) l.stays read end parts c.loop-place.place stacks l.joined
          part c.loop-place-test.true c.index-parts-place.is wanted _ (here ∙ ap (part_options read) rows) c.join_part.new.stacks c.in-Ok.more joined;
      frame = c.in-Ok.ensures.frame;
      same = l.same ∙ c.in-Ok.ensures.same;
      counted = c.in-Some.ensures.1 ∙ (λ i. l.counted i + joined.counted i) ∙ sym (ap height_of joined.is ∙ height-behind stacks _ same);
      options_are = here;
      within = omega arith;
      later = omega (arith, mine, its);
      stays = λ other. c.join_part.ensures.stays other ∙ l.stays other;
    }

pub returns-clause-joined : goal.returns-clause-joined
returns-clause-joined g c =
    let l = c.loop-place.invariant in
    joined-all _ c.args.read.now c.args.end c.args.parts.now c.loop-place.place c.loop-place.stacks l.joined (let within = l.within in omega (arith, within))
