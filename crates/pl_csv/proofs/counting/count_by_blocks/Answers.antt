use Rattle.std.proofs.Common.{◌∙◌, ap, arith, rules, ◌≡◌, ◌-◌, ◌<◌, ◌≤◌, length}
use Rattle.std.proofs.lemmas.List.{length-take-le}
use Rattle.std.specs.Prelude.{min}
use Rattle.pl_frame.specs.Dialect.{marks}
use Rattle.pl_frame.specs.Compression.{is_compressed}
use Rattle.pl_csv.proofs.CountingLaws.{HasCounted-all, HasCounted-more}
use Rattle.pl_csv.proofs.counting.count_by_blocks.Goals as goal

pub returns-then-count-eq0-clause-read : goal.returns-then-count-eq0-clause-read
returns-then-count-eq0-clause-read g c =
    let m = marks c.args.separator c.args.quote_char c.args.eol_char in
    let room : 0 < length c.read.new.buf = search rules in
    let ended = c.in-Ok.ensures.bytes.1 c.if-count-eq0.true room in
    let answer = HasCounted-all m c.args.has_header _ _ _ _ c.read.new.buf _ c.in-Ok.count c.rows-rows.result c.loop-count.counter c.is_compressed.result
    c.loop-count.invariant.counted c.if-count-eq0.true c.in-Ok.ensures.bytes.0 ended (c.is_compressed.ensures ∙ ap is_compressed c.deref.ensures.value) c.rows-rows.ensures in
    (answer.0, answer.1, answer.2, c.unless_compressed.ensures ∙ answer.3)

pub loop-count-preserved : goal.loop-count-preserved
loop-count-preserved g c =
    let m = marks c.args.separator c.args.quote_char c.args.eol_char in
    let inside : c.in-Ok.count ≤ length c.read.new.buf = search rules in
    let size = length-take-le c.in-Ok.count c.read.new.buf inside in
    let least : c.min-wanting.result ≡ min c.in-Ok.count (4 - length c.loop-count.front.items) = search rules in
    record {
      within = omega (arith, c.loop-count.invariant.within);
      few = omega (arith, c.add.ensures.few, c.loop-count.invariant.few, size);
      counted = HasCounted-more m _ _ _ c.loop-count.front.items c.extend_from_slice.new.self.items c.loop-count.length c.in-Ok.count c.min-wanting.result c.loop-count.counter c.add.new.self c.read.new.buf
          c.loop-count.invariant.counted inside c.in-Ok.ensures.bytes.0 least (search rules) c.add.ensures.rows;
      later = search rules;
    }
