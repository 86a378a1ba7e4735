use Rattle.std.proofs.Common.{◌≡◌, ◌++◌, Bool, true, if◌then◌else◌, take, sym, ap, ◌∙◌, arith, length}
use Rattle.std.proofs.lemmas.List.{length-take-le}
use Rattle.pl_text.specs.FrameText.{needs_quotes, quoted}
use Rattle.pl_write.proofs.PutLaws.{put-front}
use Rattle.pl_write.proofs.SpecialLaws.{first_bare, first_empty, first_quoted}
use Rattle.pl_write.proofs.put_parts.put_first.Goals as goal
use Rattle.pl_write.proofs.put_parts.put_first.Goals.{then-count-eq0-via-then-count-eq0, then-count-eq0-via-else-count-eq0+then-count_before_special-count}

pub returns-then-count-eq0-clause-text : goal.returns-then-count-eq0-clause-text
returns-then-count-eq0-clause-text c =
    let s = c.args.separator in
    let q = c.args.quote in
    let bytes = c.args.bytes.now in
    let n = c.args.count in
    let needs : needs_quotes s q (take n bytes) ≡ true = elim c.then-count-eq0.branch [
      | then-count-eq0-via-then-count-eq0 w ↦ first_empty s q bytes n w.if-count-eq0.true
      | then-count-eq0-via-else-count-eq0+then-count_before_special-count w ↦ first_quoted s q bytes n (omega arith) (omega (arith, w.count_before_special.ensures, w.if-count_before_special-count.true))
    ] in
    c.put_first_quoted.ensures.text ∙ ap (λ (b : Bool). take c.args.at c.args.to.now ++ (if b then quoted q (take n bytes) else take n bytes)) (sym needs)

pub returns-clause-text : goal.returns-clause-text
returns-clause-text c =
    let s = c.args.separator in
    let q = c.args.quote in
    let bytes = c.args.bytes.now in
    let n = c.args.count in
    let to = c.args.to.now in
    let at = c.args.at in
    let bare = first_bare s q bytes n (omega arith) c.if-count-eq0.false (omega (arith, c.count_before_special.ensures, c.if-count_before_special-count.false)) in
    let put = put-front (take at to) bytes c.put_bytes.new.to at (length bytes) n (length-take-le at to (omega arith)) (omega arith) (rw c.put_bytes.ensures.end at c.put_bytes.ensures.text) in
    rw bare put
