use Rattle.std.proofs.Common.{◌≡◌, ℕ, List, Some, drop, sym, subst}
use Rattle.pl_cells.specs.Columns.{StandsForText}
use Rattle.pl_cells.specs.Quoting.{undouble}
use Rattle.pl_cells.proofs.AsciiLaws.{undouble_bare}
use Rattle.pl_cells.proofs.quoted_at.bare_at.Goals as goal

pub returns-then-is_seen_without : goal.returns-then-is_seen_without
returns-then-is_seen_without c =
    let same = c.from_place-bytes.ensures in
    let bare = undouble_bare c.is_seen_without.result c.args.quote c.from_place-bytes.result.now c.if-is_seen_without.true c.is_seen_without.ensures in
    subst (λ (t : List ℕ). StandsForText (Some c.args.quote) (drop c.args.start c.args.upto.now) t) (sym same)
    (c.in_ok-text.ensures.text (subst (λ (t : List ℕ). undouble c.args.quote t ≡ t) same bare))
