use Rattle.std.proofs.Common.{◌≡◌, ℕ, ◌+◌, ◌-◌, ◌<◌, ◌==◌, ◌||◌, Bool, true, false, not, List, take, drop, get_or, refl, ap, ap₂, ◌∙◌, arith, IfSome, Option, None, Some}
use Rattle.std.proofs.lemmas.List.{get_or-take, get_or-drop}
use lib.Bits.{bit_or}
use Rattle.pl_scan.specs.Bits.{test}
use Rattle.pl_scan.specs.Dialect.{marks_of}
use Rattle.pl_scan.specs.Fields.{is_quote, is_plain}
use Rattle.pl_scan.proofs.BitLaws.{test-or}
use Rattle.pl_seek.specs.RecordEnds.{Stand, AreFound, IsCarried, IsScanned}
use Rattle.pl_seek.specs.declared.record_ends.Found.{Found}
use Rattle.pl_seek.proofs.BlockLaws.{scanned}
use Rattle.pl_seek.proofs.record_ends.scan_block.Goals as goal

-- a byte of the block
byte_at : (b : List ℕ) (n i : ℕ) → i < 64 → get_or (take 64 (take (n + 64 - n) (drop n b))) i 0 ≡ get_or b (n + i) 0
byte_at b n i h = get_or-take 64 (take (n + 64 - n) (drop n b)) i 0 h ∙ get_or-take (n + 64 - n) (drop n b) i 0 (omega arith) ∙ get_or-drop n b i 0

twice : (s e : Bool) → (e || s) ≡ not (not (s || e))
twice true true = refl
twice true false = refl
twice false true = refl
twice false false = refl

pub returns : goal.returns
returns c =
    let a = c.args in
    let m = marks_of a.dialect.now in
    let E = c.equal_to-line_ends.result in
    let Q = c.equal_to.result in
    let ends : (i : ℕ) → i < 64 → test E i ≡ (get_or a.input.now (a.at + i) 0 == m.line_end) = (λ i h. c.equal_to-line_ends.ensures i h ∙ ap (λ x. x == m.line_end) (byte_at a.input.now a.at i h)) in
    let separators : (i : ℕ) → i < 64 → test Q i ≡ (get_or a.input.now (a.at + i) 0 == m.separator) = (λ i h. c.equal_to.ensures i h ∙ ap (λ x. x == m.separator) (byte_at a.input.now a.at i h)) in
    by c.ends_in.result c.ends_in.ensures
    (λ i h. test-or E Q i ∙ ap₂ (λ x y. x || y) (ends i h) (separators i h) ∙ twice (get_or a.input.now (a.at + i) 0 == m.separator) (get_or a.input.now (a.at + i) 0 == m.line_end))
    ends
    (λ i h. c.quote_bits-quotes.ensures i h ∙ ap (is_quote m.quote) (byte_at a.input.now a.at i h))
  where
    by : (result : Option Found) → IfSome result (AreFound (bit_or c.equal_to-line_ends.result c.equal_to.result) c.equal_to-line_ends.result c.quote_bits-quotes.result c.args.carry)
        → ((i : ℕ) → i < 64 → test (bit_or c.equal_to-line_ends.result c.equal_to.result) i ≡ not (is_plain (marks_of c.args.dialect.now) (get_or c.args.input.now (c.args.at + i) 0)))
        → ((i : ℕ) → i < 64 → test c.equal_to-line_ends.result i ≡ (get_or c.args.input.now (c.args.at + i) 0 == (marks_of c.args.dialect.now).line_end))
        → ((i : ℕ) → i < 64 → test c.quote_bits-quotes.result i ≡ is_quote (marks_of c.args.dialect.now).quote (get_or c.args.input.now (c.args.at + i) 0))
        → IfSome result (λ found. (s : Stand) → IsCarried s c.args.carry → IsScanned (marks_of c.args.dialect.now) c.args.input.now c.args.at s found)
    by None are stops ends quotes = tt
    by (Some found) are stops ends quotes = λ s carried. scanned (marks_of c.args.dialect.now) c.requires.apart c.args.input.now c.args.at s _ _ _ c.args.carry found carried are stops ends quotes
