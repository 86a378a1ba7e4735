use Rattle.std.proofs.Common.{◌≡◌, ℕ, ◌+◌, ◌-◌, ◌*◌, ◌/◌, ◌<◌, ◌≤◌, List, length, take, drop, get_or, refl, ap, ◌∙◌, arith, length-drop}
use Rattle.std.proofs.lemmas.List.{get_or-drop, get_or-take, length-take-le}
use Rattle.pl_frame.specs.Dialect.{Marks}
use Rattle.pl_scan.specs.SpotRows.{marks_of}
use Rattle.pl_scan.specs.Spots.{is_odd_spot}
use Rattle.pl_scan.specs.declared.spots.Spot.TheVariants.{Begin, Odd}
use Rattle.pl_scan.proofs.SpotStepLaws.{IsPadded, odd-behind}
use Rattle.pl_scan.proofs.spots.are_open_behind.Goals as goal

padded-is : (m : Marks) (b block tail : List ℕ) (n : ℕ) → n ≤ length b → length b < n + 64 → tail ≡ take (length b - n) (drop n b) → ((i : ℕ) → i < length tail → get_or block i 0 ≡ get_or tail i 0)
    → ((i : ℕ) → length tail ≤ i → i < 64 → get_or block i 0 ≡ m.line_end) → IsPadded m b block n (length b - n)
padded-is m b block tail n within few is own behind =
    let size = length-drop n b in
    let len : length tail ≡ length b - n = ap length is ∙ length-take-le (length b - n) (drop n b) (omega (arith, size)) in
    record {
      small = omega arith;
      tail = λ i h. own i (omega (arith, len)) ∙ ap (λ l. get_or l i 0) is ∙ get_or-take (length b - n) (drop n b) i 0 h ∙ get_or-drop n b i 0;
      behind = λ i l h. behind i (omega (arith, len)) h;
    }

pub returns-clause-first : goal.returns-clause-first
returns-clause-first c =
    let m = marks_of c.args.steps.now in
    let b = c.args.bytes.now in
    let n = length b / 64 * 64 in
    let padded = padded-is m b c.padded-block.result _ n (omega arith) (omega arith) refl c.padded-block.ensures.tail c.padded-block.ensures.behind in
    c.is_odd_spot.ensures
    ∙ ap is_odd_spot c.behind_block-first.ensures.first
    ∙ odd-behind m Begin c.behind_blocks-spots.result.0 b c.padded-block.result n (length b - n) c.requires.apart padded (omega arith) c.behind_blocks-spots.ensures.first

pub returns-clause-second : goal.returns-clause-second
returns-clause-second c =
    let m = marks_of c.args.steps.now in
    let b = c.args.bytes.now in
    let n = length b / 64 * 64 in
    let padded = padded-is m b c.padded-block.result _ n (omega arith) (omega arith) refl c.padded-block.ensures.tail c.padded-block.ensures.behind in
    c.is_odd_spot-2.ensures
    ∙ ap is_odd_spot c.behind_block-first.ensures.second
    ∙ odd-behind m Odd c.behind_blocks-spots.result.1 b c.padded-block.result n (length b - n) c.requires.apart padded (omega arith) c.behind_blocks-spots.ensures.second
