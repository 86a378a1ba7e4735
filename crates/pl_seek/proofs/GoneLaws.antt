-- The records of a text without comments, block by block.
use Rattle.std.proofs.Common.{◌≡◌, ℕ, ◌+◌, ◌-◌, ◌<◌, ◌≤◌, Bool, true, false, cond, List, [], ◌∷◌, ◌++◌, length, drop, None, refl, sym, ◌∙◌, ap, subst, arith, length-drop}
use Rattle.std.specs.Prelude.{unwrap_or}
use Rattle.std.specs.List.{last_or}
use Rattle.std.proofs.lemmas.List.{append_assoc, append-nil, length-append}
use Rattle.pl_frame.specs.Dialect.{Marks, AreDistinct}
use Rattle.pl_scan.specs.Bits.{set_bits}
use Rattle.pl_scan.specs.Fields.{extent}
use Rattle.pl_seek.specs.Grouping.{HasSeen}
use Rattle.pl_seek.specs.Places.{record_places}
use Rattle.pl_seek.specs.RecordEnds.{Stand, AtField, next_stand, ends_record, placed, begins, stand_from, IsCarried, IsScanned, HasGone, HasGoneOn, HasBegun}
use Rattle.pl_seek.specs.declared.places.Groups.{Groups}
use Rattle.pl_seek.specs.declared.record_ends.Carry.{Carry}
use Rattle.pl_seek.specs.declared.record_ends.Found.{Found}
use Rattle.pl_seek.proofs.BlockLaws.{taken, left}
use Rattle.pl_seek.proofs.EndLaws.{places-begin, begins-record}
use Rattle.pl_seek.proofs.PlaceLaws.{places-none}

-- a scan has gone on from a place
pub record IsOn (m : Marks) (input : List ℕ) (before now : Groups) (begin last at : ℕ) (carry : Carry) : Type 0 where
  pub every : now.every ≡ before.every
  pub behind : begin ≤ last
  pub order : last ≤ at
  pub within : at < length input
  pub gone : (all : List ℕ) → HasGone m input before all AtField begin → HasGoneOn m input now all last at carry

pub on-none : (m : Marks) (input : List ℕ) (groups : Groups) (begin : ℕ) (carry : Carry) → begin < length input → IsCarried AtField carry → IsOn m input groups groups begin begin begin carry
on-none m input groups begin carry within carried = record {
  every = refl;
  behind = omega arith;
  order = omega arith;
  within = within;
  gone = λ all gone. record { stand = AtField; carried = carried; gone = gone; back = refl };
}

-- no more places came than there are bytes
pub few-seen : (m : Marks) (input : List ℕ) (groups : Groups) (all : List ℕ) (s : Stand) (at : ℕ) → HasGone m input groups all s at → groups.records ≤ length input
few-seen m input groups all s at gone =
    omega (arith, gone.has.records, ap length gone.all_are, length-append gone.seen (begins m (length input) s (drop at input)), gone.few)

pub on-block : (m : Marks) (input : List ℕ) (before groups now : Groups) (begin last at next : ℕ) (carry : Carry) (found : Found) → at + 64 < length input → now.every ≡ groups.every
    → ((s : Stand) → IsCarried s carry → IsScanned m input at s found) → ((seen : List ℕ) → HasSeen groups seen → HasSeen now (seen ++ set_bits 64 (at + 1) found.ends))
    → next ≡ unwrap_or (last_or None (set_bits 64 (at + 1) found.ends)) last → (last ≤ at → (last ≤ next) × (next ≤ at + 64)) → IsOn m input before groups begin last at carry
    → IsOn m input before now begin next (at + 64) found.behind
on-block m input before groups now begin last at next carry found within every scanned seen is between on = record {
  every = every ∙ on.every;
  behind = omega (arith, on.behind, (between on.order).0);
  order = (between on.order).1;
  within = within;
  gone = λ all gone.
      let so = on.gone all gone in
      let words = scanned so.stand so.carried in
      let bits = set_bits 64 (at + 1) found.ends in
      let more = taken m input 64 so.stand at found.ends None last within words.ends so.back in
      record {
        stand = stand_from m so.stand input at 64;
        carried = words.behind;
        gone = record {
          seen = so.gone.seen ++ bits;
          has = seen so.gone.seen so.gone.has;
          all_are = append_assoc so.gone.seen bits (left m input (stand_from m so.stand input at 64) (at + 64)) ∙ ap (λ l. so.gone.seen ++ l) (sym more.places) ∙ so.gone.all_are;
          few = so.gone.few;
        };
        back = ap (left m input AtField) is ∙ more.last;
      };
}

-- what came when the scan ends
pub on-end : (m : Marks) (input : List ℕ) (before now : Groups) (begin last at : ℕ) (carry : Carry) → IsOn m input before now begin last at carry → (all : List ℕ) → HasGone m input before all AtField begin
    → HasGone m input now all AtField last
on-end m input before now begin last at carry on all gone =
    let so = on.gone all gone in
    record { seen = so.gone.seen; has = so.gone.has; all_are = ap (λ l. so.gone.seen ++ l) so.back ∙ so.gone.all_are; few = so.gone.few }

-- ---- record by record

placed-at : (input : List ℕ) (at : ℕ) → at < length input → placed (length input) (drop at input) ≡ at ∷ []
placed-at input at within = by (drop at input) (length-drop at input)
  where
    by : (b : List ℕ) → length b ≡ length input - at → placed (length input) b ≡ at ∷ []
    by [] size = absurd (omega (arith, size, within))
    by (x ∷ xs) size = ap (λ k. k ∷ []) (omega (arith, size, within))

-- the first record of what is left
pub begun-first : (m : Marks) (input : List ℕ) (groups now : Groups) (all : List ℕ) (begin : ℕ) → AreDistinct m → begin < length input → ((seen : List ℕ) → HasSeen groups seen → HasSeen now (seen ++ begin ∷ []))
    → HasBegun m input groups all begin → HasGone m input now all AtField begin
begun-first m input groups now all begin apart within seen begun = record {
  seen = begun.seen ++ begin ∷ [];
  has = seen begun.seen begun.has;
  all_are = append_assoc begun.seen (begin ∷ []) (begins m (length input) AtField (drop begin input))
      ∙ ap (λ l. begun.seen ++ l) (sym (places-begin m (length input) apart (drop begin input) ∙ ap (λ l. l ++ begins m (length input) AtField (drop begin input)) (placed-at input begin within)))
      ∙ begun.all_are;
  few = begun.few;
}

-- what stands behind a record
pub begun-next : (m : Marks) (input : List ℕ) (groups : Groups) (all : List ℕ) (last next : ℕ) → AreDistinct m → drop next input ≡ drop (extent m (drop last input) + 1) (drop last input)
    → HasGone m input groups all AtField last → HasBegun m input groups all next
begun-next m input groups all last next apart rest gone =
    let b = drop last input in
    let r = drop (extent m b + 1) b in
    record {
      seen = gone.seen;
      has = gone.has;
      all_are = ap (λ (l : List ℕ). gone.seen ++ record_places m None (length input) l) rest
          ∙ ap (λ l. gone.seen ++ l) (places-begin m (length input) apart r ∙ sym (begins-record m (length input) apart b)) ∙ gone.all_are;
      few = gone.few;
    }

few-begins : (m : Marks) (size : ℕ) (s : Stand) (b : List ℕ) → length (placed size b ++ begins m size s b) ≤ length b
few-begins m size s [] = omega arith
few-begins m size s (x ∷ xs) = by (ends_record m s x) (few-begins m size (next_stand m s x) xs)
  where
    by : (t : Bool) → length (placed size xs ++ begins m size (next_stand m s x) xs) ≤ length xs → length ((size - length (x ∷ xs)) ∷ (cond t (placed size xs) [] ++ begins m size (next_stand m s x) xs)) ≤ length (x ∷ xs)
    by true deeper = omega (arith, deeper)
    by false deeper = omega (arith, deeper, length-append (placed size xs) (begins m size (next_stand m s x) xs))

pub begun-none : (m : Marks) (input : List ℕ) (groups : Groups) (start : ℕ) → AreDistinct m → start ≤ length input → HasSeen groups [] → HasBegun m input groups (record_places m None (length input) (drop start input)) start
begun-none m input groups start apart within has = record {
  seen = [];
  has = has;
  all_are = refl;
  few = omega (arith, ap length (places-begin m (length input) apart (drop start input)), few-begins m (length input) AtField (drop start input), length-drop start input, within);
}

pub begun-all : (m : Marks) (input : List ℕ) (groups : Groups) (all : List ℕ) (begin : ℕ) → drop begin input ≡ [] → HasBegun m input groups all begin → HasSeen groups all
begun-all m input groups all begin none begun =
    subst (HasSeen groups) (sym (append-nil begun.seen) ∙ ap (λ l. begun.seen ++ l) (sym (places-none m None (length input))) ∙ ap (λ l. begun.seen ++ record_places m None (length input) l) (sym none) ∙ begun.all_are) begun.has

-- where no more places came than there are bytes
pub few-begun : (m : Marks) (input : List ℕ) (groups : Groups) (all : List ℕ) (begin : ℕ) → HasBegun m input groups all begin → groups.records ≤ length input
few-begun m input groups all begin begun =
    omega (arith, begun.has.records, ap length begun.all_are, length-append begun.seen (record_places m None (length input) (drop begin input)), begun.few)
