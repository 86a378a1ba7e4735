-- Places that are taken at once.
use Rattle.std.proofs.Common.{◌≡◌, ℕ, ◌+◌, ◌-◌, ◌*◌, ◌^◌, ◌<◌, ◌≤◌, List, [], ◌∷◌, ◌++◌, length, refl, sym, ◌∙◌, ap, subst, arith}
use Rattle.std.proofs.lemmas.List.{append_assoc, append-nil, length-append}
use lib.Bits.{bit_and}
use lib.Count.{ones-le, count_trailing_zeros}
use Rattle.pl_scan.specs.Bits.{set_bits}
use Rattle.pl_scan.proofs.SetBitLaws.{set_bits-zero, length-set_bits}
use Rattle.pl_table.proofs.EntryLaws.{set_bits-lowest}
use Rattle.pl_seek.specs.Grouping.{HasSeen}
use Rattle.pl_seek.specs.Places.{group_places}
use Rattle.pl_seek.specs.declared.places.Groups.{Groups}
use Rattle.pl_seek.proofs.PlaceLaws.{seen-other}

-- those of which none begins a group
pub seen-rest : (ps : List ℕ) (groups now : Groups) (seen : List ℕ) → HasSeen groups seen → now.every ≡ groups.every → now.places.items ≡ groups.places.items → now.records ≡ groups.records + length ps
    → length ps ≤ groups.wait → now.wait ≡ groups.wait - length ps → HasSeen now (seen ++ ps)
seen-rest [] groups now seen has every places records few wait = record {
  every = omega (arith, every, has.every);
  records = omega (arith, records, has.records, length-append seen []);
  places = places ∙ has.places ∙ sym (λ i. group_places (every i) (append-nil seen i));
  wait = omega (arith, wait, every, has.wait);
  counted = (λ i. length (places i) * every i) ∙ omega (arith, has.counted, wait, length-append seen []);
}
seen-rest (p ∷ ps) groups now seen has every places records few wait =
    let mid : Groups = record groups { records = groups.records + 1; wait = groups.wait - 1 } in
    let one = seen-other groups mid p refl refl seen has (omega arith) refl refl in
    let more = seen-rest ps mid now (seen ++ p ∷ []) one every places (omega (arith, records)) (omega (arith, few)) (omega (arith, wait)) in
    subst (HasSeen now) (append_assoc seen (p ∷ []) ps) more

pub few-bits : (k x : ℕ) → x < 2 ^ 64 → length (set_bits 64 k x) ≤ 64
few-bits k x h = omega (arith, length-set_bits 64 k x h, ones-le 64 x h)

-- ---- bit by bit

-- of the places at bits those came that are no longer left
pub record HaveCome (before now : Groups) (k bits left : ℕ) : Type 0 where
  pub every : now.every ≡ before.every
  pub few : now.records + length (set_bits 64 k left) ≤ before.records + 64
  pub seen : (seen : List ℕ) → HasSeen before seen → (done : List ℕ) × HasSeen now (seen ++ done) × (done ++ set_bits 64 k left ≡ set_bits 64 k bits)

pub bits-none : (groups : Groups) (k bits : ℕ) → bits < 2 ^ 64 → HaveCome groups groups k bits bits
bits-none groups k bits h = record {
  every = refl;
  few = omega (arith, few-bits k bits h);
  seen = λ seen has. ([], subst (HasSeen groups) (sym (append-nil seen)) has, refl);
}

-- the lowest bit that is left gives the first place
pub bits-first : (k left : ℕ) → 0 < left → left < 2 ^ 64 → 0 < length (set_bits 64 k left)
bits-first k left some h = omega (arith, ap length (set_bits-lowest 64 k left some h))

pub bits-more : (before groups now : Groups) (k bits left place : ℕ) → 0 < left → left < 2 ^ 64 → place ≡ k + count_trailing_zeros 64 left → now.every ≡ groups.every → now.records ≡ groups.records + 1
    → ((seen : List ℕ) → HasSeen groups seen → HasSeen now (seen ++ place ∷ [])) → HaveCome before groups k bits left → HaveCome before now k bits (bit_and left (left - 1))
bits-more before groups now k bits left place some h at every counted more come =
    let rest = set_bits 64 k (bit_and left (left - 1)) in
    let first : set_bits 64 k left ≡ place ∷ rest = set_bits-lowest 64 k left some h ∙ ap (λ p. p ∷ rest) (sym at) in
    record {
      every = every ∙ come.every;
      few = omega (arith, come.few, counted, ap length first);
      seen = λ seen has.
          let so = come.seen seen has in (
            so.0 ++ place ∷ [],
            subst (HasSeen now) (append_assoc seen so.0 (place ∷ [])) (more (seen ++ so.0) so.1),
            append_assoc so.0 (place ∷ []) rest ∙ ap (λ l. so.0 ++ l) (sym first) ∙ so.2,
          );
    }

pub bits-all : (before now : Groups) (k bits left : ℕ) → left ≡ 0 → HaveCome before now k bits left → (seen : List ℕ) → HasSeen before seen → HasSeen now (seen ++ set_bits 64 k bits)
bits-all before now k bits left none come seen has =
    let so = come.seen seen has in
    let all : so.0 ≡ set_bits 64 k bits = sym (append-nil so.0) ∙ ap (λ l. so.0 ++ l) (sym (ap (set_bits 64 k) none ∙ set_bits-zero 64 k)) ∙ so.2 in
    subst (λ l. HasSeen now (seen ++ l)) all so.1
