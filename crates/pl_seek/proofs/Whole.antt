-- What is read of the bytes of an index is this index, and nothing is read of other bytes.
use Rattle.std.proofs.Common.{◌≡◌, ℕ, ◌*◌, ◌/◌, ◌^◌, ◌<◌, true, false, List, [], ◌∷◌, ◌++◌, length, Some, None, refl, sym, ap, subst, ◌∙◌, append_assoc, arith}
use Rattle.std.specs.List.{flat_map}
use Rattle.std.proofs.lemmas.Option.{none-some}
use Rattle.std.proofs.lemmas.List.Elements.{All-from_recursion, recursion_from_All}
use Rattle.pl_seek.specs.Index.{Index, IsIndex, HasIndex, IndicesDiffer, ArePlaces, magic, number_bytes, flag_bytes, quote_bytes, text_bytes, settings_bytes, index_bytes}
use Rattle.pl_seek.specs.Reading.{◌>>=◌, Found, both, bytes_at, number_at, byte_at, flag_at, quote_at, text_at, InOrder, settings_of, settings_at, Head, head_at, Parts, parts_of, parts_in, numbers_in, index_of, AreParts}
use Rattle.pl_seek.specs.declared.settings.Settings.{Settings}
use Rattle.pl_seek.proofs.Fields.{AreBytes, bind_some, some_is, Takes, Spells, both_spells, mapped_spells, respelled, bytes_spell, number_spells, byte_spells, flag_spells, quote_spells, text_spells}
use Rattle.pl_seek.proofs.Numbers.{numbers_take, length-numbers, numbers_again}

abbrev in_order : Settings → InOrder
in_order s = (s.separator, (s.quote_char, (s.eol_char, (s.has_header, (s.keep_ends, (s.skip_rows, (s.skip_lines, s.skip_rows_after_header)))))))

abbrev Free : {A : Type 0} → A → Type 0
Free _ = Unit {0}

abbrev Fits64 : ℕ → Type 0
Fits64 n = n < 2 ^ 64

abbrev FitInOrder : InOrder → Type 0
FitInOrder x = Unit {0} × (Unit {0} × (Unit {0} × (Unit {0} × (Unit {0} × (Fits64 x.1.1.1.1.1.0 × (Fits64 x.1.1.1.1.1.1.0 × Fits64 x.1.1.1.1.1.1.1))))))

abbrev bytes_in_order : InOrder → List ℕ
bytes_in_order x =
    (x.0 ∷ []) ++ (quote_bytes x.1.0 ++ ((x.1.1.0 ∷ []) ++ (flag_bytes x.1.1.1.0 ++ (flag_bytes x.1.1.1.1.0
    ++ (number_bytes x.1.1.1.1.1.0 ++ (number_bytes x.1.1.1.1.1.1.0 ++ number_bytes x.1.1.1.1.1.1.1))))))

in_order_spell : Spells (both byte_at (both quote_at (both byte_at (both flag_at (both flag_at (both number_at (both number_at number_at))))))) bytes_in_order FitInOrder
in_order_spell =
    both_spells byte_at _ (λ b. b ∷ []) _ Free _ byte_spells
    (both_spells quote_at _ quote_bytes _ Free _ quote_spells
    (both_spells byte_at _ (λ b. b ∷ []) _ Free _ byte_spells
    (both_spells flag_at _ flag_bytes _ Free _ flag_spells
    (both_spells flag_at _ flag_bytes _ Free _ flag_spells
    (both_spells number_at _ number_bytes _ Fits64 _ number_spells
    (both_spells number_at number_at number_bytes number_bytes Fits64 Fits64 number_spells number_spells))))))

settings_grouped : (separator eol : ℕ) (quote header keep a b c : List ℕ)
    → (separator ∷ []) ++ (quote ++ ((eol ∷ []) ++ (header ++ (keep ++ (a ++ (b ++ c)))))) ≡ separator ∷ quote ++ eol ∷ header ++ keep ++ a ++ b ++ c
settings_grouped separator eol quote header keep a b c = simp append_assoc refl

settings_spell : Spells settings_at settings_bytes (λ s. FitInOrder (in_order s))
unfolding settings_at
settings_spell =
    respelled settings_at (λ s. bytes_in_order (in_order s)) settings_bytes (λ s. FitInOrder (in_order s))
    (λ s. settings_grouped s.separator s.eol_char (quote_bytes s.quote_char) (flag_bytes s.has_header) (flag_bytes s.keep_ends) (number_bytes s.skip_rows) (number_bytes s.skip_lines) (number_bytes s.skip_rows_after_header))
    (mapped_spells _ bytes_in_order FitInOrder settings_of in_order (λ x. refl) (λ s. refl) in_order_spell)

abbrev head_bytes : Head → List ℕ
head_bytes x = x.0 ++ (x.1.0 ++ (settings_bytes x.1.1.0 ++ (text_bytes x.1.1.1.0 ++ (number_bytes x.1.1.1.1.0 ++ number_bytes x.1.1.1.1.1))))

abbrev FitHead : Head → Type 0
FitHead x = (length x.0 ≡ 8) × ((length x.1.0 ≡ 32) × (FitInOrder (in_order x.1.1.0) × ((length x.1.1.1.0 < 2 ^ 64) × (Fits64 x.1.1.1.1.0 × Fits64 x.1.1.1.1.1))))

head_spells : Spells head_at head_bytes FitHead
unfolding head_at
head_spells =
    both_spells (bytes_at 8) _ (λ x. x) _ (λ x. length x ≡ 8) _ (bytes_spell 8)
    (both_spells (bytes_at 32) _ (λ x. x) _ (λ x. length x ≡ 32) _ (bytes_spell 32)
    (both_spells settings_at _ settings_bytes _ (λ s. FitInOrder (in_order s)) _ settings_spell
    (both_spells text_at _ text_bytes _ (λ text. length text < 2 ^ 64) _ text_spells
    (both_spells number_at number_at number_bytes number_bytes Fits64 Fits64 number_spells number_spells))))

-- the parts one behind the other, with these bytes first and last
abbrev laid : List ℕ → Parts → List ℕ → List ℕ
laid first p last = first ++ p.digest ++ settings_bytes p.settings ++ text_bytes p.comment_prefix ++ number_bytes p.every ++ number_bytes p.records ++ last

grouped : (a b c d e f g : List ℕ) → (a ++ (b ++ (c ++ (d ++ (e ++ f))))) ++ g ≡ a ++ b ++ c ++ d ++ e ++ f ++ g
grouped a b c d e f g = simp append_assoc refl

laid_is : (x : Head × List ℕ) → head_bytes x.0 ++ x.1 ≡ laid x.0.0 (parts_of x) x.1
laid_is x = grouped x.0.0 x.0.1.0 (settings_bytes x.0.1.1.0) (text_bytes x.0.1.1.1.0) (number_bytes x.0.1.1.1.1.0) (number_bytes x.0.1.1.1.1.1) x.1

head_found : (bytes : List ℕ) (x : Head × List ℕ) → Takes bytes (head_bytes x.0) x.1 → FitHead x.0 → AreParts (parts_of x)
    → IsIndex (index_of (parts_of x)) × (bytes ≡ index_bytes (index_of (parts_of x)))
unfolding index_bytes
head_found bytes x taken fit are =
    let count = length x.1 / 8 in
    let len : length x.1 ≡ 8 * count = omega (arith, are.0.1) in
    let numbers = numbers_take count x.1 taken.rest_fits len in (
      record {
        digest = fit.1.0;
        skip_rows = fit.1.1.0.1.1.1.1.1.0;
        skip_lines = fit.1.1.0.1.1.1.1.1.1.0;
        skip_rows_after_header = fit.1.1.0.1.1.1.1.1.1.1;
        comment_prefix = fit.1.1.1.0;
        every = fit.1.1.1.1.0;
        records = fit.1.1.1.1.1;
        each = All-from_recursion Fits64 (numbers_in count x.1) numbers.1;
        places = are.1;
      },
      taken.parts ∙ laid_is x ∙ ap (λ (m : List ℕ). laid m (parts_of x) x.1) are.0.0 ∙ ap (λ (t : List ℕ). laid magic (parts_of x) t) (sym numbers.0),
    )

-- what parts of an index are read from are the bytes of this index
pub parts_found : (bytes : List ℕ) (p : Parts) → AreBytes bytes → parts_in bytes ≡ Some p → AreParts p → IsIndex (index_of p) × (bytes ≡ index_bytes (index_of p))
unfolding parts_in
parts_found bytes p fits e are =
    let h = bind_some (head_at bytes) (λ head. Some (parts_of head)) p e in
    let one = head_spells.takes bytes h.0 fits h.1 in
    subst (λ (p : Parts). AreParts p → IsIndex (index_of p) × (bytes ≡ index_bytes (index_of p))) (some_is (parts_of h.0) p h.2) (head_found bytes h.0 one.0 one.1) are

-- the parts of an index
abbrev pub parts_from : Index → Parts
parts_from i = record {
  magic = magic;
  digest = i.digest;
  settings = i.settings;
  comment_prefix = i.comment_prefix;
  every = i.every;
  records = i.records;
  places = flat_map number_bytes i.places;
}

abbrev head_from : Index → Head × List ℕ
head_from i = ((magic, (i.digest, (i.settings, (i.comment_prefix, (i.every, i.records))))), flat_map number_bytes i.places)

head_fits : (i : Index) → IsIndex i → FitHead (head_from i).0
head_fits i is =
    (refl, (is.digest, ((tt, (tt, (tt, (tt, (tt, (is.skip_rows, (is.skip_lines, is.skip_rows_after_header))))))), (is.comment_prefix, (is.every, is.records)))))

places_again : (i : Index) → IsIndex i → numbers_in (length (flat_map number_bytes i.places) / 8) (flat_map number_bytes i.places) ≡ i.places
places_again i is =
    let len = length-numbers i.places in
    let count : length (flat_map number_bytes i.places) / 8 ≡ length i.places = omega (arith, len) in
    ap (λ (k : ℕ). numbers_in k (flat_map number_bytes i.places)) count ∙ numbers_again i.places (recursion_from_All Fits64 i.places is.each)

-- what an index was written to is read as its parts
pub parts_again : (i : Index) → IsIndex i → parts_in (index_bytes i) ≡ Some (parts_from i)
unfolding parts_in index_bytes
parts_again i is =
    let x = head_from i in
    ap (λ (bytes : List ℕ). parts_in bytes) (sym (laid_is x)) ∙ ap (λ (r : Found Head). r >>= λ head. Some (parts_of head)) (head_spells.again x.0 x.1 (head_fits i is))

-- which are those of an index
pub parts_are : (i : Index) → IsIndex i → AreParts (parts_from i)
parts_are i is =
    let len = length-numbers i.places in
    ((refl, omega (arith, len)), subst (λ (ps : List ℕ). ArePlaces i.every i.records ps) (sym (places_again i is)) is.places)

-- and of this one
pub index_again : (i : Index) → IsIndex i → index_of (parts_from i) ≡ i
index_again i is = ap (λ (ps : List ℕ). record i { places = ps }) (places_again i is)

-- where the parts that are read are not those of an index, the bytes are not
pub parts_refused : (bytes : List ℕ) (p : Parts) → parts_in bytes ≡ Some p → (AreParts p → ⊥) → HasIndex bytes → ⊥
parts_refused bytes p e not has =
    let same : parts_from has.0 ≡ p = some_is (parts_from has.0) p (sym (parts_again has.0 has.1) ∙ ap parts_in (sym has.2) ∙ e) in
    not (subst AreParts same (parts_are has.0 has.1))

-- nor where there are too few
pub none_refused : (bytes : List ℕ) → parts_in bytes ≡ None → HasIndex bytes → ⊥
none_refused bytes e has = none-some (parts_from has.0) (sym e ∙ ap parts_in has.2 ∙ parts_again has.0 has.1)

-- an index that has the bytes is the one that is read
pub only_index : (bytes : List ℕ) (p : Parts) (i : Index) → parts_in bytes ≡ Some p → IsIndex i → bytes ≡ index_bytes i → index_of p ≡ i
only_index bytes p i e is has =
    let same : p ≡ parts_from i = some_is p (parts_from i) (sym e ∙ ap parts_in has ∙ parts_again i is) in
    ap index_of same ∙ index_again i is

pub differ : IndicesDiffer
differ a b is_a is_b e =
    let same : parts_from a ≡ parts_from b = some_is (parts_from a) (parts_from b) (sym (parts_again a is_a) ∙ ap parts_in e ∙ parts_again b is_b) in
    sym (index_again a is_a) ∙ ap index_of same ∙ index_again b is_b

-- an index made of what was read
pub made_is : (made : Index) (p : Parts) (prefix places : List ℕ)
    → made ≡ record { digest = p.digest; settings = p.settings; comment_prefix = prefix; every = p.every; records = p.records; places = places }
    → prefix ≡ p.comment_prefix → places ≡ numbers_in (length p.places / 8) p.places → made ≡ index_of p
made_is made p prefix places is prefix_is places_are = is ∙ rw (prefix_is, places_are) refl

-- the parts of an index tell that the bytes are one's
pub has_index : (bytes : List ℕ) (p : Parts) → AreBytes bytes → parts_in bytes ≡ Some p → AreParts p → HasIndex bytes
has_index bytes p fits e are = let f = parts_found bytes p fits e are in (index_of p, f.0, f.1)

pub true-false : true ≡ false → ⊥
true-false e = cc
