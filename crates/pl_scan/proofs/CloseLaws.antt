-- The last field of a record and the last item of a piece.
use Rattle.std.proofs.Common.{◌≡◌, ℕ, Bool, false, List, [], ◌∷◌, map, refl, sym, ◌∙◌, ap}
use Rattle.std.specs.Prelude.{Option, None, Some}
use Rattle.std.specs.List.{last_or}
use Rattle.pl_frame.specs.Dialect.{Marks}
use Rattle.pl_scan.specs.Fields.{begins_quoted, fields, marked_fields}
use Rattle.pl_scan.specs.Closing.{is_open, is_open_field, have_open_end}

-- whether the last of the fields is open, or o where there are none
abbrev pub last_open : Marks → Bool → List (List ℕ × Bool) → Bool
last_open m o [] = o
last_open m o (p ∷ ps) = last_open m (is_open m p.0) ps

-- each field with its own mark
abbrev pub marked : Option ℕ → List (List ℕ × Bool) → List (List ℕ × Bool)
marked quote ps = map (λ p. (p.0, begins_quoted quote p.0)) ps

last_open-map : (m : Marks) (o : Option (List ℕ)) (fs : List (List ℕ)) → last_open m (is_open_field m o) (map (λ f. (f, begins_quoted m.quote f)) fs) ≡ is_open_field m (last_or o fs)
last_open-map m o [] = refl
last_open-map m o (f ∷ fs) = last_open-map m (Some f) fs

pub last_open-fields : (m : Marks) (b : List ℕ) → last_open m false (marked_fields m b) ≡ have_open_end m (fields m b)
last_open-fields m b = last_open-map m None (fields m b)

marked-map : (quote : Option ℕ) (fs : List (List ℕ)) → marked quote (map (λ f. (f, begins_quoted quote f)) fs) ≡ map (λ f. (f, begins_quoted quote f)) fs
marked-map quote [] = refl
marked-map quote (f ∷ fs) = ap (λ l. (f, begins_quoted quote f) ∷ l) (marked-map quote fs)

pub marked-fields : (m : Marks) (b : List ℕ) → marked m.quote (marked_fields m b) ≡ marked_fields m b
marked-fields m b = marked-map m.quote (fields m b)

-- one step over fields with their own marks
pub marked-cons : (quote : Option ℕ) (all : List (List ℕ × Bool)) (f : List ℕ) (t : Bool) (rest : List (List ℕ × Bool)) → marked quote all ≡ all → all ≡ (f, t) ∷ rest
    → (t ≡ begins_quoted quote f) × (marked quote rest ≡ rest)
marked-cons quote all f t rest own is =
    let both : (f, begins_quoted quote f) ∷ marked quote rest ≡ (f, t) ∷ rest = sym (ap (marked quote) is) ∙ own ∙ is in
    let head : ◌≡◌ {A = List ℕ × Bool} (f, begins_quoted quote f) (f, t) = cc in
    (ap (λ (p : List ℕ × Bool). p.1) (sym head), cc)

pub last_open-cons : (m : Marks) (o : Bool) (all : List (List ℕ × Bool)) (f : List ℕ) (t : Bool) (rest : List (List ℕ × Bool)) → all ≡ (f, t) ∷ rest → last_open m (is_open m f) rest ≡ last_open m o all
last_open-cons m o all f t rest is = sym (ap (last_open m o) is)
