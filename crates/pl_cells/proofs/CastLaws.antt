-- Laws of casts of the columns of a frame.
use Rattle.std.proofs.Common.{◌≡◌, ◌≢◌, ℕ, zero, suc, ◌+◌, ◌<◌, Bool, true, false, ◌||◌, cond, if◌then◌else◌, List, [], ◌∷◌, ◌++◌, length, map, take, position, get_or, slice_get, slice_set, not, unwrap_or, IfSome, Option, None, Some, AllPairs, refl, sym, ◌∙◌, ap, subst, arith, add-one, true≢false}
use Rattle.std.specs.List.{AllByRecursion, list_any}
use Rattle.std.specs.Option.{option_map, option_map_or, option_and_then}
use Rattle.std.specs.Str.{bytes_eq}
use Rattle.std.proofs.lemmas.Bool.{false_from_ne_true}
use Rattle.std.proofs.lemmas.List.{length-map, map-append, take_more}
use Rattle.std.proofs.lemmas.List.Quantifiers.{position-Some}
use Rattle.std.proofs.lemmas.Option.{slice_get-map, slice_get_within, slice_get-get_or, get_or_from_slice_get, none-some}
use Rattle.std.proofs.lemmas.Slice.Eq.{bytes_eq-Decides}
use Rattle.pl_frame.specs.declared.data_type.DataType.{DataType}
use Rattle.pl_frame.specs.declared.error.ComputeFault.{ComputeFault}
use Rattle.pl_frame.specs.declared.error.PolarsError.{PolarsError}
use Rattle.pl_frame.specs.declared.error.PolarsError.TheVariants as error
use Rattle.pl_frame.specs.Columns.{is_value_of, misfits}
use Rattle.pl_frame.specs.declared.schema.Field.{Field}
use Rattle.pl_frame.specs.Frame.{Scalar, ColumnValue, IsFrame, HaveHeight, names_of, height_of}
use Rattle.pl_frame.proofs.SchemaLaws.{none_passes, position-map}
use Rattle.pl_cells.specs.Casts.{IsCastFault, cast_fault, carried_cell, carried_cast, place_named, cast_of, with_casts, field_named, field_fault, first_fault}
use Rattle.pl_cells.specs.CastPlaces.{placed_cast, with_placed, with_all_placed, FitsAt}

some_same : {X : Type 0} (x y : X) → Some x ≡ Some y → x ≡ y
some_same x y e = cc

all_at : {X : Type 0} (P : X → Type 0) (xs : List X) (i : ℕ) (x : X) → slice_get xs i ≡ Some x → AllByRecursion P xs → P x
all_at P [] i x at all = absurd (none-some x at)
all_at P (y ∷ ys) zero x at all = subst P (some_same _ _ at) all.0
all_at P (y ∷ ys) (suc i) x at all = all_at P ys i x at all.1

-- ---- a column of a name, and all others

module _ (name : List ℕ) (F G : ColumnValue → ColumnValue) where
  abbrev either : ColumnValue → ColumnValue
  either c = if bytes_eq name c.name then F c else G c

  other : (c : ColumnValue) → bytes_eq name c.name ≡ false → either c ≡ G c
  other c miss = ap (λ (b : Bool). if b then F c else G c) miss

  differs : (n : List ℕ) → name ≢ n → bytes_eq name n ≡ false
  differs n ne = false_from_ne_true (bytes_eq name n) (λ e. ne ((bytes_eq-Decides name n).0 e))

  unnamed : (cols : List ColumnValue) → ((j : ℕ) (d : List ℕ) → j < length (names_of cols) → name ≢ get_or (names_of cols) j d) → map either cols ≡ map G cols
  unnamed [] n = refl
  unnamed (x ∷ xs) n = λ i. other x (differs x.name (n 0 [] (omega arith))) i ∷ unnamed xs (λ j d l. n (suc j) d (omega arith)) i

  nowhere : (cols : List ColumnValue) → list_any (bytes_eq name) (names_of cols) ≡ false → map either cols ≡ map G cols
  nowhere [] h = refl
  nowhere (x ∷ xs) h = by (bytes_eq name x.name) refl (nowhere xs)
    where
      by : (b : Bool) → bytes_eq name x.name ≡ b → (list_any (bytes_eq name) (names_of xs) ≡ false → map either xs ≡ map G xs) → map either (x ∷ xs) ≡ map G (x ∷ xs)
      by true e deeper = absurd (true≢false (sym (ap (λ b. b || list_any (bytes_eq name) (names_of xs)) e) ∙ h))
      by false e deeper = λ i. other x e i ∷ deeper (sym (ap (λ b. b || list_any (bytes_eq name) (names_of xs)) e) ∙ h) i

  there : (cols : List ColumnValue) (p : ℕ) (c : ColumnValue) → slice_get cols p ≡ Some c → bytes_eq name c.name ≡ true → AllPairs (λ a b. a ≢ b) (names_of cols) → slice_set (map G cols) p (F c) ≡ map either cols
  there [] p c at hit distinct = absurd (none-some c at)
  there (x ∷ xs) zero c at hit distinct =
      let same : x ≡ c = some_same x c at in
      let here : bytes_eq name x.name ≡ true = ap (λ (k : ColumnValue). bytes_eq name k.name) same ∙ hit in
      let is : name ≡ x.name = (bytes_eq-Decides name x.name).0 here in
      λ i. (ap F (sym same) ∙ sym (ap (λ (b : Bool). if b then F x else G x) here)) i
      ∷ sym (unnamed xs (λ j d l e. distinct 0 (suc j) d (omega arith) (omega arith) (sym is ∙ e))) i
  there (x ∷ xs) (suc p) c at hit distinct =
      let named : slice_get (names_of xs) p ≡ Some c.name = slice_get-map (λ (k : ColumnValue). k.name) xs p ∙ ap (option_map (λ (k : ColumnValue). k.name)) at in
      let within = slice_get_within (names_of xs) p c.name named in
      let stands = get_or_from_slice_get (names_of xs) p c.name [] named in
      let is : name ≡ c.name = (bytes_eq-Decides name c.name).0 hit in
      λ i. sym (other x (differs x.name (λ e. distinct 0 (suc p) [] (omega arith) (omega (arith, within)) (sym e ∙ is ∙ sym stands)))) i
      ∷ there xs p c at hit (λ a b d l m. distinct (suc a) (suc b) d (omega arith) (omega arith)) i

  -- the column of the name is put among the others
  put : (cols : List ColumnValue) → AllPairs (λ a b. a ≢ b) (names_of cols) → (o : Option ℕ) → position (bytes_eq name) (names_of cols) ≡ o →
      with_placed (option_and_then (λ p. option_map (λ (c : ColumnValue). (p, F c)) (slice_get cols p)) o) (map G cols) ≡ map either cols
  put cols distinct None e = sym (nowhere cols (none_passes (bytes_eq name) (names_of cols) e))
  put cols distinct (Some p) e = by (slice_get cols p) refl
    where
      found : (p < length (names_of cols)) × (bytes_eq name (get_or (names_of cols) p []) ≡ true)
      found = let f = position-Some (bytes_eq name) (names_of cols) p [] e in (f.0, f.1)

      by : (r : Option ColumnValue) → slice_get cols p ≡ r → with_placed (option_map (λ (c : ColumnValue). (p, F c)) r) (map G cols) ≡ map either cols
      by None at = absurd (none-some (get_or (names_of cols) p []) (sym (slice_get-map (λ (k : ColumnValue). k.name) cols p ∙ ap (option_map (λ (k : ColumnValue). k.name)) at) ∙ slice_get-get_or (names_of cols) p [] found.0))
      by (Some c) at =
          let named : slice_get (names_of cols) p ≡ Some c.name = slice_get-map (λ (k : ColumnValue). k.name) cols p ∙ ap (option_map (λ (k : ColumnValue). k.name)) at in
          there cols p c at (ap (bytes_eq name) (sym (get_or_from_slice_get (names_of cols) p c.name [] named)) ∙ found.1) distinct

-- ---- all casts of a list

kept : (columns : List ColumnValue) → columns ≡ map (cast_of []) columns
kept [] = refl
kept (c ∷ cs) = ap (λ l. c ∷ l) (kept cs)

chosen : (field : Field) (fields : List Field) (columns : List ColumnValue) →
    map (either field.name (λ (c : ColumnValue). carried_cast c field.dtype) (cast_of fields)) columns ≡ map (cast_of (field ∷ fields)) columns
chosen field fields [] = refl
chosen field fields (c ∷ cs) = λ i. by (bytes_eq field.name c.name) i ∷ chosen field fields cs i
  where
    by : (b : Bool) → (if b then carried_cast c field.dtype else cast_of fields c)
        ≡ option_map_or (λ (f : Field). carried_cast c f.dtype) (cond b (Some field) (field_named c.name fields)) c
    by true = refl
    by false = refl

pub cast_frame : (columns : List ColumnValue) (fields : List Field) → IsFrame columns → with_all_placed (map (placed_cast columns) fields) columns ≡ with_casts fields columns
cast_frame columns [] frame = kept columns
cast_frame columns (field ∷ fields) frame =
    ap (with_placed (placed_cast columns field)) (cast_frame columns fields frame)
    ∙ put field.name (λ (c : ColumnValue). carried_cast c field.dtype) (cast_of fields) columns frame.distinct (place_named field.name columns) refl
    ∙ chosen field fields columns

fits_one : (columns : List ColumnValue) (field : Field) → HaveHeight (height_of columns) columns → (o : Option ℕ) →
    FitsAt (names_of columns) (height_of columns) (option_and_then (λ p. option_map (λ (c : ColumnValue). (p, carried_cast c field.dtype)) (slice_get columns p)) o)
fits_one columns field tall None = tt
fits_one columns field tall (Some p) = by (slice_get columns p) refl
  where
    by : (r : Option ColumnValue) → slice_get columns p ≡ r → FitsAt (names_of columns) (height_of columns) (option_map (λ (c : ColumnValue). (p, carried_cast c field.dtype)) r)
    by None at = tt
    by (Some c) at = (
      slice_get-map (λ (k : ColumnValue). k.name) columns p ∙ ap (option_map (λ (k : ColumnValue). k.name)) at,
      length-map c.values (carried_cell c.dtype field.dtype) ∙ all_at (λ (k : ColumnValue). length k.values ≡ height_of columns) columns p c at tall,
    )

pub casts_fit : (columns : List ColumnValue) (fields : List Field) → HaveHeight (height_of columns) columns → AllByRecursion (FitsAt (names_of columns) (height_of columns)) (map (placed_cast columns) fields)
casts_fit columns [] tall = tt
casts_fit columns (field ∷ fields) tall = (fits_one columns field tall (place_named field.name columns), casts_fit columns fields tall)

-- ---- from the last to the first

pub placed_last : (rest : List (Option (ℕ × ColumnValue))) (last : Option (ℕ × ColumnValue)) (columns : List ColumnValue) →
    with_all_placed (rest ++ last ∷ []) columns ≡ with_all_placed rest (with_placed last columns)
placed_last [] last columns = refl
placed_last (p ∷ rest) last columns = ap (with_placed p) (placed_last rest last columns)

pub all_front : {X : Type 0} (P : X → Type 0) (xs : List X) (x : X) → AllByRecursion P (xs ++ x ∷ []) → AllByRecursion P xs × P x
all_front P [] x h = (tt, h.0)
all_front P (y ∷ ys) x h = let rest = all_front P ys x h.1 in ((h.0, rest.0), rest.1)

-- ---- the first fault

faultless_suc : (ignore : Bool) (columns : List ColumnValue) (fields : List Field) (k : ℕ) (field : Field) → slice_get fields k ≡ Some field → first_fault ignore columns (take k fields) ≡ None →
    field_fault ignore columns field ≡ None → first_fault ignore columns (take (suc k) fields) ≡ None
faultless_suc ignore columns [] k field at before here = absurd (none-some field at)
faultless_suc ignore columns (f ∷ fs) zero field at before here =
    let none : field_fault ignore columns f ≡ None = ap (field_fault ignore columns) (some_same f field at) ∙ here in
    ap (λ (o : Option ComputeFault). elim o [ Some wrong ↦ Some wrong | None ↦ None ]) none
faultless_suc ignore columns (f ∷ fs) (suc k) field at before here = by (field_fault ignore columns f) refl (λ h. faultless_suc ignore columns fs k field at h here)
  where
    by : (o : Option ComputeFault) → field_fault ignore columns f ≡ o → (first_fault ignore columns (take k fs) ≡ None → first_fault ignore columns (take (suc k) fs) ≡ None)
        → first_fault ignore columns (f ∷ take (suc k) fs) ≡ None
    by None e deeper =
        ap (λ (o : Option ComputeFault). elim o [ Some wrong ↦ Some wrong | None ↦ first_fault ignore columns (take (suc k) fs) ]) e
        ∙ deeper (sym (ap (λ (o : Option ComputeFault). elim o [ Some wrong ↦ Some wrong | None ↦ first_fault ignore columns (take k fs) ]) e) ∙ before)
    by (Some w) e deeper = absurd (none-some w (sym before ∙ ap (λ (o : Option ComputeFault). elim o [ Some wrong ↦ Some wrong | None ↦ first_fault ignore columns (take k fs) ]) e))

pub faultless_more : (ignore : Bool) (columns : List ColumnValue) (fields : List Field) (k : ℕ) (field : Field) → slice_get fields k ≡ Some field → first_fault ignore columns (take k fields) ≡ None →
    field_fault ignore columns field ≡ None → first_fault ignore columns (take (k + 1) fields) ≡ None
faultless_more ignore columns fields k field at before here = rw add-one (faultless_suc ignore columns fields k field at before here)

pub fault_first : (ignore : Bool) (columns : List ColumnValue) (fields : List Field) (k : ℕ) (field : Field) (wrong : ComputeFault) → slice_get fields k ≡ Some field → first_fault ignore columns (take k fields) ≡ None →
    field_fault ignore columns field ≡ Some wrong → first_fault ignore columns fields ≡ Some wrong
fault_first ignore columns [] k field wrong at before here = absurd (none-some field at)
fault_first ignore columns (f ∷ fs) zero field wrong at before here =
    let is : field_fault ignore columns f ≡ Some wrong = ap (field_fault ignore columns) (some_same f field at) ∙ here in
    ap (λ (o : Option ComputeFault). elim o [ Some w ↦ Some w | None ↦ first_fault ignore columns fs ]) is
fault_first ignore columns (f ∷ fs) (suc k) field wrong at before here = by (field_fault ignore columns f) refl (λ h. fault_first ignore columns fs k field wrong at h here)
  where
    by : (o : Option ComputeFault) → field_fault ignore columns f ≡ o → (first_fault ignore columns (take k fs) ≡ None → first_fault ignore columns fs ≡ Some wrong)
        → first_fault ignore columns (f ∷ fs) ≡ Some wrong
    by None e deeper =
        ap (λ (o : Option ComputeFault). elim o [ Some w ↦ Some w | None ↦ first_fault ignore columns fs ]) e
        ∙ deeper (sym (ap (λ (o : Option ComputeFault). elim o [ Some w ↦ Some w | None ↦ first_fault ignore columns (take k fs) ]) e) ∙ before)
    by (Some w) e deeper = absurd (none-some w (sym before ∙ ap (λ (o : Option ComputeFault). elim o [ Some v ↦ Some v | None ↦ first_fault ignore columns (take k fs) ]) e))

pub refused_first : (ignore : Bool) (columns : List ColumnValue) (fields : List Field) (k : ℕ) (field : Field) (refusal : PolarsError) → slice_get fields k ≡ Some field
    → first_fault ignore columns (take k fields) ≡ None → IsCastFault (field_fault ignore columns field) refusal → IsCastFault (first_fault ignore columns fields) refusal
refused_first ignore columns fields k field (error.ComputeError wrong) at before here = fault_first ignore columns fields k field wrong at before here
refused_first ignore columns fields k field error.OutOfMemory at before here = tt
refused_first ignore columns fields k field (error.InvalidOperation w) at before here = here
refused_first ignore columns fields k field (error.NoData w) at before here = here
refused_first ignore columns fields k field (error.ColumnNotFound n) at before here = here
refused_first ignore columns fields k field (error.OutOfBounds i l) at before here = here
refused_first ignore columns fields k field (error.Duplicate n p) at before here = here
refused_first ignore columns fields k field error.EmptyProjection at before here = here
refused_first ignore columns fields k field error.IO at before here = here

-- ---- the column that a field names

abbrev name_of : ColumnValue → List ℕ
name_of c = c.name

pub placed_there : (columns : List ColumnValue) (field : Field) (p : ℕ) (column : ColumnValue) → position (λ (c : ColumnValue). bytes_eq field.name c.name) columns ≡ Some p → slice_get columns p ≡ Some column
    → placed_cast columns field ≡ Some (p, carried_cast column field.dtype)
placed_there columns field p column is at =
    ap (option_and_then (λ q. option_map (λ (c : ColumnValue). (q, carried_cast c field.dtype)) (slice_get columns q))) (position-map name_of (bytes_eq field.name) columns ∙ is)
    ∙ ap (option_map (λ (c : ColumnValue). (p, carried_cast c field.dtype))) at

pub fault_there : (ignore : Bool) (columns : List ColumnValue) (field : Field) (p : ℕ) (column : ColumnValue) → position (λ (c : ColumnValue). bytes_eq field.name c.name) columns ≡ Some p
    → slice_get columns p ≡ Some column → field_fault ignore columns field ≡ cast_fault ignore p column field.dtype
fault_there ignore columns field p column is at =
    ap (option_and_then (λ q. option_and_then (λ (c : ColumnValue). cast_fault ignore q c field.dtype) (slice_get columns q))) (position-map name_of (bytes_eq field.name) columns ∙ is)
    ∙ ap (option_and_then (λ (c : ColumnValue). cast_fault ignore p c field.dtype)) at

pub placed_nowhere : (columns : List ColumnValue) (field : Field) → position (λ (c : ColumnValue). bytes_eq field.name c.name) columns ≡ None → placed_cast columns field ≡ None
placed_nowhere columns field is =
    ap (option_and_then (λ q. option_map (λ (c : ColumnValue). (q, carried_cast c field.dtype)) (slice_get columns q))) (position-map name_of (bytes_eq field.name) columns ∙ is)

pub fault_nowhere : (ignore : Bool) (columns : List ColumnValue) (field : Field) → position (λ (c : ColumnValue). bytes_eq field.name c.name) columns ≡ None → field_fault ignore columns field ≡ None
fault_nowhere ignore columns field is =
    ap (option_and_then (λ q. option_and_then (λ (c : ColumnValue). cast_fault ignore q c field.dtype) (slice_get columns q))) (position-map name_of (bytes_eq field.name) columns ∙ is)

-- ---- cells

pub cell_cast : (f : Option Scalar → Option Scalar) (values : List (Option Scalar)) (row : ℕ) → row < length values → unwrap_or (slice_get (map f values) row) None ≡ f (unwrap_or (slice_get values row) None)
cell_cast f values row l =
    ap (λ o. unwrap_or o None) (slice_get-map f values row ∙ ap (option_map f) (slice_get-get_or values row None l))
    ∙ ap f (sym (ap (λ o. unwrap_or o None) (slice_get-get_or values row None l)))

pub fits_kept : {T : Type 0} (type : DataType) (scalar : T → Scalar) (r : Option T) → IfSome r (λ v. is_value_of type (scalar v) ≡ true) → misfits type (option_map scalar r) ≡ false
fits_kept type scalar None h = refl
fits_kept type scalar (Some v) h = ap not h

-- ---- lists that are made item by item

pub row_made : {X Y : Type 0} (f : X → Y) (xs : List X) (made new : List Y) (k : ℕ) (x : X) → slice_get xs k ≡ Some x → made ≡ map f (take k xs) → new ≡ made ++ f x ∷ [] → new ≡ map f (take (k + 1) xs)
row_made f xs made new k x at before is =
    is ∙ ap (λ m. m ++ f x ∷ []) before ∙ sym (map-append f (take k xs) (x ∷ []))
    ∙ ap (map f) (ap (λ y. take k xs ++ y ∷ []) (sym (get_or_from_slice_get xs k x x at)) ∙ sym (take_more xs k x (slice_get_within xs k x at)))
