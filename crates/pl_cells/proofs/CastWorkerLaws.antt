-- Laws of casts that are made side by side.
use Rattle.std.proofs.Common.{◌≡◌, ℕ, zero, suc, ◌+◌, ◌<◌, Bool, List, [], ◌∷◌, ◌++◌, length, map, take, drop, slice_get, slice_index_or, Option, None, Some, Ok, refl, sym, ◌∙◌, ap, subst, arith}
use Rattle.std.specs.Prelude.{All, IfOk, OnOk}
use Rattle.std.proofs.lemmas.List.{append-nil, map-append}
use Rattle.std.specs.Iterator.{Yields}
use Rattle.std.specs.Vec.Iter.{into_iter_items, into_iter_steps}
use Rattle.std.specs.declared.vec.IntoIter.{IntoIter}
use Rattle.pl_frame.specs.declared.schema.Field.{Field}
use Rattle.pl_frame.specs.Frame.{ColumnValue}
use Rattle.pl_cells.specs.Casts.{field_fault, first_fault}
use Rattle.pl_cells.specs.CastPlaces.{IsMade, placed_cast}
use Rattle.pl_cells.proofs.CastLaws.{faultless_more}
use Rattle.pl_cells.specs.declared.cast_workers.Making.{Making}

abbrev pub field_of : Making → Field
field_of one = one.field.now

-- lists of one length whose fields agree at each place have the same fields
pub same_fields : (old new : List Making) → length new ≡ length old → ((i : ℕ) (d : Making) → i < length old → (slice_index_or new i d).field ≡ (slice_index_or old i d).field) → map field_of new ≡ map field_of old
same_fields [] [] e h = refl
same_fields [] (y ∷ ys) e h = absurd (omega (arith, e))
same_fields (x ∷ xs) [] e h = absurd (omega (arith, e))
same_fields (x ∷ xs) (y ∷ ys) e h = λ i. (h 0 x (omega arith) i).now ∷ same_fields xs ys (omega (arith, e)) (λ k d l. h (suc k) d (omega (arith, l))) i

-- behind a front stands the next one, at its length
pub stands_behind : {X : Type 0} (all front : List X) (x : X) (rest : List X) → all ≡ front ++ x ∷ rest → (slice_get all (length front) ≡ Some x) × (take (length front) all ≡ front)
stands_behind {X = X} all front x rest e = (ap (λ xs. slice_get xs (length front)) e ∙ at front, ap (take (length front)) e ∙ before front)
  where
    at : (ys : List X) → slice_get (ys ++ x ∷ rest) (length ys) ≡ Some x
    at [] = refl
    at (y ∷ ys) = at ys

    before : (ys : List X) → take (length ys) (ys ++ x ∷ rest) ≡ ys
    before [] = refl
    before (y ∷ ys) = λ i. y ∷ before ys i

-- what the iterator of a vector has given is a front of its items
pub taken_front : {X A : Type 0} (s : IntoIter X A) (xs : List X) (t : IntoIter X A) → Yields into_iter_steps s xs t → into_iter_items s ≡ xs ++ into_iter_items t
taken_front s [] t y = ap into_iter_items y
taken_front s (x ∷ xs) t y = y.1.0 ∙ ap (λ ys. x ∷ ys) (taken_front y.0 xs t y.2)

-- a list as long as another, written back over it
pub all_written : {X : Type 0} (items new : List X) (n : ℕ) → length items ≡ n → length new ≡ n → take n (new ++ drop (length new) items) ≡ new
all_written {X = X} items new n a b = ap (λ k. take k (new ++ drop (length new) items)) (sym b) ∙ front new
  where
    front : (ys : List X) → take (length ys) (ys ++ drop (length new) items) ≡ ys
    front [] = refl
    front (y ∷ ys) = λ i. y ∷ front ys i

-- what holds of all holds of that one
pub all_behind : {X : Type 0} (P : X → Type 0) (all front : List X) (x : X) (rest : List X) → all ≡ front ++ x ∷ rest → All P all → P x
all_behind {X = X} P all front x rest e h = at front (subst (All P) e h)
  where
    at : (ys : List X) → All P (ys ++ x ∷ rest) → P x
    at [] h = h 0 x (omega arith)
    at (y ∷ ys) h = at ys (λ k d l. h (suc k) d (omega (arith, l)))

-- behind the fields of those that were taken stands the field of the next one, of which this was made
pub record IsNext (ignore : Bool) (columns : List ColumnValue) (fields : List Field) (done : List Making) (one : Making) : Type 0 where
  pub at : slice_get fields (length done) ≡ Some one.field.now
  pub before : take (length done) fields ≡ map field_of done
  pub made : IsMade ignore columns one.field.now one.made

pub next-made : (ignore : Bool) (columns : List ColumnValue) (fields : List Field) (items old new : List Making) (n : ℕ) {A : Type 0} (start : IntoIter Making A) (done : List Making) (now : IntoIter Making A) (one : Making) (left : IntoIter Making A)
    → map field_of items ≡ fields → length items ≡ n → old ≡ items → length new ≡ length old
    → ((i : ℕ) (d : Making) → i < length old → (slice_index_or new i d).field ≡ (slice_index_or old i d).field)
    → ((i : ℕ) (d : Making) → i < length old → IsMade ignore columns (slice_index_or new i d).field.now (slice_index_or new i d).made)
    → into_iter_items start ≡ take n (new ++ drop (length new) items)
    → Yields into_iter_steps start done now → into_iter_items now ≡ one ∷ into_iter_items left
    → IsNext ignore columns fields done one
next-made ignore columns fields items old new n start done now one left fields_are count same size kept made gives taken step =
    let all : new ≡ done ++ one ∷ into_iter_items left =
    sym (all_written items new n count (omega (arith, count, size, ap length same))) ∙ sym gives ∙ taken_front start done now taken ∙ ap (λ l. done ++ l) step in
    let own : map field_of new ≡ fields = same_fields old new size kept ∙ ap (map field_of) same ∙ fields_are in
    let split : fields ≡ map field_of done ++ one.field.now ∷ map field_of (into_iter_items left) = sym own ∙ ap (map field_of) all ∙ map-append field_of done (one ∷ into_iter_items left) in
    let there = stands_behind fields (map field_of done) one.field.now (map field_of (into_iter_items left)) split in
    let long : length (map field_of done) ≡ length done = as_long done in
    record {
      at = subst (λ k. slice_get fields k ≡ Some one.field.now) long there.0;
      before = subst (λ k. take k fields ≡ map field_of done) long there.1;
      made = all_behind (λ o. IsMade ignore columns o.field.now o.made) new done one (into_iter_items left) all (λ i d l. made i d (omega (arith, size, l)));
    }
  where
    as_long : (xs : List Making) → length (map field_of xs) ≡ length xs
    as_long [] = refl
    as_long (x ∷ xs) = omega (arith, as_long xs)

-- a field with no fault behind others with none
faultless-behind : (ignore : Bool) (columns : List ColumnValue) (done : List Field) (field : Field) → first_fault ignore columns done ≡ None → field_fault ignore columns field ≡ None → first_fault ignore columns (done ++ field ∷ []) ≡ None
faultless-behind ignore columns done field none here =
    let there = stands_behind (done ++ field ∷ []) done field [] refl in
    let all : take (length done + 1) (done ++ field ∷ []) ≡ done ++ field ∷ [] = sym (ap (λ k. take k (done ++ field ∷ [])) (long done)) ∙ whole (done ++ field ∷ []) in
    ap (first_fault ignore columns) (sym all) ∙ faultless_more ignore columns (done ++ field ∷ []) (length done) field there.0 (ap (first_fault ignore columns) there.1 ∙ none) here
  where
    long : (fs : List Field) → length (fs ++ field ∷ []) ≡ length fs + 1
    long [] = omega arith
    long (f ∷ fs) = omega (arith, long fs)

    whole : (fs : List Field) → take (length fs) fs ≡ fs
    whole [] = refl
    whole (f ∷ fs) = λ i. f ∷ whole fs i

-- one more of them, with no fault
pub one-more : (ignore : Bool) (columns : List ColumnValue) (fields : List Field) (done : List Making) (one : Making) (casts new : List (Option (ℕ × ColumnValue))) (cast : Option (ℕ × ColumnValue))
    → IsNext ignore columns fields done one → one.made ≡ Ok cast → casts ≡ map (placed_cast columns) (map field_of done) → first_fault ignore columns (map field_of done) ≡ None → new ≡ casts ++ cast ∷ []
    → (new ≡ map (placed_cast columns) (map field_of (done ++ one ∷ []))) × (first_fault ignore columns (map field_of (done ++ one ∷ [])) ≡ None)
one-more ignore columns fields done one casts new cast next is before none pushed =
    let own : (cast ≡ placed_cast columns one.field.now) × (field_fault ignore columns one.field.now ≡ None) =
    (subst (λ made. IfOk made (λ cast. cast ≡ placed_cast columns one.field.now)) is next.made.cast, subst (λ made. OnOk made (field_fault ignore columns one.field.now ≡ None)) is next.made.faultless) in
    let ends : map field_of (done ++ one ∷ []) ≡ map field_of done ++ one.field.now ∷ [] = map-append field_of done (one ∷ []) in (
      pushed ∙ ap (λ k. casts ++ k ∷ []) own.0 ∙ ap (λ k. k ++ placed_cast columns one.field.now ∷ []) before ∙ sym (map-append (placed_cast columns) (map field_of done) (one.field.now ∷ [])) ∙ ap (map (placed_cast columns)) (sym ends),
      ap (first_fault ignore columns) ends ∙ faultless-behind ignore columns (map field_of done) one.field.now none own.1,
    )

nothing : {X : Type 0} (xs : List X) → length xs ≡ 0 → xs ≡ []
nothing [] e = refl
nothing (x ∷ xs) e = absurd (omega (arith, e))

-- where all were taken, their fields are all of them
pub all-made : (fields : List Field) (items old new : List Making) (n : ℕ) {A : Type 0} (start : IntoIter Making A) (done : List Making) (now : IntoIter Making A)
    → map field_of items ≡ fields → length items ≡ n → old ≡ items → length new ≡ length old
    → ((i : ℕ) (d : Making) → i < length old → (slice_index_or new i d).field ≡ (slice_index_or old i d).field)
    → into_iter_items start ≡ take n (new ++ drop (length new) items)
    → Yields into_iter_steps start done now → length (into_iter_items now) ≡ 0
    → map field_of done ≡ fields
all-made fields items old new n start done now fields_are count same size kept gives taken ends =
    let whole : new ≡ done =
    sym (all_written items new n count (omega (arith, count, size, ap length same))) ∙ sym gives ∙ taken_front start done now taken ∙ ap (λ l. done ++ l) (nothing (into_iter_items now) ends) ∙ append-nil done in
    sym (ap (map field_of) whole) ∙ same_fields old new size kept ∙ ap (map field_of) same ∙ fields_are
