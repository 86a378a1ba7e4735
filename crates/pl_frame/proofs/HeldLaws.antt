-- Laws of lists of cells whose values are of a type.
use Rattle.std.proofs.Common.{◌≡◌, ℕ, zero, suc, [], ◌∷◌, map, append_assoc, ◌+◌, ◌-◌, ◌<◌, ◌≤◌, Bool, true, false, not, ◌&&◌, true≢false, List, ◌++◌, length, take, drop, replicate, get_or, nat_lt, Option, None, Some, refl, sym, ◌∙◌, ap, subst, arith}
use borrow.Author.Tests.{ltb-true, ltb-false}
use Rattle.std.proofs.lemmas.List.{get_or_append_left, get_or-append_right, get_or-take, get_or-drop, length-append, length-take, length-drop, length-replicate, get_or-replicate, replicate-append-replicate, ext_get_or, map-append, take-map, drop-map, drop-drop}
use Rattle.std.specs.Option.{option_map}
use Rattle.std.specs.Str.{is_utf8}
use Rattle.pl_frame.specs.declared.data_type.DataType.{DataType}
use Rattle.pl_frame.specs.declared.data_type.DataType.TheVariants as dtype
use Rattle.pl_frame.specs.declared.gathered.Gathered.{Gathered}
use Rattle.pl_frame.specs.declared.gathered.Gathered.TheVariants as gathered
use Rattle.pl_frame.specs.Columns.{misfits, HoldsType, text_cells}
use Rattle.pl_frame.specs.Frame.{Scalar, Truth, Number, Letters}
use Rattle.pl_frame.specs.GatheredCells.{cells_so_far, GathersType, SuitsType}
use Rattle.pl_frame.proofs.ColumnLaws.{position-nowhere}
use Rattle.pl_frame.proofs.GatheredLaws.{get_fits}

pub held-append : (type : DataType) (xs ys : List (Option Scalar)) → HoldsType type xs → HoldsType type ys → HoldsType type (xs ++ ys)
held-append type xs ys h k = position-nowhere (misfits type) (xs ++ ys) None each
  where
    each : (i : ℕ) → i < length (xs ++ ys) → misfits type (get_or (xs ++ ys) i None) ≡ false
    each i l = by (nat_lt i (length xs)) refl
      where
        by : (b : Bool) → nat_lt i (length xs) ≡ b → misfits type (get_or (xs ++ ys) i None) ≡ false
        by true e = let here = ltb-true i (length xs) e in ap (misfits type) (get_or_append_left xs ys None i here) ∙ get_fits type xs i h here
        by false e =
            let past = ltb-false i (length xs) e in
            let size = length-append xs ys in
            let inside : i - length xs < length ys = omega (arith, past, l, size) in
            ap (misfits type) (get_or-append_right xs ys (length xs) i None refl past) ∙ get_fits type ys (i - length xs) k inside

pub held-run : (type : DataType) (xs : List (Option Scalar)) (n from : ℕ) → HoldsType type xs → HoldsType type (take n (drop from xs))
held-run type xs n from h = position-nowhere (misfits type) (take n (drop from xs)) None each
  where
    each : (i : ℕ) → i < length (take n (drop from xs)) → misfits type (get_or (take n (drop from xs)) i None) ≡ false
    each i l =
        let a = length-take n (drop from xs) in let b = length-drop from xs in
        let first : i < n = omega (arith, a, l) in
        let inside : from + i < length xs = omega (arith, a, b, l) in
        ap (misfits type) (get_or-take n (drop from xs) i None first ∙ get_or-drop from xs i None) ∙ get_fits type xs (from + i) h inside

-- cells that are gathered in a way for the type, with more of its values behind them
pub suits-more : (type : DataType) (old new : Gathered) (added : List (Option Scalar)) → GathersType type new → SuitsType type old → HoldsType type added →
    cells_so_far type new ≡ cells_so_far type old ++ added → SuitsType type new
suits-more type old new added way suits held e = record { way = way; held = subst (HoldsType type) (sym e) (held-append type (cells_so_far type old) added suits.held held) }

-- values of the type `Null`
nulls_only : (xs : List (Option Scalar)) → HoldsType dtype.Null xs → xs ≡ replicate (length xs) None
nulls_only xs h = ext_get_or None xs (replicate (length xs) None) (sym (length-replicate (length xs) None)) each
  where
    never : (b : Bool) → not (b && false) ≡ true
    never true = refl
    never false = refl

    same : (cell : Option Scalar) → misfits dtype.Null cell ≡ false → cell ≡ None
    same None e = refl
    same (Some (Truth b)) e = absurd (true≢false e)
    same (Some (Number n)) e = absurd (true≢false e)
    same (Some (Letters t)) e = absurd (true≢false (sym (never (is_utf8 t)) ∙ e))

    each : (i : ℕ) → i < length xs → get_or xs i None ≡ get_or (replicate (length xs) None) i None
    each i l = same (get_or xs i None) (get_fits dtype.Null xs i h l) ∙ sym (get_or-replicate (length xs) i None None l)

pub nulls_run : (xs : List (Option Scalar)) (old new from to : ℕ) → HoldsType dtype.Null xs → from ≤ to → to ≤ length xs → new ≡ old + (to - from) →
    replicate new None ≡ replicate old None ++ take (to - from) (drop from xs)
nulls_run xs old new from to h ordered within e =
    let run = take (to - from) (drop from xs) in
    let size : length run ≡ to - from = (let a = length-take (to - from) (drop from xs) in let b = length-drop from xs in omega (arith, a, b, ordered, within)) in
    let nothing : Option Scalar = None in
    ap (λ n. replicate n nothing) e ∙ sym (replicate-append-replicate old (to - from) nothing)
    ∙ ap (λ rest. replicate old nothing ++ rest) (ap (λ n. replicate n nothing) (sym size) ∙ sym (nulls_only run (held-run dtype.Null xs (to - from) from h)))

-- ---- runs of cells

pub cells_run : {X : Type 0} (F : X → Scalar) (xs ys : List (Option X)) (n from : ℕ) →
    map (option_map F) (xs ++ take n (drop from ys)) ≡ map (option_map F) xs ++ take n (drop from (map (option_map F) ys))
cells_run F xs ys n from =
    map-append (option_map F) xs (take n (drop from ys))
    ∙ ap (λ rest. map (option_map F) xs ++ rest) (sym (take-map (option_map F) n (drop from ys)) ∙ ap (take n) (sym (drop-map (option_map F) from ys)))

take_join : {X : Type 0} (a b : ℕ) (xs : List X) → take a xs ++ take b (drop a xs) ≡ take (a + b) xs
take_join zero b xs = ap (λ n. take n xs) (omega arith)
take_join (suc a) zero [] = let next : suc a + 0 ≡ suc a = omega arith in ap (λ n. take n []) (sym next)
take_join (suc a) (suc b) [] = let next : suc a + suc b ≡ suc (a + suc b) = omega arith in ap (λ n. take n []) (sym next)
take_join (suc a) b (x ∷ xs) = let next : suc a + b ≡ suc (a + b) = omega arith in ap (λ rest. x ∷ rest) (take_join a b xs) ∙ ap (λ n. take n (x ∷ xs)) (sym next)

-- a run behind the run that ends where it begins
pub run_join : (start made new values : List (Option Scalar)) (from row end : ℕ) → from ≤ row → row ≤ end → made ≡ start ++ take (row - from) (drop from values) →
    new ≡ made ++ take (end - row) (drop row values) → new ≡ start ++ take (end - from) (drop from values)
run_join start made new values from row end a b before e =
    let there : from + (row - from) ≡ row = omega (arith, a) in
    let all : row - from + (end - row) ≡ end - from = omega (arith, a, b) in
    e ∙ (λ j. before j ++ take (end - row) ((ap (λ n. drop n values) (sym there) ∙ sym (drop-drop (row - from) from values)) j))
    ∙ append_assoc start (take (row - from) (drop from values)) (take (end - row) (drop (row - from) (drop from values)))
    ∙ ap (λ rest. start ++ rest) (take_join (row - from) (end - row) (drop from values) ∙ ap (λ n. take n (drop from values)) all)

-- texts that are kept as codes, with others of the type behind them
pub codes-append : (type : DataType) (given : Gathered) (texts codes now : List (Option (List ℕ))) (values : List (Option Scalar)) → SuitsType type given → given ≡ gathered.Categories texts → now ≡ texts ++ codes
    → text_cells codes ≡ values → HoldsType type values → SuitsType type (gathered.Categories now)
codes-append type given texts codes now values suits is same cells held =
    let own : SuitsType type (gathered.Categories texts) = subst (SuitsType type) is suits in
    record {
      way = own.way;
      held = subst (HoldsType type) (sym (ap text_cells same ∙ map-append (option_map Letters) texts codes ∙ ap (λ (cells : List (Option Scalar)). text_cells texts ++ cells) cells))
          (held-append type (text_cells texts) values own.held held);
    }
