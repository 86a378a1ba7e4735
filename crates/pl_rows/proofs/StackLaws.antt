-- Columns that others are put behind.
use Rattle.std.proofs.Common.{◌≡◌, ◌<◌, List, [], ◌∷◌, ◌++◌, length, set, get_or, refl, sym, ap, arith}
use Rattle.pl_frame.specs.Frame.{ColumnValue}
use Rattle.pl_frame.specs.FrameParts.{stacked, with_values, schema_of, HaveSameColumns}
use Rattle.pl_frame.specs.Schema.{Entry}

-- columns of which the first ones have others behind them
abbrev pub front_stacked : List ColumnValue → List ColumnValue → List ColumnValue
front_stacked [] others = []
front_stacked (column ∷ columns) [] = column ∷ columns
front_stacked (column ∷ columns) (other ∷ others) = with_values column (column.values ++ other.values) ∷ front_stacked columns others

pub front_stacked-none : (columns : List ColumnValue) → columns ≡ front_stacked columns []
front_stacked-none [] = refl
front_stacked-none (column ∷ columns) = refl

-- all of them
pub front_stacked-all : (columns others : List ColumnValue) → HaveSameColumns columns others → front_stacked columns others ≡ stacked columns others
front_stacked-all [] others same = refl
front_stacked-all (column ∷ columns) [] same = absurd (cc)
front_stacked-all (column ∷ columns) (other ∷ others) same =
    let rest : schema_of columns ≡ schema_of others = cc in
    ap (λ l. with_values column (column.values ++ other.values) ∷ l) (front_stacked-all columns others rest)

pub length-front_stacked : (columns others : List ColumnValue) → length (front_stacked columns others) ≡ length columns
length-front_stacked [] others = refl
length-front_stacked (column ∷ columns) [] = refl
length-front_stacked (column ∷ columns) (other ∷ others) = omega (arith, length-front_stacked columns others)

-- the next column of as many and of the same types
pub next-type : (columns others rest : List ColumnValue) (other d : ColumnValue) → HaveSameColumns columns (others ++ other ∷ rest)
    → other.dtype ≡ (get_or (front_stacked columns others) (length others) d).dtype
next-type [] [] rest other d same = absurd (cc)
next-type [] (first ∷ others) rest other d same = absurd (cc)
next-type (column ∷ columns) [] rest other d same = let mine : Entry = (column.name, column.dtype) in let its : Entry = (other.name, other.dtype) in let pair : mine ≡ its = cc in sym (ap (λ (e : Entry). e.1) pair)
next-type (column ∷ columns) (first ∷ others) rest other d same =
    let tail : schema_of columns ≡ schema_of (others ++ other ∷ rest) = cc in
    next-type columns others rest other d tail

-- there is one
pub next-inside : (columns others rest : List ColumnValue) (other : ColumnValue) → HaveSameColumns columns (others ++ other ∷ rest) → length others < length columns
next-inside [] [] rest other same = absurd (cc)
next-inside [] (first ∷ others) rest other same = absurd (cc)
next-inside (column ∷ columns) [] rest other same = omega arith
next-inside (column ∷ columns) (first ∷ others) rest other same =
    let tail : schema_of columns ≡ schema_of (others ++ other ∷ rest) = cc in
    let deeper = next-inside columns others rest other tail in
    omega (arith, deeper)

-- one more has another behind it
pub front_stacked-more : (columns others : List ColumnValue) (other d : ColumnValue) → length others < length columns
    → front_stacked columns (others ++ other ∷ []) ≡
    set (front_stacked columns others) (length others) (with_values (get_or (front_stacked columns others) (length others) d) ((get_or (front_stacked columns others) (length others) d).values ++ other.values))
front_stacked-more [] others other d inside = absurd (omega arith)
front_stacked-more (column ∷ []) [] other d inside = refl
front_stacked-more (column ∷ next ∷ columns) [] other d inside = refl
front_stacked-more (column ∷ columns) (first ∷ others) other d inside =
    ap (λ l. with_values column (column.values ++ first.values) ∷ l) (front_stacked-more columns others other d (omega arith))

pub no-more : {X : Type 0} (xs : List X) → length xs ≡ 0 → xs ≡ []
no-more [] none = refl
no-more (x ∷ xs) none = absurd (omega (arith, none))
