-- Laws of columns whose cells go into arrays while they are read.
use Rattle.std.proofs.Common.{◌≡◌, ℕ, zero, suc, ◌+◌, ◌<◌, List, [], ◌∷◌, ◌++◌, length, map, take, set, get_or, refl, sym, ◌∙◌, ap, subst, arith}
use Rattle.std.specs.Prelude.{◌≢◌}
use Rattle.pl_csv_c.specs.Arrays.{HavePlain, AreArraysAs}
use Rattle.pl_csv_c.specs.Growing.{IsGrown, AreGrown, ArePlain}
use Rattle.pl_csv_c.specs.Kinds.{kind_of}
use Rattle.pl_csv_c.specs.declared.arrays.Arrays.{Arrays}
use Rattle.pl_csv_c.specs.declared.growing.Growing.{Growing}
use Rattle.pl_csv_c.specs.declared.kinds.Kind.{Kind}
use Rattle.pl_csv_c.specs.declared.kinds.Kind.TheVariants as kind
use Rattle.pl_frame.specs.Frame.{ColumnValue}
use Rattle.pl_frame.specs.FrameParts.{empty_columns, stacked, with_values}
use Rattle.pl_frame.specs.Schema.{Entry}
use Rattle.pl_cells.specs.InitBuffers.{entry_at}
use Rattle.std.proofs.lemmas.List.{take_more, map-append}
use Rattle.pl_rows.proofs.StackLaws.{front_stacked}

-- there are as many
pub AreGrown-length : (columns : List ColumnValue) (all : List Growing) → AreGrown columns all → length columns ≡ length all
AreGrown-length [] [] are = refl
AreGrown-length [] (g ∷ gs) are = absurd are
AreGrown-length (c ∷ cs) [] are = absurd are
AreGrown-length (c ∷ cs) (g ∷ gs) are = ap suc (AreGrown-length cs gs are.1)

-- one of them
pub AreGrown-at : (columns : List ColumnValue) (all : List Growing) (k : ℕ) (d : ColumnValue) (e : Growing) → AreGrown columns all → k < length all → IsGrown (get_or columns k d) (get_or all k e)
AreGrown-at [] [] k d e are inside = absurd (omega arith)
AreGrown-at [] (g ∷ gs) k d e are inside = absurd are
AreGrown-at (c ∷ cs) [] k d e are inside = absurd are
AreGrown-at (c ∷ cs) (g ∷ gs) zero d e are inside = are.0
AreGrown-at (c ∷ cs) (g ∷ gs) (suc k) d e are inside = AreGrown-at cs gs k d e are.1 (omega arith)

-- one of them is another
pub AreGrown-set : (columns : List ColumnValue) (all : List Growing) (k : ℕ) (column : ColumnValue) (growing : Growing) → AreGrown columns all → k < length all → IsGrown column growing
    → AreGrown (set columns k column) (set all k growing)
AreGrown-set [] [] k column growing are inside one = absurd (omega arith)
AreGrown-set [] (g ∷ gs) k column growing are inside one = absurd are
AreGrown-set (c ∷ cs) [] k column growing are inside one = absurd are
AreGrown-set (c ∷ cs) (g ∷ gs) zero column growing are inside one = (one, are.1)
AreGrown-set (c ∷ cs) (g ∷ gs) (suc k) column growing are inside one = (are.0, AreGrown-set cs gs k column growing are.1 (omega arith) one)

-- one of them has the same cells in other arrays
pub AreGrown-same : (columns : List ColumnValue) (all : List Growing) (k : ℕ) (d : ColumnValue) (growing : Growing) → AreGrown columns all → k < length all → IsGrown (get_or columns k d) growing
    → AreGrown columns (set all k growing)
AreGrown-same [] [] k d growing are inside one = absurd (omega arith)
AreGrown-same [] (g ∷ gs) k d growing are inside one = absurd are
AreGrown-same (c ∷ cs) [] k d growing are inside one = absurd are
AreGrown-same (c ∷ cs) (g ∷ gs) zero d growing are inside one = (one, are.1)
AreGrown-same (c ∷ cs) (g ∷ gs) (suc k) d growing are inside one = (are.0, AreGrown-same cs gs k d growing are.1 (omega arith) one)

-- one more
pub AreGrown-more : (columns : List ColumnValue) (all : List Growing) (column : ColumnValue) (growing : Growing) → AreGrown columns all → IsGrown column growing
    → AreGrown (columns ++ column ∷ []) (all ++ growing ∷ [])
AreGrown-more [] [] column growing are one = (one, tt)
AreGrown-more [] (g ∷ gs) column growing are one = absurd are
AreGrown-more (c ∷ cs) [] column growing are one = absurd are
AreGrown-more (c ∷ cs) (g ∷ gs) column growing are one = (are.0, AreGrown-more cs gs column growing are.1 one)

-- the last of them, and those before it
pub record IsLast (columns : List ColumnValue) (all : List Growing) (growing : Growing) : Type 0 where
  pub front : List ColumnValue
  pub last : ColumnValue
  pub is : columns ≡ front ++ last ∷ []
  pub grown : AreGrown front all
  pub plain : ArePlain front
  pub last_grown : IsGrown last growing
  pub last_plain : kind_of last.dtype ≢ kind.Codes

pub last-of : (columns : List ColumnValue) (all : List Growing) (growing : Growing) → AreGrown columns (all ++ growing ∷ []) → ArePlain columns → IsLast columns all growing
last-of [] [] growing are plain = absurd are
last-of [] (g ∷ gs) growing are plain = absurd are
last-of (c ∷ []) [] growing are plain = record { front = []; last = c; is = refl; grown = tt; plain = tt; last_grown = are.0; last_plain = plain.0 }
last-of (c ∷ x ∷ cs) [] growing are plain = absurd are.1
last-of (c ∷ cs) (g ∷ gs) growing are plain =
    let rest = last-of cs gs growing are.1 plain.1 in
    record {
      front = c ∷ rest.front;
      last = rest.last;
      is = ap (λ l. c ∷ l) rest.is;
      grown = (are.0, rest.grown);
      plain = (plain.0, rest.plain);
      last_grown = rest.last_grown;
      last_plain = rest.last_plain;
    }

-- where there are as many others, all have others behind them
pub front_stacked-even : (columns others : List ColumnValue) → length columns ≡ length others → front_stacked columns others ≡ stacked columns others
front_stacked-even [] others same = refl
front_stacked-even (column ∷ columns) [] same = absurd (omega arith)
front_stacked-even (column ∷ columns) (other ∷ others) same = ap (λ l. with_values column (column.values ++ other.values) ∷ l) (front_stacked-even columns others (omega arith))

-- one more column of a schema without cells
empty-more : (schema : List Entry) (places : List ℕ) (i d : ℕ) → i < length places → empty_columns (map (entry_at schema) (take (i + 1) places))
    ≡ empty_columns (map (entry_at schema) (take i places)) ++ record { name = (entry_at schema (get_or places i d)).0; dtype = (entry_at schema (get_or places i d)).1; values = [] } ∷ []
empty-more schema places i d inside =
    ap (λ l. empty_columns (map (entry_at schema) l)) (take_more places i d inside)
    ∙ ap empty_columns (map-append (entry_at schema) (take i places) (get_or places i d ∷ []))
    ∙ map-append (λ entry. record { name = entry.0; dtype = entry.1; values = [] }) (map (entry_at schema) (take i places)) (entry_at schema (get_or places i d) ∷ [])

pub AreGrown-next : (schema : List Entry) (places : List ℕ) (i d : ℕ) (all : List Growing) (one : Growing) → i < length places → AreGrown (empty_columns (map (entry_at schema) (take i places))) all
    → IsGrown (record { name = (entry_at schema (get_or places i d)).0; dtype = (entry_at schema (get_or places i d)).1; values = [] }) one
    → AreGrown (empty_columns (map (entry_at schema) (take (i + 1) places))) (all ++ one ∷ [])
AreGrown-next schema places i d all one inside are is = subst (λ l. AreGrown l (all ++ one ∷ [])) (sym (empty-more schema places i d inside)) (AreGrown-more (empty_columns (map (entry_at schema) (take i places))) all _ one are is)

-- arrays of no codes
pub plain-arrays : (k : Kind) (column : ColumnValue) (arrays : Arrays) → k ≢ kind.Codes → HavePlain k column arrays → AreArraysAs k column arrays
plain-arrays kind.Numbers column arrays apart have = have
plain-arrays kind.Words column arrays apart have = have
plain-arrays kind.Texts column arrays apart have = have
plain-arrays kind.Codes column arrays apart have = absurd (apart refl)
plain-arrays kind.Nowhere column arrays apart have = have
