-- Laws of counts.
use Rattle.std.proofs.Common.{◌≡◌, ℕ, Bool, List, Bor, Option, None, Some, Result, Ok, Err, if◌then◌else◌, refl, sym, ◌∙◌, ap, subst, inl, inr}
use Rattle.std.specs.Prelude.{◌↔◌}
use Rattle.std.specs.Option.{option_copied, option_map}
use Rattle.pl_csv.specs.Counting.{IsCountOf, compressed, no_dialect}
use Rattle.pl_frame.specs.Compression.{is_compressed}
use Rattle.pl_frame.specs.Dialect.{Marks, IsDialect}
use Rattle.pl_frame.specs.declared.error.PolarsError.{PolarsError}
use Rattle.pl_scan.specs.Comment.{prefix_of, prefix_bytes}
use Rattle.pl_scan.specs.RowCount.{row_count}
use Rattle.pl_scan.specs.declared.comment.CommentPrefix.{CommentPrefix}

prefix-is : (given : Option (Bor CommentPrefix)) → prefix_of given ≡ option_map prefix_bytes (option_copied given)
prefix-is None = refl
prefix-is (Some prefix) = refl

-- the bytes of a prefix that is lent
pub prefix-lent : (given : Option (Bor CommentPrefix)) (prefix : Option CommentPrefix) → option_copied given ≡ prefix → prefix_of given ≡ option_map prefix_bytes prefix
prefix-lent given prefix e = prefix-is given ∙ ap (option_map prefix_bytes) e

-- rows were counted
pub counting-rows : (h : Bool) (m : Marks) (given comment : Option (List ℕ)) (input : List ℕ) (mark : Bool) (rows : ℕ) (answer : Result ℕ PolarsError) → given ≡ comment →
    IsDialect m given × (row_count h m given input ≡ rows) → mark ≡ is_compressed input → answer ≡ (if mark then Err compressed else Ok rows) → IsCountOf h m comment input answer
counting-rows h m given comment input mark rows answer e is mark_is answer_is =
    let rows_are : rows ≡ row_count h m comment input = sym is.1 ∙ ap (λ g. row_count h m g input) e in
    inr (subst (IsDialect m) e is.0, answer_is ∙ (λ j. if mark_is j then Err compressed else Ok (rows_are j)))

err_ok : (fault : PolarsError) (n : ℕ) → ◌≡◌ {A = Result ℕ PolarsError} (Err fault) (Ok n) → ⊥
err_ok fault n e = cc

-- rows were not counted
pub counting-fault : (h : Bool) (m : Marks) (given comment : Option (List ℕ)) (input : List ℕ) (fault : PolarsError) → given ≡ comment →
    (◌≡◌ {A = Result ℕ PolarsError} (Err fault) (Err no_dialect) ↔ (¬ IsDialect m given)) →
    ((n : ℕ) → ◌≡◌ {A = Result ℕ PolarsError} (Err fault) (Ok n) ↔ (IsDialect m given × (row_count h m given input ≡ n))) → IsCountOf h m comment input (Err fault)
counting-fault h m given comment input fault e dialect rows =
    let none : IsDialect m given → ⊥ = λ is. err_ok fault (row_count h m given input) ((rows (row_count h m given input)).1 (is, refl)) in
    inl (λ is. none (subst (IsDialect m) (sym e) is), dialect.1 none)
