-- Texts that are appended one behind another.
use Rattle.std.proofs.Common.{◌≡◌, ℕ, List, ◌++◌, ◌∙◌, ap, sym, append_assoc}
use Rattle.std.specs.Prelude.{Result, OnOk}
use Rattle.std.proofs.lemmas.Result.{on_ok_weaker}

-- what was appended in two parts is their whole
pub two_parts : {T E : Type 0} (r : Result T E) (old mid new x y whole : List ℕ) → mid ≡ old ++ x → x ++ y ≡ whole → OnOk r (new ≡ mid ++ y) → OnOk r (new ≡ old ++ whole)
two_parts r old mid new x y whole first both last = on_ok_weaker r (λ e. e ∙ (ap (λ l. l ++ y) first ∙ (append_assoc old x y ∙ ap (λ l. old ++ l) both))) last

-- what was written, and then what is left to write
pub written_more : (all to plain x rest left : List ℕ) → to ++ left ≡ all → left ≡ plain ++ (x ++ rest) → ((to ++ plain) ++ x) ++ rest ≡ all
written_more all to plain x rest left so_far next =
    append_assoc (to ++ plain) x rest ∙ append_assoc to plain (x ++ rest) ∙ ap (λ l. to ++ l) (sym next) ∙ so_far
