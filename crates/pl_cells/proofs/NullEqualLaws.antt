-- Equal null values are the same.
use Rattle.std.proofs.Common.{◌≡◌, ℕ, Bool, true, false, ◌&&◌, List, refl, sym, ap, subst, true≢false}
use Rattle.std.specs.Bool.{Decides}
use Rattle.std.specs.Cmp.{IsEquivalence}
use Rattle.std.specs.Cmp.Lexicographic.{bytes_decides, pointwise_decides}
use Rattle.pl_cells.specs.contracts.null_values.NullValuesEq.TheImpl.Laws as values_laws
use Rattle.pl_cells.specs.contracts.null_values.NullValuesCompiledEq.TheImpl.Laws as compiled_laws
use Rattle.pl_cells.specs.declared.null_values.NullValues.{NullValues}
use Rattle.pl_cells.specs.declared.null_values.NullValues.TheVariants as values
use Rattle.pl_cells.specs.declared.null_values.NullValuesCompiled.{NullValuesCompiled}
use Rattle.pl_cells.specs.declared.null_values.NullValuesCompiled.TheVariants as compiled
use Rattle.pl_cells.specs.NullEqual.{values_equal, compiled_equal, NullValuesAreTold, CompiledAreTold}
use Rattle.pl_cells.specs.NullValues.{entries_equal, entries_equiv}

both : (a b : Bool) → (a && b) ≡ true → (a ≡ true) × (b ≡ true)
both true b e = (refl, e)
both false b e = absurd (true≢false (sym e))

entries_decide : (a b : List ℕ × List ℕ) → Decides (entries_equal a b) (a ≡ b)
entries_decide a b = (
  λ e. let h = both _ _ e in (λ j. ((bytes_decides a.0 b.0).0 h.0 j, (bytes_decides a.1 b.1).0 h.1 j)),
  λ e. subst (λ (t : List ℕ × List ℕ). entries_equal a t ≡ true) e (entries_equiv.refl a),
)

values_same : (a b : NullValues) → values_equal a b ≡ true → a ≡ b
values_same (values.AllColumnsSingle a) (values.AllColumnsSingle b) e = ap values.AllColumnsSingle ((bytes_decides a b).0 e)
values_same (values.AllColumns a) (values.AllColumns b) e = ap values.AllColumns ((pointwise_decides bytes_decides a b).0 e)
values_same (values.Named a) (values.Named b) e = ap values.Named ((pointwise_decides entries_decide a b).0 e)
values_same _ _ e = absurd (true≢false (sym e))

values_equiv : IsEquivalence values_equal
values_equiv = values_laws.laws-law

pub values_told : NullValuesAreTold
values_told a b = (values_same a b, λ e. subst (λ (t : NullValues). values_equal a t ≡ true) e (values_equiv.refl a))

compiled_same : (a b : NullValuesCompiled) → compiled_equal a b ≡ true → a ≡ b
compiled_same (compiled.AllColumnsSingle a) (compiled.AllColumnsSingle b) e = ap compiled.AllColumnsSingle ((bytes_decides a b).0 e)
compiled_same (compiled.AllColumns a) (compiled.AllColumns b) e = ap compiled.AllColumns ((pointwise_decides bytes_decides a b).0 e)
compiled_same (compiled.Columns a) (compiled.Columns b) e = ap compiled.Columns ((pointwise_decides bytes_decides a b).0 e)
compiled_same _ _ e = absurd (true≢false (sym e))

compiled_equiv : IsEquivalence compiled_equal
compiled_equiv = compiled_laws.laws-law

pub compiled_told : CompiledAreTold
compiled_told a b = (compiled_same a b, λ e. subst (λ (t : NullValuesCompiled). compiled_equal a t ≡ true) e (compiled_equiv.refl a))
