use Rattle.std.proofs.Common.{ℕ, List, length, ap, sym, subst, ◌∙◌}
use Rattle.std.specs.Prelude.{Some}
use Rattle.pl_table.specs.Tables.{cut_text, IsWithin}
use Rattle.pl_table.specs.Index.{cut_at}
use Rattle.pl_table.proofs.TableLaws.{field-none, field-some, field-within}
use Rattle.pl_table.proofs.table.front_of.Goals as goal

pub placed_at-requires-clause-within : goal.placed_at-requires-clause-within
placed_at-requires-clause-within c =
    let a = c.args in
    subst (λ (i : ℕ). IsWithin (length a.text.now) (cut_at a.starts.now i)) (sym c.in-Some.ensures.some)
    (field-within a.starts.now a.firsts.now a.count a.row c.requires.row (length a.text.now) a.column c.in-Some.ensures.inside c.requires.within)

pub returns-in-Some-clause-field : goal.returns-in-Some-clause-field
returns-in-Some-clause-field c =
    let a = c.args in
    ap (λ (f : List ℕ). Some f) (c.placed_at.ensures.text ∙ ap (λ (i : ℕ). cut_text a.text.now (cut_at a.starts.now i)) c.in-Some.ensures.some)
    ∙ sym (field-some a.starts.now a.firsts.now a.count a.row c.requires.row a.text.now a.column c.in-Some.ensures.inside)

pub returns-in-None-clause-field : goal.returns-in-None-clause-field
returns-in-None-clause-field c = let a = c.args in sym (field-none a.starts.now a.firsts.now a.count a.row c.requires.row a.text.now a.column c.in-None.ensures.none)
