-- What is written of a cell stands behind a separator unless it is the first.
use Rattle.std.proofs.Common.{◌≡◌, ℕ, ◌≤◌, Bool, true, false, not, if◌then◌else◌, List, [], ◌∷◌, ◌++◌, length, take, refl, ap, sym, subst, ◌∙◌, append_assoc, arith}
use Rattle.std.specs.Prelude.{slice_range}
use Rattle.std.proofs.lemmas.Option.{IfSome_then}
use Rattle.pl_verbatim.specs.Kinds.{is_passed}
use Rattle.pl_verbatim.specs.Changes.{IsPutOf}
use Rattle.pl_verbatim.proofs.FrontKeptLaws.{front-shorter, front-kept, put-behind}
use Rattle.pl_verbatim.proofs.changes.put_read.Goals as goal

pub returns-clause-put : goal.returns-clause-put
returns-clause-put g c =
    let read : is_passed c.args.kind ≡ false = c.requires.read in
    let mark = if not c.args.is_first then c.args.form.now.separator ∷ [] else [] in
    let front = take c.args.place c.args.out.now in
    IfSome_then c.put_cell.result c.put_cell.ensures.put
    (λ put one. record {
      end = one.end;
      next_is = one.next_is;
      after = one.after;
      within = one.within;
      mark_is = one.mark_is;
      part = mark ++ one.written;
      now_is = one.now_is ∙ ap (λ l. l ++ one.written) c.put_byte_if-behind.ensures.text ∙ append_assoc front mark one.written;
      put =
          subst (λ t. IsPutOf t c.args.is_first c.args.separator c.args.quote c.args.form.now c.args.kind (slice_range c.args.text.now c.args.at one.end) (mark ++ one.written)) (sym read)
          (one.written, marked c.args.is_first c.args.form.now.separator one.written, one.cell);
    })
  where
    marked : (first : Bool) (s : ℕ) (written : List ℕ) → (if not first then s ∷ [] else []) ++ written ≡ (if first then written else s ∷ written)
    marked true s written = refl
    marked false s written = refl

pub returns-clause-kept : goal.returns-clause-kept
returns-clause-kept g c =
    let put = c.put_byte_if-behind in
    let high : put.result ≤ length put.new.to = omega (arith, put.ensures.end, c.requires.place) in
    front-shorter c.args.place put.result c.put_cell.new.out put.new.to (put-behind c.args.place put.result c.args.out.now put.new.to _ (omega (arith, c.requires.place)) high put.ensures.text) c.put_cell.ensures.kept
    ∙ front-kept c.args.place put.result c.args.out.now put.new.to _ (omega (arith, c.requires.place)) high put.ensures.text
