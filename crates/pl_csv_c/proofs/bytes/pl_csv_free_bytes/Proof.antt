-- `pl_csv_free_bytes` makes the box again that `hand_out` took apart, and drops it. A walk by hand, since a raw pointer comes in.
use Rattle.std.proofs.Common.{◌≡◌, List, [], ◌∷◌, refl, sym, ap, subst}
use lib.Dec.{T}
use mir.Raw.{raw as bare}
use mir.Val.{Val, vptr, vunit, has_ty, WT}
use base.Fraction.{full_share}
use base.Logic.{emp, never, id⊢, fst∗}
use base.Fml.{ftrue, fsep, flft}
use prog.Wp.{WpFn}
use types.Logic.{sem}
use types.Kit.{‵, raw, ◌⊛◌, some, later, prop, at_ret, ◌$◌, ◌∵◌, !, qed, done, move, drop, split, split3, join, fsplit, fjoin, pick, suffices, use0, use1, use2, await, rewrite, regoal, feq_i, feq_l, group}
use types.Run.{of_opd, unit_lit, no_more, and_then, first, blocks, exec, returns, enter}
use types.ByLocal.{alloc_all, pass_all, free_all, look_at, get, sets, lands_as, lands_last, env}
use contract.Monad.{fact, fact_i}
use contract.BorrowLft.{◌⊑◌, ⊑_static}
use contract.Running.{tables}
use denote.Builtin.{unit}
use denote.Exit.{yes}
use denote.Memory.{lone}
use denote.Signature.{plain}
use denote.Steps.{nothing, only}
use denote.RawPtr.{RawPtr, Ptr, block_ptr, null_ptr, rawptr_vals, rawptr_Tells, in_a_block}
use denote.Param.NoDrop.{glues}
use denote.Triple.Call.{calls_at, calls_at_last}
use denote.Triple.Clauses.{Lasts, lasts}
use denote.Triple.Spec.{triple_of}
use denote.Triple.Table.{framed}
use denote.Triple.Walked.{Stays, stay_dropped, walk_of, ends_at, Goes-dropped}
use Rattle.std.specs.Box.Ownership.{box_owns}
use Rattle.std.proofs.BoxSteps.Form.{D, B, box_ty, box_typed}
use Rattle.std.proofs.BoxSteps.Steps.{box_out, box_in}
use Rattle.std.proofs.Handle.{heap_val, heap_Tells}
use Rattle.std.proofs.raw_atomic.Walks.{proved}
use Rattle.std.specs.contracts.alloc.Global as Heap
use Rattle.std.specs.contracts.impls.GlobalAllocator.TheImpl.{ghosts, dict}
use Rattle.std.proofs.impls.GlobalAllocator.TheImpl.Met.{passed}
use Rattle.std.specs.contracts.boxed.Box.from_raw as callee
use Rattle.std.proofs.boxed.Box.from_raw.Met.{met}
use Rattle.pl_csv_c.specs.contracts.bytes.KeptBytes as Bytes
use Rattle.pl_csv_c.proofs.BoxOfBytes.{E, Inner, Handle, inner_laws, handle_laws}
use Rattle.pl_csv_c.specs.contracts.bytes.closed as g
use Rattle.pl_csv_c.proofs.bytes.closed.Met as closed_thm
use Rattle.pl_csv_c.specs.contracts.bytes.pl_csv_free_bytes as f
use Rattle.pl_csv_c.proofs.bytes.pl_csv_free_bytes.Statement.{statement}
use Rattle.pl_csv_c.proofs.bytes.pl_csv_free_bytes.Code as code
use Rattle.pl_csv_c.proofs.Destruct++none.drop.Code as none

abbrev stayed : Stays f.ended.signature.params f.ended.kept
stayed = (stay_dropped (plain (λ _. Heap.the_row)) yes, (stay_dropped (plain (λ _. RawPtr)) yes, tt))

pub pl_csv_free_bytes_spec : {M : Type 1} → statement M
unfolding none.code
pl_csv_free_bytes_spec {M} 𝓤 𝓛 𝓜 𝓡 wired =
    let H = 𝓛.H in let 𝓣 = tables 𝓤 H 𝓜 𝓡 𝓡.env in let c = f.clauses 𝓛 𝓜.mem 𝓡.returns in let W = walk_of 𝓛 f.ended stayed c in let fn = code.function in
    let fm = framed 𝓤 H 𝓜 𝓣 in
    proved 𝓛 f.ended stayed c 𝓜 𝓡 (Goes-dropped 𝓛 0 (plain (λ _. Heap.the_row)) yes (λ κs x w. refl), (Goes-dropped 𝓛 0 (plain (λ _. RawPtr)) yes (λ κs x w. refl), tt))
    f.Key.name fn (code.unfolded 𝓤 H 𝓜 𝓡 wired)
    (λ κs. ((λ _. heap_val ∷ []), (rawptr_vals, tt))) (λ κs. (heap_Tells, (rawptr_Tells, tt))) (λ κs qs bounds args x are.
    let a = args.0 in let p = args.1.0 in
    let y : Ptr → W.Ghost = λ s. ((κs, qs, bounds, (a, (s, tt)), (heap_val ∷ [], (rawptr_vals s, tt))), x) in
    qed 𝓛 ((‵ ftrue ⊛ ‵ (fsep (Heap.the_row.own_val a (heap_val ∷ [])) (fsep (RawPtr.own_val p (rawptr_vals p)) ftrue))) ∷ ‵ (box_owns (ghosts.dealloc_token a) Bytes.the_row p x) ∷ []) ∵
    split ! $ drop ! $ fsplit ! $ move ! (1 ∷ []) $ drop ! $ move ! (1 ∷ []) $
    in_a_block ! p (λ s. box_owns (ghosts.dealloc_token a) Bytes.the_row s x) (fst∗ 𝓤 (never 𝓤) (sem 𝓛 (ghosts.dealloc_token a (bare (lone Bytes.the_row.mir)) null_ptr))) (λ b o e.
    regoal ! (λ s. prop (WpFn 𝓤 H 𝓣.C 𝓣.Λ fn (heap_val ∷ rawptr_vals s) (W.post (y s)))) e refl $
    -- [the box; the handle]
    let k = triple_of 𝓛 (callee.signature Inner Handle ghosts dict E.al.drops) (callee.spec Inner Handle ghosts dict E.al.drops 𝓛 𝓜.mem 𝓡.returns) in
    let z : k.Ghost = ((([], ([], tt)), (full_share, (full_share, tt)), tt, (a, (block_ptr b o, tt)), (heap_val ∷ [], (vptr b o ∷ [], tt))), x) in
    let lives₀ = [] ⊑ Bytes.the_row.lives in let lives₁ = [] ⊑ Heap.the_row.lives in
    enter ! 𝓣.C 𝓣.Λ fn (heap_val ∷ vptr b o ∷ []) (W.post (y (block_ptr b o))) $ alloc_all ! (λ l. pass_all ! refl ((tt, ((tt, tt), tt)), ((tt, tt), tt)) $
    let Ev = env fn.locals l in
    first ! $ blocks ! $ sets ! (of_opd ! (get ! refl)) refl (tt, ((tt, tt), tt)) $ sets ! (of_opd ! (get ! refl)) refl (tt, tt) $ sets ! (of_opd ! (get ! refl)) refl (tt, tt) $
    use0 𝓛 (raw (fact 𝓤 lives₁)) (fact_i 𝓤 lives₁ (emp 𝓤) (⊑_static [])) $ join ! $ use0 𝓛 (raw (fact 𝓤 lives₀)) (fact_i 𝓤 lives₀ (emp 𝓤) (⊑_static [])) $ join ! $
    nothing ! $ feq_i ! (List Val) (vptr b o ∷ []) (vptr b o ∷ []) refl $ fjoin ! $ move ! (2 ∷ 0 ∷ []) $ fjoin ! $
    nothing ! $ use0 𝓛 (‵ (flft [] full_share)) (𝓛.lfts.lft-nil full_share) $ join ! $ use0 𝓛 (‵ (flft [] full_share)) (𝓛.lfts.lft-nil full_share) $ join ! $ join ! $ join ! $
    use1 𝓛 (raw (k.pre z)) (id⊢ 𝓤 _) $
    calls_at_last ! fm k (met 𝓤 𝓛 𝓜 𝓡 (code.calls-std_alloc::boxed::Box::from_raw 𝓡.env wired) Inner Handle inner_laws handle_laws ghosts dict E.al.drops
    (passed 𝓡.env (code.calls-std_heap::GlobalAllocator::allocate 𝓡.env wired) (code.calls-std_heap::GlobalAllocator::deallocate 𝓡.env wired) (code.calls-std_heap::GlobalAllocator::grow 𝓡.env wired) (code.calls-std_heap::GlobalAllocator::shrink 𝓡.env wired) M 𝓤 𝓛 𝓜 𝓡)
    (glues "pl_csv_c::Destruct++none::drop" 𝓡.env (code.calls-pl_csv_c::Destruct++none::drop 𝓡.env wired) Handle handle_laws M 𝓤 𝓛 𝓜 𝓡)) z
    (and_then ! (get ! refl) (and_then ! (get ! refl) (no_more !))) (λ u.
    use1 𝓛 (later (some (λ (r : D E). ((‵ (flft [] full_share) ⊛ ‵ (flft [] full_share) ⊛ ‵ ftrue) ⊛ ‵ ((B E).own_val r (u ∷ []))) ⊛
    some (λ (ls : Lasts (callee.ended Inner Handle ghosts dict E.al.drops) z.0.0 z.0.3). ‵ (lasts (callee.ended Inner Handle ghosts dict E.al.drops) z.0.0 z.0.3 ls) ⊛ (raw (fact 𝓤 (r.value ≡ x)) ⊛ raw (fact 𝓤 (r.alloc ≡ a))))))) (id⊢ 𝓤 (k.post z u)) $
    await ! tt $ pick ! (λ r. split ! $ move ! (1 ∷ []) $ pick ! (λ _. split3 ! $ drop ! $ drop ! $ drop ! $ split ! $ drop ! $
    box_out E ! r (u ∷ []) (λ b' o' hw e' wu fw. box_in E ! r b' o' r.value e' refl $ rewrite ! 0 (λ (us : List Val). ‵ ((B E).own_val r us)) (sym wu) refl $
    let typed : T (has_ty (box_ty E) u) × WT u = subst (λ (s : Val). T (has_ty (box_ty E) s) × WT s) (sym (ap only wu)) (box_typed E hw b' o' fw) in
    lands_last ! refl typed $ exec ! 𝓣.C 𝓣.Λ Ev code.Mir.t-2 (at_ret Ev (W.post (y (block_ptr b o)))) $
    sets ! (of_opd ! (get ! refl)) refl typed $
    -- [the box]
    let G = triple_of 𝓛 g.signature (g.spec 𝓛 𝓜.mem 𝓡.returns) in
    let z' : G.Ghost = ((κs, qs, bounds, (r, tt), (u ∷ [], tt)), tt) in
    nothing ! $ move ! (1 ∷ 0 ∷ []) $ join ! $ nothing ! $ join ! $ nothing ! $ move ! (1 ∷ 0 ∷ []) $ use2 𝓛 (raw (G.pre z')) (id⊢ 𝓤 _) $
    calls_at ! fm G (closed_thm.met 𝓤 𝓛 𝓜 𝓡 (code.calls-pl_csv_c::bytes::closed 𝓡.env wired)) z' (and_then ! (get ! refl) (no_more !)) (λ v.
    use1 𝓛 (later (some (λ (n : Unit {0}). (‵ ftrue ⊛ ‵ (unit.own_val n (v ∷ []))) ⊛ some (λ (ws : Lasts g.ended κs (r, tt)). ‵ (lasts g.ended κs (r, tt) ws) ⊛ ‵ ftrue)))) (id⊢ 𝓤 (G.post z' v)) $
    await ! tt $ pick ! (λ n. split ! $ split ! $ drop ! $ feq_l ! (λ is_unit. pick ! (λ ws. split ! $ drop ! $ drop ! $
    lands_as ! (ap only is_unit) refl (tt, tt) $ sets ! (of_opd ! (unit_lit !)) refl (tt, tt) $ returns ! (look_at ! 0 refl) $ free_all ! refl $
    suffices ! _ (ends_at 𝓛 f.ended stayed c (y (block_ptr b o)) vunit tt (tt, (tt, tt)) (tt, (tt, tt))) $
    nothing ! $ feq_i ! _ (vunit ∷ []) _ refl $ nothing ! $ nothing ! $ join ! $ nothing ! $ join ! $ nothing ! $ group ! 3 $ done !)))))))))))
