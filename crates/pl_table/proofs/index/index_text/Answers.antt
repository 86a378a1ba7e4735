use Rattle.std.proofs.Common.{◌≡◌, ℕ, ◌+◌, ◌≤◌, List, ◌++◌, map, length, take, arith, ◌∙◌, ap, ap₂, sym, subst}
use Rattle.std.proofs.lemmas.List.{take-append-drop, length-append}
use Rattle.pl_scan.specs.Dialect.{marks_of}
use Rattle.pl_table.specs.declared.block.Spot.TheVariants.{Begin}
use Rattle.pl_table.specs.Entries.{entries, place_behind, row_ends}
use Rattle.pl_table.proofs.EntryLaws.{length-entries, length-row_ends}
use Rattle.pl_table.proofs.FillLaws.{written-back, length-places, few-front, starts-step, rows-step}
use Rattle.pl_table.proofs.index.index_text.Goals as goal

pub make_room-requires-in-loop-rest-clause-small : goal.make_room-requires-in-loop-rest-clause-small
make_room-requires-in-loop-rest-clause-small c =
    let m = marks_of c.args.dialect.now in
    let l = c.loop-rest in
    let text = c.args.text.now in
    let es = entries m Begin 0 text in
    let few = length-entries m Begin 0 text in
    let front = few-front (l.count + 1) l.firsts.items _ _ l.invariant.rows_fit l.invariant.rows in
    omega (arith, few, front, length-row_ends 0 es, c.requires.short)

pub overflow_cast-fields : goal.overflow_cast-fields
overflow_cast-fields c =
    let m = marks_of c.args.dialect.now in
    let l = c.loop-rest in
    let text = c.args.text.now in
    let es = entries m Begin 0 text in
    let few = length-entries m Begin 0 text in
    let front = few-front (l.fields + 1) l.starts.items _ _ l.invariant.starts_fit l.invariant.starts in
    omega (arith, few, front, length-places es, c.requires.short)

pub put_counts-count-requires-clause-before : goal.put_counts-count-requires-clause-before
put_counts-count-requires-clause-before c =
    let m = marks_of c.args.dialect.now in
    let l = c.loop-rest in
    let text = c.args.text.now in
    let es = entries m Begin 0 text in
    let few = length-entries m Begin 0 text in
    let front = few-front (l.fields + 1) l.starts.items _ _ l.invariant.starts_fit l.invariant.starts in
    omega (arith, few, front, length-places es, c.requires.short)

pub make_room-requires-in-loop-rest-2-clause-small : goal.make_room-requires-in-loop-rest-2-clause-small
make_room-requires-in-loop-rest-2-clause-small c =
    let m = marks_of c.args.dialect.now in
    let l = c.loop-rest in
    let text = c.args.text.now in
    let es = entries m Begin 0 text in
    let few = length-entries m Begin 0 text in
    let front = few-front (l.fields + 1) l.starts.items _ _ l.invariant.starts_fit l.invariant.starts in
    omega (arith, few, front, length-places es, c.requires.short)

pub loop-rest-preserved : goal.loop-rest-preserved
loop-rest-preserved c =
    let m = marks_of c.args.dialect.now in
    let l = c.loop-rest in
    let piece = c.split_at.result.0.now in
    let others = c.split_at.result.1.now in
    let b = c.ends_of_block-block.ensures in
    let small : length piece ≤ 64 = omega (arith, c.split_at.ensures.front_len) in
    let whole : piece ++ others ≡ l.rest.now = ap₂ (λ (x y : List ℕ). x ++ y) c.split_at.ensures.front c.split_at.ensures.back ∙ take-append-drop _ l.rest.now in
    let F = c.make_room-in-loop-rest.new.to in
    let S = c.make_room-in-loop-rest-2.new.to in
    let put_f = c.put_counts-count.ensures in
    let put_s = c.put_places-fields.ensures in
    let long_f : F.len ≡ length c.put_counts-count.new.out = omega (arith, F.ok, put_f.len, c.deref_mut.ensures.len) in
    let long_s : S.len ≡ length c.put_places-fields.new.out = omega (arith, S.ok, put_s.len, c.deref_mut-in-loop-rest.ensures.len) in
    let back_f = written-back F.items c.put_counts-count.new.out F.len long_f in
    let back_s = written-back S.items c.put_places-fields.new.out S.len long_s in
    let bits = c.ends_of_block-block.result in
    let more = c.put_places-fields.result in
    let found = c.put_counts-count.result in
    record {
      place = omega (arith, l.invariant.place, ap length whole, simp length-append at (ap length whole));
      starts =
          ap (λ (v : List ℕ). take (l.fields + more + 1) v ++ map place_behind (entries m bits.behind (l.place + length piece) others)) back_s
          ∙ starts-step m l.at l.place piece others small bits.ends bits.lines bits.behind b.ends b.lines b.behind l.fields more l.starts.items c.deref_mut-in-loop-rest.result.now c.put_places-fields.new.out put_s.written
          (ap (take (l.fields + 1)) c.deref_mut-in-loop-rest.ensures.value ∙ c.in_ok-make_room-4.ensures.same)
          ∙ ap (λ (t : List ℕ). take (l.fields + 1) l.starts.items ++ map place_behind (entries m l.at l.place t)) whole
          ∙ l.invariant.starts;
      rows =
          ap (λ (v : List ℕ). take (l.count + found + 1) v ++ row_ends (l.fields + more) (entries m bits.behind (l.place + length piece) others)) back_f
          ∙ rows-step m l.at l.place piece others small bits.ends bits.lines bits.behind b.ends b.lines b.behind l.fields more l.count found l.firsts.items c.deref_mut.result.now c.put_counts-count.new.out put_s.count put_f.written
          (ap (take (l.count + 1)) c.deref_mut.ensures.value ∙ c.in_ok-make_room-3.ensures.same)
          ∙ ap (λ (t : List ℕ). take (l.count + 1) l.firsts.items ++ row_ends l.fields (entries m l.at l.place t)) whole
          ∙ l.invariant.rows;
      starts_fit = subst (λ (v : List ℕ). l.fields + more + 1 ≤ length v) (sym back_s) (omega (arith, long_s, S.ok, c.in_ok-make_room-4.ensures.room, put_s.few));
      rows_fit = subst (λ (v : List ℕ). l.count + found + 1 ≤ length v) (sym back_f) (omega (arith, long_f, F.ok, c.in_ok-make_room-3.ensures.room, put_f.few));
    }
