use Rattle.std.proofs.Common.{◌≡◌, ◌<◌, ℕ, List, ◌++◌, length, drop, get_or, ap, sym, subst, ◌∙◌, arith}
use Rattle.std.specs.Prelude.{None}
use Rattle.pl_scan.specs.Dialect.{marks_of}
use Rattle.pl_scan.specs.Fields.{extent}
use Rattle.pl_table.specs.declared.block.Spot.TheVariants.{Begin}
use Rattle.pl_table.specs.Entries.{entries}
use Rattle.pl_table.specs.Tables.{Cut, fields_of, AreWithin, AreClosed}
use Rattle.pl_table.specs.Rows.{rows, table_rows}
use Rattle.pl_table.proofs.RowLaws.{behind_lines, rows-whole, rows-closed, left-open}
use Rattle.pl_table.proofs.IndexLaws.{holds, within-entries}
use Rattle.pl_table.proofs.table.fill.Goals as goal

pub place_behind-requires-clause-start : goal.place_behind-requires-clause-start
place_behind-requires-clause-start c =
    let a = c.args in
    let m = marks_of a.dialect.now in
    let text = a.text.now in
    let es = entries m Begin 0 text in
    let S = c.index_text.new.starts.items in
    let F = c.index_text.new.firsts.items in
    let n = c.in_ok-count.count in
    let i = c.in_ok-count.ensures in
    let held = holds S F es n i.starts i.rows i.starts_fit i.rows_fit in
    let at : get_or c.deref-2.result.now n 0 ≡ get_or F n 0 = ap (λ (v : List ℕ). get_or v n 0) c.deref-2.ensures.value in
    subst (λ (v : List ℕ). get_or c.deref-2.result.now n 0 < length v) (sym c.deref.ensures.value) (subst (λ (k : ℕ). k < length S) (sym at) held.last)

pub returns-clause-index : goal.returns-clause-index
returns-clause-index c =
    let a = c.args in
    let m = marks_of a.dialect.now in
    let text = a.text.now in
    let es = entries m Begin 0 text in
    let S = c.index_text.new.starts.items in
    let F = c.index_text.new.firsts.items in
    let n = c.in_ok-count.count in
    let i = c.in_ok-count.ensures in
    let held = holds S F es n i.starts i.rows i.starts_fit i.rows_fit in
    held.index

pub returns-clause-rows : goal.returns-clause-rows
returns-clause-rows c more =
    let a = c.args in
    let m = marks_of a.dialect.now in
    let text = a.text.now in
    let es = entries m Begin 0 text in
    let S = c.index_text.new.starts.items in
    let F = c.index_text.new.firsts.items in
    let n = c.in_ok-count.count in
    let i = c.in_ok-count.ensures in
    let held = holds S F es n i.starts i.rows i.starts_fit i.rows_fit in
    let place : c.place_behind.result ≡ behind_lines 0 es = c.place_behind.ensures ∙ (λ j. get_or (c.deref.ensures.value j) (get_or (c.deref-2.ensures.value j) n 0) 0) ∙ held.place in
    rows-whole m text c.requires.apart more ∙ (λ j. table_rows text (sym held.table j) ++ rows m None (drop (sym place j) text ++ more))

pub returns-clause-closed : goal.returns-clause-closed
returns-clause-closed c =
    let a = c.args in
    let m = marks_of a.dialect.now in
    let text = a.text.now in
    let es = entries m Begin 0 text in
    let S = c.index_text.new.starts.items in
    let F = c.index_text.new.firsts.items in
    let n = c.in_ok-count.count in
    let i = c.in_ok-count.ensures in
    let held = holds S F es n i.starts i.rows i.starts_fit i.rows_fit in
    subst (λ (t : List (List Cut)). AreClosed m (fields_of text t)) (sym held.table) (rows-closed m text c.requires.apart)

pub returns-clause-within : goal.returns-clause-within
returns-clause-within c =
    let a = c.args in
    let m = marks_of a.dialect.now in
    let text = a.text.now in
    let es = entries m Begin 0 text in
    let S = c.index_text.new.starts.items in
    let F = c.index_text.new.firsts.items in
    let n = c.in_ok-count.count in
    let i = c.in_ok-count.ensures in
    let held = holds S F es n i.starts i.rows i.starts_fit i.rows_fit in
    subst (λ (t : List (List Cut)). AreWithin (length text) t) (sym held.table) (within-entries m Begin 0 0 (length text) text (omega arith) (omega arith)).0

pub returns-clause-fits : goal.returns-clause-fits
returns-clause-fits c =
    let a = c.args in
    let m = marks_of a.dialect.now in
    let text = a.text.now in
    let es = entries m Begin 0 text in
    let S = c.index_text.new.starts.items in
    let F = c.index_text.new.firsts.items in
    let n = c.in_ok-count.count in
    let i = c.in_ok-count.ensures in
    let held = holds S F es n i.starts i.rows i.starts_fit i.rows_fit in
    let place : c.place_behind.result ≡ behind_lines 0 es = c.place_behind.ensures ∙ (λ j. get_or (c.deref.ensures.value j) (get_or (c.deref-2.ensures.value j) n 0) 0) ∙ held.place in
    let within = (within-entries m Begin 0 0 (length text) text (omega arith) (omega arith)).1 0 (omega arith) in
    omega (arith, place, within)

pub returns-clause-left : goal.returns-clause-left
returns-clause-left c =
    let a = c.args in
    let m = marks_of a.dialect.now in
    let text = a.text.now in
    let es = entries m Begin 0 text in
    let S = c.index_text.new.starts.items in
    let F = c.index_text.new.firsts.items in
    let n = c.in_ok-count.count in
    let i = c.in_ok-count.ensures in
    let held = holds S F es n i.starts i.rows i.starts_fit i.rows_fit in
    let place : c.place_behind.result ≡ behind_lines 0 es = c.place_behind.ensures ∙ (λ j. get_or (c.deref.ensures.value j) (get_or (c.deref-2.ensures.value j) n 0) 0) ∙ held.place in
    ap (λ j. drop (extent m (drop j text)) (drop j text)) place ∙ left-open m text c.requires.apart
