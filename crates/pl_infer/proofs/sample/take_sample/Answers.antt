use Rattle.std.proofs.Common.{◌≡◌, List, ◌∙◌, sym, ap, subst, map, length, drop, arith}
use Rattle.std.specs.List.{filter_map, list_any}
use Rattle.std.proofs.lemmas.List.{take_at}
use Rattle.std.proofs.lemmas.List.FromFn.{length-map-range_with_len}
use Rattle.pl_cells.specs.NullValues.{HaveTexts}
use Rattle.pl_scan.specs.Items.{record_text}
use Rattle.pl_infer.specs.declared.evidence.Seen.{Seen}
use Rattle.pl_infer.specs.SampleSteps.{type_seen, nothing_seen, unseen, sample_in, with_records}
use Rattle.pl_infer.proofs.ColumnTypeLaws.{types-are, long-is}
use Rattle.pl_infer.proofs.sample.take_sample.Goals as goal

pub add_items-extent-requires-clause-texts : goal.add_items-extent-requires-clause-texts
add_items-extent-requires-clause-texts c =
    let start = c.deref_mut.ensures.value ∙ c.in_ok-columns.ensures.unseen in
    let width = ap (λ (s : List Seen). length s) start ∙ length-map-range_with_len (λ column. nothing_seen) 0 c.args.width in
    subst (λ n. HaveTexts c.args.rules.now.null_values n) (sym width) c.requires.texts

pub returns-clause-types : goal.returns-clause-types
returns-clause-types c =
    let rules = c.args.rules.now in
    let sample = sample_in rules c.args.limit c.args.bytes.now in
    let start : c.deref_mut.result.now ≡ unseen c.args.width = c.deref_mut.ensures.value ∙ c.in_ok-columns.ensures.unseen in
    let new = c.add_items-extent.new.columns in
    let kept = take_at new (drop (length new) c.in_ok-columns.columns.items) c.in_ok-columns.columns.len (omega (arith, c.add_items-extent.auto.columns, c.deref_mut.ensures.len)) in
    c.in_ok-types_seen.ensures.types
    ∙ ap (map (λ (seen : Seen). type_seen seen.types)) (kept ∙ c.add_items-extent.ensures.columns ∙ ap (λ s. with_records rules s (filter_map record_text sample)) start)
    ∙ types-are rules c.args.width sample

pub returns-clause-long : goal.returns-clause-long
returns-clause-long c =
    let rules = c.args.rules.now in
    let sample = sample_in rules c.args.limit c.args.bytes.now in
    let start : c.deref_mut.result.now ≡ unseen c.args.width = c.deref_mut.ensures.value ∙ c.in_ok-columns.ensures.unseen in
    let new = c.add_items-extent.new.columns in
    let kept = take_at new (drop (length new) c.in_ok-columns.columns.items) c.in_ok-columns.columns.len (omega (arith, c.add_items-extent.auto.columns, c.deref_mut.ensures.len)) in
    c.any_has_long_text-has_long_text.ensures
    ∙ ap (list_any (λ (seen : Seen). seen.has_long_text))
    (c.deref.ensures.value ∙ kept ∙ c.add_items-extent.ensures.columns ∙ ap (λ s. with_records rules s (filter_map record_text sample)) start)
    ∙ long-is rules c.args.width sample
