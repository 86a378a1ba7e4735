-- What is known of columns, field by field and record by record.
use Rattle.std.proofs.Common.{◌≡◌, ℕ, zero, suc, ◌+◌, ◌-◌, ◌<◌, ◌≤◌, Bool, true, false, List, [], ◌∷◌, ◌++◌, length, take, drop, set, get_or, refl, sym, ◌∙◌, ap, append_assoc, append-nil, arith, true≢false, length-drop}
use Rattle.std.specs.Prelude.{Option, None, Some}
use Rattle.std.specs.List.{filter_map}
use Rattle.std.proofs.lemmas.Bool.Decides.{nat_tests}
use Rattle.std.proofs.lemmas.List.{drop_more, drop_all, take_all, take_more_set, drop-set-lt, take-append-drop, drop-drop}
use Rattle.pl_infer.specs.declared.evidence.EvidenceRules.{EvidenceRules}
use Rattle.pl_infer.specs.declared.evidence.Seen.{Seen}
use Rattle.pl_scan.specs.Dialect.{marks_of, comment_of}
use Rattle.pl_scan.specs.Fields.{marked_fields}
use Rattle.pl_scan.specs.Items.{ItemText, CommentText, RecordText, text_of, item, items, items_behind, record_text}
use Rattle.pl_scan.proofs.ItemLaws.{items-nil, items-step, items_behind-step}
use Rattle.pl_infer.specs.Evidence.{sampled}
use Rattle.pl_infer.specs.Sample.{left_behind, bytes_of_items}
use Rattle.pl_infer.specs.SampleSteps.{with_field, with_fields, with_records, with_item, sample_in, may_go_on, one_less}

-- one field more of a record
pub fields-more : (rules : EvidenceRules) (now : List Seen) (field : List ℕ × Bool) (left : List (List ℕ × Bool)) (i : ℕ) (old : Seen) → i < length now → get_or now i old ≡ old
    → take (i + 1) (set now i (with_field rules i old field.0)) ++ with_fields rules (i + 1) left (drop (i + 1) (set now i (with_field rules i old field.0)))
    ≡ take i now ++ with_fields rules i (field ∷ left) (drop i now)
fields-more rules now field left i old inside is =
    let new = with_field rules i old field.0 in
    let here : drop i now ≡ old ∷ drop (i + 1) now = drop_more now i old inside ∙ ap (λ s. s ∷ drop (i + 1) now) is in
    let rest : drop (i + 1) (set now i new) ≡ drop (i + 1) now = drop-set-lt (i + 1) now i new (omega arith) in
    ap (λ l. l ++ with_fields rules (i + 1) left (drop (i + 1) (set now i new))) (take_more_set now i new inside)
    ∙ ap (λ d. (take i now ++ new ∷ []) ++ with_fields rules (i + 1) left d) rest
    ∙ append_assoc (take i now) (new ∷ []) (with_fields rules (i + 1) left (drop (i + 1) now))
    ∙ sym (ap (λ d. take i now ++ with_fields rules i (field ∷ left) d) here)

-- no column is left
pub with_fields-nil : (rules : EvidenceRules) (i : ℕ) (left : List (List ℕ × Bool)) → with_fields rules i left [] ≡ []
with_fields-nil rules i [] = refl
with_fields-nil rules i (field ∷ left) = refl

pub fields-all : (rules : EvidenceRules) (now : List Seen) (left : List (List ℕ × Bool)) (i : ℕ) → length now ≤ i → take i now ++ with_fields rules i left (drop i now) ≡ now
fields-all rules now left i past =
    ap (λ d. take i now ++ with_fields rules i left d) (drop_all i now past)
    ∙ ap (λ l. take i now ++ l) (with_fields-nil rules i left)
    ∙ append-nil (take i now)
    ∙ take_all i now past

-- ---- item by item

-- the first of a sample
pub sampled-more : (left : Option ℕ) (first : ItemText) (others : List ItemText) → may_go_on left ≡ true → sampled left (first ∷ others) ≡ first ∷ sampled (one_less left) others
sampled-more None first others on = refl
sampled-more (Some zero) first others on = absurd (true≢false (sym on))
sampled-more (Some (suc n)) first others on = let same : suc n - 1 ≡ n = omega arith in sym (ap (λ k. first ∷ take k others) same)

pub sampled-past : (left : Option ℕ) (given : List ItemText) → may_go_on left ≡ false → sampled left given ≡ []
sampled-past None given off = absurd (true≢false off)
sampled-past (Some zero) given off = refl
sampled-past (Some (suc n)) given off = absurd (grind (arith, nat_tests, off))

pub sampled-nil : (left : Option ℕ) → sampled left [] ≡ []
sampled-nil None = refl
sampled-nil (Some zero) = refl
sampled-nil (Some (suc n)) = refl

-- what a loop over the items of a sample has done where it comes to an item
pub record HasSampled (rules : EvidenceRules) (limit : Option ℕ) (b : List ℕ) (before now : List Seen) (left : Option ℕ) (count : ℕ) (behind rest : List ℕ) : Type 0 where
  pub columns : with_records rules now (filter_map record_text (sample_in rules left rest)) ≡ with_records rules before (filter_map record_text (sample_in rules limit b))
  pub counted : count + length (sample_in rules left rest) ≡ length (sample_in rules limit b)
  pub place : left_behind behind (take (length (sample_in rules left rest)) (items_behind (marks_of rules.dialect) (comment_of rules.dialect) rest))
      ≡ left_behind b (take (length (sample_in rules limit b)) (items_behind (marks_of rules.dialect) (comment_of rules.dialect) b))
  pub same : length now ≡ length before
  pub few : count + length rest ≤ length b
  pub short : length behind ≤ length b

sample-more : (rules : EvidenceRules) (left : Option ℕ) (rest : List ℕ) (n : ℕ) → 0 < length rest → may_go_on left ≡ true
    → n ≡ length (text_of (item (marks_of rules.dialect) (comment_of rules.dialect) rest))
    → sample_in rules left rest ≡ item (marks_of rules.dialect) (comment_of rules.dialect) rest ∷ sample_in rules (one_less left) (drop (n + 1) rest)
sample-more rules left rest n some on size =
    let m = marks_of rules.dialect in
    let comment = comment_of rules.dialect in
    ap (sampled left) (items-step m comment rest some)
    ∙ sampled-more left (item m comment rest) (items m comment (drop (length (text_of (item m comment rest)) + 1) rest)) on
    ∙ sym (ap (λ k. item m comment rest ∷ sample_in rules (one_less left) (drop (k + 1) rest)) size)

length-with_fields : (rules : EvidenceRules) (i : ℕ) (left : List (List ℕ × Bool)) (now : List Seen) → length (with_fields rules i left now) ≡ length now
length-with_fields rules i [] now = refl
length-with_fields rules i (field ∷ left) [] = refl
length-with_fields rules i (field ∷ left) (seen ∷ now) = ap suc (length-with_fields rules (i + 1) left now)

length-with_item : (rules : EvidenceRules) (now : List Seen) (first : ItemText) → length (with_item rules now first) ≡ length now
length-with_item rules now (CommentText b) = refl
length-with_item rules now (RecordText b) = length-with_fields rules 0 (marked_fields (marks_of rules.dialect) b) now

with_records-item : (rules : EvidenceRules) (now : List Seen) (first : ItemText) (others : List ItemText)
    → with_records rules (with_item rules now first) (filter_map record_text others) ≡ with_records rules now (filter_map record_text (first ∷ others))
with_records-item rules now (CommentText b) others = refl
with_records-item rules now (RecordText b) others = refl

-- one item more was sampled
pub HasSampled-more : (rules : EvidenceRules) (limit : Option ℕ) (b : List ℕ) (before now new : List Seen) (left : Option ℕ) (count : ℕ) (behind rest : List ℕ) (first : ItemText) (n : ℕ) (next last : List ℕ)
    → HasSampled rules limit b before now left count behind rest → 0 < length rest → may_go_on left ≡ true
    → first ≡ item (marks_of rules.dialect) (comment_of rules.dialect) rest → n ≡ length (text_of first) → new ≡ with_item rules now first
    → last ≡ drop n rest → next ≡ drop 1 last
    → HasSampled rules limit b before new (one_less left) (count + 1) last next
HasSampled-more rules limit b before now new left count behind rest first n next last done some on is size added last_is next_is =
    let m = marks_of rules.dialect in
    let comment = comment_of rules.dialect in
    let at : n ≡ length (text_of (item m comment rest)) = size ∙ ap (λ t. length (text_of t)) is in
    let there : next ≡ drop (n + 1) rest = next_is ∙ ap (drop 1) last_is ∙ drop-drop 1 n rest in
    let more : sample_in rules left rest ≡ first ∷ sample_in rules (one_less left) next =
    sample-more rules left rest n some on at ∙ ap (λ t. t ∷ sample_in rules (one_less left) (drop (n + 1) rest)) (sym is) ∙ sym (ap (λ r. first ∷ sample_in rules (one_less left) r) there) in
    let parts : items_behind m comment rest ≡ (first, last) ∷ items_behind m comment next =
    items_behind-step m comment rest some
    ∙ sym (ap (λ k. (item m comment rest, drop k rest) ∷ items_behind m comment (drop (k + 1) rest)) at)
    ∙ sym (ap (λ t. (t, drop n rest) ∷ items_behind m comment (drop (n + 1) rest)) is)
    ∙ sym (ap (λ l. (first, l) ∷ items_behind m comment (drop (n + 1) rest)) last_is)
    ∙ sym (ap (λ r. (first, last) ∷ items_behind m comment r) there) in
    record {
      columns =
          ap (λ s. with_records rules s (filter_map record_text (sample_in rules (one_less left) next))) added
          ∙ with_records-item rules now first (sample_in rules (one_less left) next)
          ∙ sym (ap (λ s. with_records rules now (filter_map record_text s)) more)
          ∙ done.columns;
      counted = grind (arith, ap (λ (s : List ItemText). length s) more, done.counted);
      place =
          sym (ap (λ s. left_behind behind (take (length s) (items_behind m comment rest))) more ∙ ap (λ p. left_behind behind (take (suc (length (sample_in rules (one_less left) next))) p)) parts)
          ∙ done.place;
      same = ap (λ s. length s) added ∙ length-with_item rules now first ∙ done.same;
      few = rw there (omega (arith, length-drop (n + 1) rest, done.few));
      short = rw last_is (omega (arith, length-drop n rest, done.few));
    }

-- the sample is at its end
pub HasSampled-past : (rules : EvidenceRules) (limit : Option ℕ) (b : List ℕ) (before now : List Seen) (left : Option ℕ) (count : ℕ) (behind rest : List ℕ)
    → HasSampled rules limit b before now left count behind rest → sample_in rules left rest ≡ []
    → (now ≡ with_records rules before (filter_map record_text (sample_in rules limit b)))
    × (count ≡ length (sample_in rules limit b))
    × (length b - length behind ≡ bytes_of_items (marks_of rules.dialect) (comment_of rules.dialect) count b)
HasSampled-past rules limit b before now left count behind rest done none =
    let m = marks_of rules.dialect in
    let comment = comment_of rules.dialect in
    let count_is : count ≡ length (sample_in rules limit b) = grind (arith, ap (λ (s : List ItemText). length s) none, done.counted) in
    let place : behind ≡ left_behind b (take count (items_behind m comment b)) =
    sym (ap (λ (s : List ItemText). left_behind behind (take (length s) (items_behind m comment rest))) none) ∙ done.place ∙ sym (ap (λ k. left_behind b (take k (items_behind m comment b))) count_is) in
    (sym (ap (λ s. with_records rules now (filter_map record_text s)) none) ∙ done.columns, count_is, ap (λ l. length b - length l) place)

-- no text is left
pub sample-nil : (rules : EvidenceRules) (left : Option ℕ) (rest : List ℕ) → length rest ≡ 0 → sample_in rules left rest ≡ []
sample-nil rules left [] none = ap (sampled left) (items-nil (marks_of rules.dialect) (comment_of rules.dialect)) ∙ sampled-nil left
sample-nil rules left (x ∷ rest) none = absurd (omega arith)
