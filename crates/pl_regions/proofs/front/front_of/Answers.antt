use Rattle.std.proofs.Common.{◌≡◌, ℕ, ◌+◌, List, [], ◌∷◌, ◌++◌, length, map, take, sym, ◌∙◌, ap, subst, refl, arith, Global, Bor}
use Rattle.std.specs.Cow.{cow_slice_items}
use Rattle.std.specs.List.{concat}
use Rattle.std.specs.declared.borrow.CowSlice.{CowSlice}
use Rattle.std.proofs.lemmas.List.{length_push}
use Rattle.pl_write.specs.Options.{cell_options}
use Rattle.pl_verbatim.specs.PrintedTexts.{IsFrontPrinted}
use Rattle.pl_regions.specs.Regions.{lines_in}
use Rattle.pl_regions.proofs.RegionLaws.{lines-joined, IsFrontOf, few-none, IsFrontOf-none, IsFrontOf-more, front-part, front-whole, next-region, full-next}
use Rattle.pl_regions.proofs.front.front_of.Goals as goal

-- the lines of texts
abbrev items_of : List (CowSlice ℕ Global) → List ℕ
items_of lines = concat (map cow_slice_items lines)

-- the bytes of texts
abbrev bytes_of : List (Bor (List ℕ)) → List (List ℕ)
bytes_of texts = map (λ t. t.now) texts

pub loop-place-init : goal.loop-place-init
loop-place-init c =
    let plan = c.args.plan.now in
    let schema = c.args.schema.now in
    let o = cell_options c.args.options.now in
    let front = c.new-front.result in
    record {
      is = subst (λ e. IsFrontOf plan schema o [] e front.rows (items_of front.lines.items)) (sym c.new-front.ensures.end)
          (subst (λ n. IsFrontOf plan schema o [] 0 n (items_of front.lines.items)) (sym c.new-front.ensures.rows)
          (subst (IsFrontOf plan schema o [] 0 0) (sym (ap items_of c.new-front.ensures.lines)) (IsFrontOf-none plan schema o)));
      few = few-none c.args.most front.rows c.new-front.ensures.rows;
    }

pub returns-then-not-is_whole-clause-front : goal.returns-then-not-is_whole-clause-front
returns-then-not-is_whole-clause-front c =
    let plan = c.args.plan.now in
    let schema = c.args.schema.now in
    let o = cell_options c.args.options.now in
    let texts = c.args.texts.now in
    let records = concat (bytes_of texts) in
    let done = c.loop-place.yielded in
    let region = c.in-Some-place.region in
    let next =
    next-region plan schema o texts texts c.args.places.items c.into_iter-place-iterator.result done c.loop-place.place-iterator c.in-Some.place region c.next.new.self
    refl c.requires.placed c.into_iter-place-iterator.ensures.into_iter_gives.0 c.loop-place.yielded_by c.in-Some.ensures.steps.0 c.in-Some-place.is in
    let front = c.loop-place.front in
    let lines = items_of front.lines.items in
    let part = front-part plan schema o records (bytes_of texts) (length done) region front.end front.rows lines c.requires.can.dialect refl next.next c.loop-place.invariant.is next.printed in
    let more : items_of c.append.new.self.items ≡ lines ++ lines_in region = lines-joined cow_slice_items front.lines.items region.lines.items c.append.new.self.items c.in_ok-append.ensures.items in
    let end : c.in-Some-checked_add.end ≡ front.end + region.end = omega (arith, c.in-Some-checked_add.ensures) in
    let rows : c.in-Some-checked_add-2.rows ≡ front.rows + region.rows = omega (arith, c.in-Some-checked_add-2.ensures) in
    subst (λ e. IsFrontPrinted plan schema o records e c.in-Some-checked_add-2.rows (items_of c.append.new.self.items)) (sym end)
    (subst (λ n. IsFrontPrinted plan schema o records (front.end + region.end) n (items_of c.append.new.self.items)) (sym rows)
    (subst (IsFrontPrinted plan schema o records (front.end + region.end) (front.rows + region.rows)) (sym more) part))

pub loop-place-preserved : goal.loop-place-preserved
loop-place-preserved c =
    let plan = c.args.plan.now in
    let schema = c.args.schema.now in
    let o = cell_options c.args.options.now in
    let texts = c.args.texts.now in
    let done = c.loop-place.yielded in
    let region = c.in-Some-place.region in
    let next =
    next-region plan schema o texts texts c.args.places.items c.into_iter-place-iterator.result done c.loop-place.place-iterator c.in-Some.place region c.next.new.self
    refl c.requires.placed c.into_iter-place-iterator.ensures.into_iter_gives.0 c.loop-place.yielded_by c.in-Some.ensures.steps.0 c.in-Some-place.is in
    let front = c.loop-place.front in
    let lines = items_of front.lines.items in
    let more : items_of c.append.new.self.items ≡ lines ++ lines_in region = lines-joined cow_slice_items front.lines.items region.lines.items c.append.new.self.items c.in_ok-append.ensures.items in
    let whole : region.end ≡ length region.text.now = omega (arith, c.if-not-is_whole.false) in
    let count : length (done ++ c.in-Some.place ∷ []) ≡ length done + 1 = length_push done c.in-Some.place in
    let end : c.in-Some-checked_add.end ≡ front.end + region.end = omega (arith, c.in-Some-checked_add.ensures) in
    let rows : c.in-Some-checked_add-2.rows ≡ front.rows + region.rows = omega (arith, c.in-Some-checked_add-2.ensures) in
    record {
      is = subst (λ t. IsFrontOf plan schema o t c.in-Some-checked_add.end c.in-Some-checked_add-2.rows (items_of c.append.new.self.items)) (sym (ap (λ k. take k (bytes_of texts)) count ∙ next.next))
          (subst (λ e. IsFrontOf plan schema o (take (length done) (bytes_of texts) ++ region.text.now ∷ []) e c.in-Some-checked_add-2.rows (items_of c.append.new.self.items)) (sym end)
          (subst (λ n. IsFrontOf plan schema o (take (length done) (bytes_of texts) ++ region.text.now ∷ []) (front.end + region.end) n (items_of c.append.new.self.items)) (sym rows)
          (subst (IsFrontOf plan schema o (take (length done) (bytes_of texts) ++ region.text.now ∷ []) (front.end + region.end) (front.rows + region.rows)) (sym more)
          (IsFrontOf-more plan schema o (take (length done) (bytes_of texts)) region front.end front.rows lines c.requires.can.dialect c.loop-place.invariant.is next.printed whole))));
      few = c.is_past.ensures.few c.if-is_past.false;
    }

pub returns-then-is_past-clause-front : goal.returns-then-is_past-clause-front
returns-then-is_past-clause-front c =
    front-whole c.args.plan.now c.args.schema.now (cell_options c.args.options.now) (concat (bytes_of c.args.texts.now)) (bytes_of c.args.texts.now) (length c.loop-place.yielded)
    c.loop-place.front.end c.loop-place.front.rows (items_of c.loop-place.front.lines.items) refl c.loop-place.invariant.is

pub returns-then-is_past-clause-full : goal.returns-then-is_past-clause-full
returns-then-is_past-clause-full c =
    let plan = c.args.plan.now in
    let schema = c.args.schema.now in
    let o = cell_options c.args.options.now in
    let texts = c.args.texts.now in
    let done = c.loop-place.yielded in
    let region = c.in-Some-place.region in
    let next =
    next-region plan schema o texts texts c.args.places.items c.into_iter-place-iterator.result done c.loop-place.place-iterator c.in-Some.place region c.next.new.self
    refl c.requires.placed c.into_iter-place-iterator.ensures.into_iter_gives.0 c.loop-place.yielded_by c.in-Some.ensures.steps.0 c.in-Some-place.is in
    let past = c.if-is_past.ensures.past in
    full-next plan schema o c.args.most (bytes_of texts) (length done) region c.loop-place.front past.0 c.requires.can.dialect next c.loop-place.invariant.is past.1
    (let above = past.2 in omega (arith, above, c.in-Some-checked_add-2.ensures))

pub returns-clause-front : goal.returns-clause-front
returns-clause-front c =
    front-whole c.args.plan.now c.args.schema.now (cell_options c.args.options.now) (concat (bytes_of c.args.texts.now)) (bytes_of c.args.texts.now) (length c.loop-place.yielded)
    c.loop-place.front.end c.loop-place.front.rows (items_of c.loop-place.front.lines.items) refl c.loop-place.invariant.is
