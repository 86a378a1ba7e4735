use Rattle.std.proofs.Common.{◌≡◌, ◌++◌, ◌≤◌, ℕ, List, Bor, [], length, map, drop, sym, ◌∙◌, ap, subst}
use Rattle.std.specs.Prelude.{IfSome}
use Rattle.std.specs.List.{concat}
use Rattle.std.proofs.lemmas.List.{take-map}
use Rattle.pl_write.specs.Options.{cell_options}
use Rattle.pl_intake.proofs.TextLaws.{values_of}
use Rattle.pl_regions.specs.Arriving.{IsFrontArrived}
use Rattle.pl_regions.specs.Limits.{IsFull}
use Rattle.pl_regions.specs.Printing.{IsPrintedFront}
use Rattle.pl_regions.specs.declared.kept.Arrived.{Arrived}
use Rattle.pl_regions.proofs.ArrivingLaws.{arrived-whole, arrived-full}
use Rattle.pl_regions.proofs.beside.front_decided.Goals as goal

-- the bytes of texts
abbrev bytes_of : List (Bor (List ℕ)) → List (List ℕ)
bytes_of texts = map (λ t. t.now) texts

pub left_behind-requires : goal.left_behind-requires
left_behind-requires c =
    let texts = c.as_slice-texts.result.now in
    let full = subst (λ some. IfSome some (IsFull c.without_limit-unlimited.result c.args.schema.now (cell_options c.args.options.now) c.args.plan.now.limit (bytes_of texts) c.in_ok-front.field-0.front)) c.in-Some.is c.in_ok-front.ensures.full in
    subst (λ l. c.in_ok-front.field-0.front.end ≤ length (concat l)) (take-map (λ (t : Bor (List ℕ)). t.now) c.in-Some.count texts) full.is.within

pub returns-in-Some-clause-arrived : goal.returns-in-Some-clause-arrived
returns-in-Some-clause-arrived c =
    let plan = c.args.plan.now in
    let schema = c.args.schema.now in
    let o = cell_options c.args.options.now in
    let rest = c.args.rest.now in
    let texts = c.as_slice-texts.result.now in
    let front = c.in_ok-front.field-0.front in
    let arrived : Arrived = record { front = record { end = front.end; rows = front.rows; lines = front.lines }; left = c.in_ok-first.first } in
    let same : bytes_of texts ≡ values_of c.args.tokens.now.items = ap bytes_of c.as_slice-texts.ensures.value ∙ c.in_ok-own.ensures in
    let some = subst (λ some. IfSome some (IsFull c.without_limit-unlimited.result schema o plan.limit (bytes_of texts) front)) c.in-Some.is c.in_ok-front.ensures.full in
    let full = subst (λ p. IsFull p schema o plan.limit (bytes_of texts) front c.in-Some.count) c.without_limit-unlimited.ensures some in
    subst (λ v. IsFrontArrived plan schema o (concat v ++ rest) arrived) same
    (arrived-full plan schema o (bytes_of texts) rest arrived c.in-Some.count c.requires.can.dialect full
    (c.in_ok-first.ensures ∙ ap (λ l. drop front.end (concat l ++ [])) (sym (take-map (λ (t : Bor (List ℕ)). t.now) c.in-Some.count texts))))

pub returns-clause-arrived : goal.returns-clause-arrived
returns-clause-arrived c =
    let plan = c.args.plan.now in
    let schema = c.args.schema.now in
    let o = cell_options c.args.options.now in
    let rest = c.args.rest.now in
    let texts = c.as_slice-texts.result.now in
    let front = c.in_ok-front.field-0.front in
    let arrived : Arrived = record { front = record { end = front.end; rows = front.rows; lines = front.lines }; left = c.in_ok-left.left } in
    let same : bytes_of texts ≡ values_of c.args.tokens.now.items = ap bytes_of c.as_slice-texts.ensures.value ∙ c.in_ok-own.ensures in
    subst (λ v. IsFrontArrived plan schema o (concat v ++ rest) arrived) same
    (arrived-whole plan schema o (concat (bytes_of texts)) rest arrived
    (subst (λ p. IsPrintedFront p schema o (concat (bytes_of texts)) front) c.without_limit-unlimited.ensures c.in_ok-front.ensures.front) c.in_ok-left.ensures)
