-- Texts told to a sink, one after another.
use Rattle.std.proofs.Common.{◌≡◌, ℕ, ◌≤◌, Bool, true, false, List, ◌++◌, take, drop, append_assoc, refl, sym, ◌∙◌, ap, arith, inl, inr}
use Rattle.std.specs.Prelude.{◌⊎◌}
use Rattle.std.proofs.lemmas.List.{take-append-drop}
use Rattle.pl_frame.specs.Causes.{Rose}
use Rattle.pl_frame.proofs.Known.{Appends-more}
use Rattle.pl_write.specs.Writing.{AppendsPrefix}
use Rattle.pl_write.proofs.WriteLaws.{AppendsPrefix-from}
use Rattle.pl_csv.specs.Telling.{IsTelling, IsTold}
use Rattle.pl_csv.specs.Views.{SinkView}

-- a count that rose later has risen since earlier
Rose-earlier : (f g h : ℕ) → f ≤ g → Rose g h → Rose f h
Rose-earlier f g h earlier rose = omega (arith, earlier, rose)

false_true : {X : Type 0} → ◌≡◌ {A = Bool} false true → X
false_true e = cc

-- the first text was cut short
pub telling-cut : (text other : List ℕ) (before now : SinkView) → IsTelling false text before now → IsTelling false (text ++ other) before now
telling-cut text other before now told = record {
  all = λ e. false_true e;
  part = prefix told.part;
  rose = told.rose;
  later = told.later;
  later_wants = told.later_wants;
}
  where
    prefix : AppendsPrefix before.received now.received text → AppendsPrefix before.received now.received (text ++ other)
    prefix (n, part) =
        AppendsPrefix-from before.received now.received (take n text) (drop n text ++ other) (text ++ other)
        (sym (append_assoc (take n text) (drop n text) other) ∙ ap (λ l. l ++ other) (take-append-drop n text))
        part

-- the first text was told, and then another
pub telling-then : (text other : List ℕ) (answer : Bool) (before between now : SinkView) → IsTelling true text before between → IsTelling answer other between now → IsTelling answer (text ++ other) before now
telling-then text other answer before between now told more = record {
  all = λ e. Appends-more before.received between.received now.received text other (told.all refl) (more.all e);
  part = prefix more.part;
  rose = λ e. rose (more.rose e);
  later = omega (arith, told.later, more.later);
  later_wants = omega (arith, told.later_wants, more.later_wants);
}
  where
    prefix : AppendsPrefix between.received now.received other → AppendsPrefix before.received now.received (text ++ other)
    prefix (n, part) =
        AppendsPrefix-from before.received now.received (text ++ take n other) (drop n other) (text ++ other)
        (append_assoc text (take n other) (drop n other) ∙ ap (λ l. text ++ l) (take-append-drop n other))
        (Appends-more before.received between.received now.received text (take n other) (told.all refl) part)

    rose : Rose between.faults now.faults ⊎ Rose between.wants now.wants → Rose before.faults now.faults ⊎ Rose before.wants now.wants
    rose (inl r) = inl (Rose-earlier before.faults between.faults now.faults told.later r)
    rose (inr r) = inr (Rose-earlier before.wants between.wants now.wants told.later_wants r)

-- a text that was told, or cut short
pub telling-told : (text : List ℕ) (answer : Bool) (before now : SinkView) → IsTelling answer text before now
    → IsTold text before now
telling-told text true before now told = inl (told.all refl)
telling-told text false before now told = inr (told.part, told.rose refl)

-- the first text was told, and then another, or a prefix of it
pub told-then : (text other : List ℕ) (before between now : SinkView) → IsTelling true text before between → IsTold other between now → IsTold (text ++ other) before now
told-then text other before between now told (inl more) = inl (Appends-more before.received between.received now.received text other (told.all refl) more)
told-then text other before between now told (inr (part, rose)) = inr (prefix part, by rose)
  where
    prefix : AppendsPrefix between.received now.received other → AppendsPrefix before.received now.received (text ++ other)
    prefix (n, part) =
        AppendsPrefix-from before.received now.received (text ++ take n other) (drop n other) (text ++ other)
        (append_assoc text (take n other) (drop n other) ∙ ap (λ l. text ++ l) (take-append-drop n other))
        (Appends-more before.received between.received now.received text (take n other) (told.all refl) part)

    by : Rose between.faults now.faults ⊎ Rose between.wants now.wants → Rose before.faults now.faults ⊎ Rose before.wants now.wants
    by (inl r) = inl (Rose-earlier before.faults between.faults now.faults told.later r)
    by (inr r) = inr (Rose-earlier before.wants between.wants now.wants told.later_wants r)
