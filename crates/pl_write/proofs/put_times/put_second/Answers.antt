use Rattle.std.proofs.Common.{◌≡◌, ℕ, List, ◌++◌, ◌∷◌, [], pos, take, ap, ◌∙◌, append_assoc, w64, FitsSigned}
use Rattle.std.proofs.lemmas.Int.{to_z-of_z}
use Rattle.std.specs.Int.{int_div_euclid}
use Rattle.pl_text.specs.ValueText.{date_text, clock_text}
use Rattle.pl_write.proofs.put_times.put_second.Goals as goal

pub returns-clause-text : goal.returns-clause-text
returns-clause-text c =
    let day = c.div_euclid.result in
    let fits : FitsSigned w64 day = record { sfits = c.div_euclid.type_inv } in
    let given = to_z-of_z w64 c.args.second c.ranges.second in
    let is : day ≡ int_div_euclid c.args.second (pos 86400) = simp given at c.div_euclid.ensures in
    let front = simp (to_z-of_z w64 day fits) at c.put_date-date_end.ensures.text in
    let second = simp given at c.second_of_day.ensures.value in
    let old = take c.args.at c.args.to.now in
    let s = c.second_of_day.result in
    let clock = c.put_byte.ensures.text ∙ ap (λ l. l ++ 46 ∷ []) (c.put_clock-clock_end.ensures.text ∙ ap (λ l. l ++ clock_text s) (c.put_byte-clock_begin.ensures.text ∙ ap (λ l. l ++ 84 ∷ []) front)) in
    clock
    ∙ regrouped old (date_text day) (clock_text s)
    ∙ ap (λ d. old ++ ((date_text d ++ 84 ∷ clock_text s) ++ 46 ∷ [])) is
    ∙ ap (λ n. old ++ ((date_text (int_div_euclid c.args.second (pos 86400)) ++ 84 ∷ clock_text n) ++ 46 ∷ [])) second
  where
    regrouped : (old date clock : List ℕ) → (((old ++ date) ++ 84 ∷ []) ++ clock) ++ 46 ∷ [] ≡ old ++ ((date ++ 84 ∷ clock) ++ 46 ∷ [])
    regrouped old date clock = simp append_assoc
