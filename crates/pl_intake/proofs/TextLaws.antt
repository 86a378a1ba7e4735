-- Texts of a source, in cells, one after another.
use Rattle.std.proofs.Common.{◌≡◌, ℕ, ◌+◌, ◌-◌, ◌<◌, ◌≤◌, List, [], ◌∷◌, ◌++◌, length, take, drop, get_or, map, min, Option, Bor, Global, refl, sym, ◌∙◌, ap, subst, arith, add-one, length-append, length-take, length-drop, append_assoc, append-nil, drop-cons}
use Rattle.std.specs.Prelude.{Vec, slice_range, true}
use Rattle.std.specs.Io.KnownBytes.{IsAtEnd}
use Rattle.std.specs.List.{concat}
use Rattle.std.specs.Sync.OnceLock.{Named}
use Rattle.std.specs.declared.sync.OnceToken.{OnceToken}
use Rattle.std.proofs.Math.Seq.{drop-append-add}
use Rattle.std.proofs.lemmas.List.{map-append, length-map, get_or-map, get_or-take, take_more, take_all, drop-append-le, length_push}
use Rattle.std.proofs.lemmas.List.Folds.{concat-append}
use Rattle.pl_frame.proofs.Known.{Consumes-append}
use Rattle.pl_intake.specs.Texts.{AreSetIn}
use Rattle.pl_intake.specs.Intake.{HasGiven, HasGainedAll}
use Rattle.pl_intake.proofs.IntakeLaws.{HasGiven-nothing}
use Rattle.pl_intake.specs.declared.intake.Intake.{Intake}

-- what shows the text of a cell
abbrev pub Token : Type 0
Token = OnceToken (Vec ℕ Global)

-- the texts that are shown
abbrev pub values_of : List Token → List (List ℕ)
values_of tokens = map (λ token. token.value.items) tokens

-- ---- cells

-- there are no more tokens than cells
pub tokens-fit : (cells : List Named) (tokens : List Token) → AreSetIn cells tokens → length tokens ≤ length cells
tokens-fit cells tokens set =
    let ids = map (λ (cell : Named). cell.id) cells in
    omega (arith, ap length set, length-map tokens (λ (token : Token). token.of), length-take (length tokens) ids, length-map cells (λ (cell : Named). cell.id))

-- a token is that of the cell of its place
pub token-at : (cells : List Named) (tokens : List Token) (k : ℕ) (token : Token) (cell : Named) → AreSetIn cells tokens → k < length tokens → (get_or tokens k token).of ≡ (get_or cells k cell).id
token-at cells tokens k token cell set inside =
    let ids = map (λ (cell : Named). cell.id) cells in
    let more : k < length cells = omega (arith, inside, tokens-fit cells tokens set) in
    sym (get_or-map (λ (token : Token). token.of) tokens k token 0 inside)
    ∙ ap (λ l. get_or l k 0) set
    ∙ get_or-take (length tokens) ids k 0 inside
    ∙ get_or-map (λ (cell : Named). cell.id) cells k cell 0 more

-- a token more, of the next cell
pub AreSetIn-push : (cells : List Named) (tokens : List Token) (token : Token) (cell : Named) → AreSetIn cells tokens → length tokens < length cells → token.of ≡ (get_or cells (length tokens) cell).id
    → AreSetIn cells (tokens ++ token ∷ [])
AreSetIn-push cells tokens token cell set inside is =
    let ids = map (λ (cell : Named). cell.id) cells in
    map-append (λ (token : Token). token.of) tokens (token ∷ [])
    ∙ ap (λ l. l ++ token.of ∷ []) set
    ∙ ap (λ n. take (length tokens) ids ++ n ∷ []) (is ∙ sym (get_or-map (λ (cell : Named). cell.id) cells (length tokens) cell 0 inside))
    ∙ sym (take_more ids (length tokens) 0 (omega (arith, inside, length-map cells (λ (cell : Named). cell.id))))
    ∙ ap (λ n. take n ids) (sym (length_push tokens token))

-- a text more
pub values-push : (tokens : List Token) (token : Token) → concat (values_of (tokens ++ token ∷ [])) ≡ concat (values_of tokens) ++ token.value.items
values-push tokens token =
    ap concat (map-append (λ (token : Token). token.value.items) tokens (token ∷ []))
    ∙ concat-append (values_of tokens) (token.value.items ∷ [])
    ∙ ap (λ l. concat (values_of tokens) ++ l) (append-nil token.value.items)

-- ---- texts

-- the text of one place more
pub texts-more : (tokens : List Token) (before now : List (Bor (List ℕ))) (text : Bor (List ℕ)) (k : ℕ) (token : Token) → map (λ text. text.now) before ≡ take k (values_of tokens) → now ≡ before ++ text ∷ []
    → k < length tokens → text.now ≡ (get_or tokens k token).value.items → map (λ text. text.now) now ≡ take (k + 1) (values_of tokens)
texts-more tokens before now text k token is more inside same =
    ap (λ l. map (λ text. text.now) l) more
    ∙ map-append (λ (text : Bor (List ℕ)). text.now) before (text ∷ [])
    ∙ ap (λ l. l ++ text.now ∷ []) is
    ∙ ap (λ t. take k (values_of tokens) ++ t ∷ []) (same ∙ sym (get_or-map (λ (token : Token). token.value.items) tokens k token [] inside))
    ∙ sym (take_more (values_of tokens) k [] (omega (arith, inside, length-map tokens (λ (token : Token). token.value.items))))

-- those of all places
pub texts-all : (cells : List Named) (tokens : List Token) (texts : List (Bor (List ℕ))) (k : ℕ) → AreSetIn cells tokens → map (λ text. text.now) texts ≡ take k (values_of tokens)
    → k ≡ min (length tokens) (length cells) → map (λ text. text.now) texts ≡ values_of tokens
texts-all cells tokens texts k set is all =
    is ∙ take_all k (values_of tokens) (omega (arith, all, tokens-fit cells tokens set, length-map tokens (λ (token : Token). token.value.items)))

-- ---- what is left behind a front

-- texts from a place on
abbrev pub texts_from : List (Bor (List ℕ)) → ℕ → List ℕ
texts_from texts k = concat (map (λ text. text.now) (drop k texts))

-- the first of them, and those behind it
pub texts_from-next : (texts : List (Bor (List ℕ))) (k : ℕ) (d : Bor (List ℕ)) → k < length texts → texts_from texts k ≡ (get_or texts k d).now ++ texts_from texts (k + 1)
texts_from-next texts k d inside =
    ap (λ l. concat (map (λ text. text.now) l)) (drop-cons texts k d inside)
    ∙ ap (λ n. (get_or texts k d).now ++ texts_from texts n) (sym (add-one k))

-- there are none behind the last
pub texts_from-end : (texts : List (Bor (List ℕ))) → texts_from texts (length texts) ≡ []
texts_from-end [] = refl
texts_from-end (text ∷ texts) = texts_from-end texts

-- what was left so far, and what still is
pub record IsLeft (texts : List (Bor (List ℕ))) (rest : List ℕ) (start k from : ℕ) (left : List ℕ) : Type 0 where
  pub within : from ≤ length (texts_from texts k)
  pub is : left ++ drop from (texts_from texts k ++ rest) ≡ drop start (texts_from texts 0 ++ rest)

-- a text more, from a place in it on
pub IsLeft-cut : (texts : List (Bor (List ℕ))) (rest : List ℕ) (start k from : ℕ) (left now : List ℕ) (d : Bor (List ℕ)) → IsLeft texts rest start k from left → k < length texts
    → from < length (get_or texts k d).now → now ≡ left ++ slice_range (get_or texts k d).now from (length (get_or texts k d).now) → IsLeft texts rest start (k + 1) 0 now
IsLeft-cut texts rest start k from left now d is inside short more =
    let text = (get_or texts k d).now in
    let T = texts_from texts (k + 1) in
    let whole : texts_from texts k ++ rest ≡ text ++ (T ++ rest) = ap (λ l. l ++ rest) (texts_from-next texts k d inside) ∙ append_assoc text T rest in
    let cut : slice_range text from (length text) ≡ drop from text = take_all (length text - from) (drop from text) (omega (arith, length-drop from text)) in
    record {
      within = omega arith;
      is = ap (λ l. l ++ (T ++ rest)) (more ∙ ap (λ l. left ++ l) cut) ∙ append_assoc left (drop from text) (T ++ rest)
          ∙ ap (λ l. left ++ l) (sym (ap (drop from) whole ∙ drop-append-le from text (T ++ rest) (omega (arith, short))))
          ∙ is.is;
    }

-- a text more, which stands before that place
pub IsLeft-past : (texts : List (Bor (List ℕ))) (rest : List ℕ) (start k from to : ℕ) (left : List ℕ) (d : Bor (List ℕ)) → IsLeft texts rest start k from left → k < length texts
    → from ≡ length (get_or texts k d).now + to → IsLeft texts rest start (k + 1) to left
IsLeft-past texts rest start k from to left d is inside far =
    let text = (get_or texts k d).now in
    let T = texts_from texts (k + 1) in
    let next = texts_from-next texts k d inside in
    let whole : texts_from texts k ++ rest ≡ text ++ (T ++ rest) = ap (λ l. l ++ rest) next ∙ append_assoc text T rest in
    record {
      within = omega (arith, is.within, far, ap length next, length-append text T);
      is = ap (λ l. left ++ l) (sym ((λ j. drop (far j) (whole j)) ∙ drop-append-add text (T ++ rest) to)) ∙ is.is;
    }

-- with what stands behind the texts, that is all
pub IsLeft-all : (texts : List (Bor (List ℕ))) (rest : List ℕ) (start k from : ℕ) (left now : List ℕ) → IsLeft texts rest start k from left → k ≡ length texts → now ≡ left ++ rest
    → now ≡ drop start (texts_from texts 0 ++ rest)
IsLeft-all texts rest start k from left now is end more =
    let none : texts_from texts k ≡ [] = ap (texts_from texts) end ∙ texts_from-end texts in
    let zero : from ≡ 0 = omega (arith, is.within, ap length none) in
    more ∙ sym (ap (λ l. left ++ l) (λ j. drop (zero j) (none j ++ rest))) ∙ is.is

-- ---- what came of a source

-- two texts, one after the other
pub HasGiven-more : (before now after : Option (List ℕ)) (limit : ℕ) (intake next last : Intake) (front text : List ℕ) → HasGiven before now limit intake next front → HasGiven now after limit next last text
    → HasGiven before after limit intake last (front ++ text)
HasGiven-more before now after limit intake next last front text one two = record {
  bytes = one.bytes ++ two.bytes;
  gained = record {
    came = Consumes-append before now after one.bytes two.bytes one.gained.came two.gained.came;
    size_is = omega (arith, one.gained.size_is, two.gained.size_is, length-append one.bytes two.bytes);
    within = two.gained.within;
    ended = two.gained.ended;
  };
  are = sym (append_assoc intake.rest.items one.bytes two.bytes)
      ∙ ap (λ l. l ++ two.bytes) one.are
      ∙ append_assoc front next.rest.items two.bytes
      ∙ ap (λ l. front ++ l) two.are
      ∙ sym (append_assoc front text last.rest.items);
}

-- a text that was given and taken back
pub HasGiven-back : (before now after : Option (List ℕ)) (limit : ℕ) (intake next last kept : Intake) (front text : List ℕ) → HasGiven before now limit intake next front → HasGiven now after limit next last text
    → kept.rest.items ≡ text ++ last.rest.items → kept.size ≡ last.size → kept.is_ended ≡ last.is_ended → HasGiven before after limit intake kept front
HasGiven-back before now after limit intake next last kept front text one two rest size ended = record {
  bytes = one.bytes ++ two.bytes;
  gained = record {
    came = Consumes-append before now after one.bytes two.bytes one.gained.came two.gained.came;
    size_is = omega (arith, size, one.gained.size_is, two.gained.size_is, length-append one.bytes two.bytes);
    within = omega (arith, size, two.gained.within);
    ended = λ is. two.gained.ended (sym ended ∙ is);
  };
  are = sym (append_assoc intake.rest.items one.bytes two.bytes)
      ∙ ap (λ l. l ++ two.bytes) one.are
      ∙ append_assoc front next.rest.items two.bytes
      ∙ ap (λ l. front ++ l) (two.are ∙ sym rest);
}

-- texts that were read behind others, one after another
pub record HasRead (before now : Option (List ℕ)) (limit : ℕ) (intake next : Intake) (old tokens : List Token) : Type 0 where
  pub more : List Token
  pub are : tokens ≡ old ++ more
  pub given : HasGiven before now limit intake next (concat (values_of more))

-- none was read
pub HasRead-none : (before : Option (List ℕ)) (limit : ℕ) (intake : Intake) (tokens : List Token) → intake.size ≤ limit → (intake.is_ended ≡ true → IsAtEnd before) → HasRead before before limit intake intake tokens tokens
HasRead-none before limit intake tokens within ended = record {
  more = [];
  are = sym (append-nil tokens);
  given = HasGiven-nothing before limit intake intake [] refl within ended refl;
}

-- a text more
pub HasRead-push : (before now after : Option (List ℕ)) (limit : ℕ) (intake next last : Intake) (old tokens : List Token) (token : Token) → HasRead before now limit intake next old tokens
    → HasGiven now after limit next last token.value.items → HasRead before after limit intake last old (tokens ++ token ∷ [])
HasRead-push before now after limit intake next last old tokens token read text = record {
  more = read.more ++ token ∷ [];
  are = ap (λ l. l ++ token ∷ []) read.are ∙ append_assoc old read.more (token ∷ []);
  given = subst (HasGiven before after limit intake last) (sym (values-push read.more token))
      (HasGiven-more before now after limit intake next last (concat (values_of read.more)) token.value.items read.given text);
}

-- a text that was read and taken back
pub HasRead-back : (before now after : Option (List ℕ)) (limit : ℕ) (intake next last kept : Intake) (old tokens : List Token) (text : List ℕ) → HasRead before now limit intake next old tokens
    → HasGiven now after limit next last text → kept.rest.items ≡ text ++ last.rest.items → kept.size ≡ last.size → kept.is_ended ≡ last.is_ended → HasRead before after limit intake kept old tokens
HasRead-back before now after limit intake next last kept old tokens text read given rest size ended = record {
  more = read.more;
  are = read.are;
  given = HasGiven-back before now after limit intake next last kept (concat (values_of read.more)) text read.given given rest size ended;
}

-- with those before them, they are all that was given
pub HasRead-given : (start before now : Option (List ℕ)) (limit : ℕ) (first intake next : Intake) (old tokens : List Token) → HasRead before now limit intake next old tokens
    → HasGiven start before limit first intake (concat (values_of old)) → HasGiven start now limit first next (concat (values_of tokens))
HasRead-given start before now limit first intake next old tokens read given =
    let all : concat (values_of tokens) ≡ concat (values_of old) ++ concat (values_of read.more) =
    ap (λ l. concat (values_of l)) read.are ∙ ap concat (map-append (λ (token : Token). token.value.items) old read.more) ∙ concat-append (values_of old) (values_of read.more) in
    subst (HasGiven start now limit first next) (sym all)
    (HasGiven-more start before now limit first intake next (concat (values_of old)) (concat (values_of read.more)) given read.given)

-- where nothing was shown before, what is shown was given since
pub HasGiven-first : (before now : Option (List ℕ)) (limit : ℕ) (intake next : Intake) (old tokens : List Token) → old ≡ [] → intake.size ≤ limit → (intake.is_ended ≡ true → IsAtEnd before)
    → ((start : Option (List ℕ)) (first : Intake) → HasGiven start before limit first intake (concat (values_of old)) → HasGiven start now limit first next (concat (values_of tokens)))
    → HasGiven before now limit intake next (concat (values_of tokens))
HasGiven-first before now limit intake next old tokens none within ended given =
    given before intake (HasGiven-nothing before limit intake intake (concat (values_of old)) refl within ended (sym (ap (λ l. concat (values_of l) ++ intake.rest.items) none)))

-- all bytes came
pub came-whole : (before now after : Option (List ℕ)) (limit : ℕ) (intake next last : Intake) (front rest : List ℕ) → (one : HasGiven before now limit intake next front) → (two : HasGainedAll now after limit next last) → rest ≡ last.rest.items
    → front ++ rest ≡ intake.rest.items ++ (one.bytes ++ two.bytes)
came-whole before now after limit intake next last front rest one two kept =
    ap (λ l. front ++ l) (kept ∙ two.are) ∙ sym (append_assoc front next.rest.items two.bytes) ∙ ap (λ l. l ++ two.bytes) (sym one.are) ∙ append_assoc intake.rest.items one.bytes two.bytes

-- it is no longer than the limit
pub came-small : (before now after : Option (List ℕ)) (limit : ℕ) (intake next last : Intake) (front rest : List ℕ) → HasGiven before now limit intake next front → HasGainedAll now after limit next last → rest ≡ last.rest.items
    → length intake.rest.items ≤ intake.size → length (front ++ rest) ≤ limit
came-small before now after limit intake next last front rest one two kept held =
    let all = came-whole before now after limit intake next last front rest one two kept in
    omega (arith, ap length all, length-append intake.rest.items (one.bytes ++ two.bytes), length-append one.bytes two.bytes, one.gained.size_is, two.gained.size_is, two.gained.within, held)
