-- Parts that are read one after another and printed side by side.
use Rattle.std.proofs.Common.{◌≡◌, ℕ, true, zero, suc, ◌+◌, ◌<◌, List, [], ◌∷◌, ◌++◌, map, length, length-append, get_or, set, Option, Some, None, Vec, Global, refl, sym, ◌∙◌, ap, subst, arith, inl, inr}
use Rattle.std.specs.Prelude.{◌≤◌, All, Result, Ok, Err, is_ok, IfOk, IfErr, OnOk}
use Rattle.std.proofs.lemmas.List.{append-nil, append_assoc, length-map, map-append, get_or_append_left, get_or-map}
use Rattle.std.proofs.lemmas.List.Elements.{All-set}
use Rattle.std.specs.Iterator.{Yields}
use Rattle.std.specs.Vec.Iter.{into_iter_items, into_iter_steps}
use Rattle.std.specs.declared.vec.IntoIter.{IntoIter}
use Rattle.pl_cells.proofs.CastWorkerLaws.{taken_front}
use Rattle.pl_frame.specs.declared.error.PolarsError.{PolarsError}
use Rattle.pl_frame.specs.declared.error.PolarsError.TheVariants as error
use Rattle.pl_options.specs.FirstCause.{IsFault}
use Rattle.pl_options.specs.declared.read_options.CsvReadOptions.{CsvReadOptions}
use Rattle.pl_read.specs.SettleGiven.{given_schema}
use Rattle.pl_read.specs.Steps.{late_cause}
use Rattle.pl_write.specs.declared.options.CsvWriterOptions.{CsvWriterOptions}
use Rattle.pl_multi.specs.Groups.{IsPartAt, AreRead, IsUnread, IsPrintedOf, ArePrintedOf, IsTakenOf, ArePrintedFrom, texts_of, first_refusal, IsFirstRefusal, for_one}
use Rattle.pl_multi.specs.Lines.{found_text}
use Rattle.pl_multi.specs.Joining.{IsSound, IsPartFault, IsJoinFault, part_fault}
use Rattle.pl_multi.specs.Printing.{IsPlain, AreLinesOf, ArePrinted}
use Rattle.pl_multi.specs.Scan.{IsHeld}
use Rattle.pl_multi.specs.declared.settling.TakenPart.{TakenPart}
use Rattle.pl_multi.specs.declared.groups.PartLines.{PartLines}
use Rattle.pl_multi.specs.declared.lines.FoundLines.{FoundLines}
use Rattle.pl_multi.specs.declared.part.Part.{Part}
use Rattle.pl_multi.specs.declared.scan.MultiFault.{MultiFault}
use Rattle.pl_multi.specs.declared.scan.MultiFault.TheVariants as fault
use Rattle.pl_multi.proofs.JoinedLaws.{held-same, part-fault}
use Rattle.pl_multi.proofs.PrintingLaws.{printed-more, printed-fault}

-- what came of one part
pub of-result : (read : CsvReadOptions) (write : CsvWriterOptions) (bytes : List ℕ) (result : Result FoundLines PolarsError) → IfOk result (λ found. AreLinesOf read write bytes (found_text bytes found))
    → IfErr result (IsFault (late_cause read (given_schema read) bytes)) → IsPrintedOf read write bytes result
of-result read write bytes (Ok found) lines refused = lines
of-result read write bytes (Err refusal) lines refused = refused

-- bytes mean the same, however many workers read them
pub one-printed : (read : CsvReadOptions) (write : CsvWriterOptions) (bytes : List ℕ) (result : Result FoundLines PolarsError) → IsPrintedOf (for_one read) write bytes result → IsPrintedOf read write bytes result
one-printed read write bytes (Ok found) is = record { sound = is.sound; are = is.are }
one-printed read write bytes (Err refusal) is = is

-- what is so where a call succeeds, where it succeeded
pub ok-holds : {A E : Type 0} (result : Result A E) (P : Type 0) → is_ok result ≡ true → OnOk result P → P
ok-holds (Ok value) P ok holds = holds
ok-holds (Err error) P ok holds = absurd (cc)

-- ---- what was read

-- one more
pub read-more : (holds : List ℕ → Option (List ℕ)) (parts : List Part) (first : ℕ) (given : List (List ℕ)) (bytes : List ℕ) → AreRead holds parts first given → IsPartAt holds parts (first + length given) bytes → AreRead holds parts first (given ++ bytes ∷ [])
read-more holds parts first [] bytes are is = let same : first + 0 ≡ first = omega arith in (subst (λ place. IsPartAt holds parts place bytes) same is, tt)
read-more holds parts first (b ∷ given) bytes are is = (are.0, read-more holds parts (first + 1) given bytes are.1 (subst (λ place. IsPartAt holds parts place bytes) (omega arith) is))

abbrev pub bytes_of : List PartLines → List (List ℕ)
bytes_of group = map (λ (one : PartLines). one.bytes.items) group

-- what came of each part, with its bytes
abbrev pub came_of : List PartLines → List (List ℕ × Result FoundLines PolarsError)
came_of group = map (λ (one : PartLines). (one.bytes.items, one.printed)) group

pub read-next : (holds later_holds : List ℕ → Option (List ℕ)) → ((other : List ℕ) → later_holds other ≡ holds other) → (parts : List Part) (first count place : ℕ) (texts more : List (List ℕ)) (bytes : List ℕ) (part : Part)
    → length texts ≡ count → place ≡ first + count → place < length parts → part ≡ get_or parts place part → IsHeld later_holds (part, bytes) → more ≡ texts ++ bytes ∷ [] → AreRead holds parts first texts → AreRead holds parts first more
read-next holds later_holds stays parts first count place texts more bytes part sizes at within is held one are =
    let here : IsPartAt holds parts place bytes = record { part = part; within = within; at = is; held = held-same holds later_holds stays (part, bytes) held } in
    let same : place ≡ first + length texts = omega (arith, at, sizes) in
    subst (AreRead holds parts first) (sym one) (read-more holds parts first texts bytes are (subst (λ n. IsPartAt holds parts n bytes) same here))

-- ---- what workers took

-- what holds of all holds of those before the last, and of the last
all-before : {X : Type 0} (P : X → Type 0) (front : List X) (x : X) → All P (front ++ x ∷ []) → All P front
all-before P front x holds i d inside = subst P (get_or_append_left front (x ∷ []) d i inside) (holds i d (omega (arith, inside, length-append front (x ∷ []))))

all-last : {X : Type 0} (P : X → Type 0) (front : List X) (x : X) → All P (front ++ x ∷ []) → P x
all-last P front x holds = subst P (at-last front x) (holds (length front) x (omega (arith, length-append front (x ∷ []))))
  where
    at-last : {X : Type 0} (front : List X) (x : X) → get_or (front ++ x ∷ []) (length front) x ≡ x
    at-last [] x = refl
    at-last (y ∷ front) x = at-last front x

-- the list of an iterator that ends, and what holds of its next item
nothing : {X : Type 0} (xs : List X) → length xs ≡ 0 → xs ≡ []
nothing [] none = refl
nothing (x ∷ xs) none = absurd (omega arith)

pub all-gone : {X A : Type 0} (all : List X) (start : IntoIter X A) (done : List X) (now : IntoIter X A) → into_iter_items start ≡ all → Yields into_iter_steps start done now → length (into_iter_items now) ≡ 0 → all ≡ done
all-gone all start done now gives taken ends = sym gives ∙ taken_front start done now taken ∙ ap (λ l. done ++ l) (nothing (into_iter_items now) ends) ∙ append-nil done

pub next-of : {X A : Type 0} (P : X → Type 0) (all : List X) (start : IntoIter X A) (done : List X) (now : IntoIter X A) (next : X) (left : IntoIter X A) → All P all → into_iter_items start ≡ all
    → Yields into_iter_steps start done now → into_iter_items now ≡ next ∷ into_iter_items left → P next
next-of P all start done now next left holds gives taken step =
    let whole : all ≡ done ++ next ∷ into_iter_items left = sym gives ∙ taken_front start done now taken ∙ ap (λ l. done ++ l) step in
    subst P (ap (λ l. get_or l (length done) next) whole ∙ at_front done next next (into_iter_items left)) (holds (length done) next (omega (arith, ap length whole, length-append done (next ∷ into_iter_items left))))
  where
    at_front : {X : Type 0} (front : List X) (x d : X) (rest : List X) → get_or (front ++ x ∷ rest) (length front) d ≡ x
    at_front [] x d rest = refl
    at_front (y ∷ front) x d rest = at_front front x d rest

pub bytes-put : (group : List PartLines) (place : ℕ) (one d : PartLines) → place < length group → one.bytes ≡ (get_or group place d).bytes → bytes_of (set group place one) ≡ bytes_of group
bytes-put [] place one d inside same = absurd (omega arith)
bytes-put (part ∷ group) zero one d inside same = ap (λ (b : Vec ℕ Global). b.items ∷ bytes_of group) same
bytes-put (part ∷ group) (suc place) one d inside same = ap (λ (l : List (List ℕ)). part.bytes.items ∷ l) (bytes-put group place one d (omega arith) same)

-- one more is put
pub printed-put : (read : CsvReadOptions) (write : CsvWriterOptions) (first group : List PartLines) (taken : List TakenPart) (one : TakenPart) (part d : PartLines) → bytes_of group ≡ bytes_of first
    → part.bytes ≡ (get_or group one.place d).bytes → part.printed ≡ one.printed → (All (IsTakenOf read write (bytes_of first)) taken → ArePrintedOf read write first → ArePrintedOf read write group)
    → All (IsTakenOf read write (bytes_of first)) (taken ++ one ∷ []) → ArePrintedOf read write first → ArePrintedOf read write (set group one.place part)
printed-put read write first group taken one part d same bytes printed before all start =
    let f = λ (it : PartLines). it.bytes.items in
    let is = all-last (IsTakenOf read write (bytes_of first)) taken one all in
    let inside : one.place < length group = omega (arith, is.inside, ap length same, length-map group f, length-map first f) in
    let text : part.bytes.items ≡ get_or (bytes_of first) one.place [] =
    ap (λ (b : Vec ℕ Global). b.items) bytes ∙ sym (get_or-map f group one.place d [] inside) ∙ ap (λ (l : List (List ℕ)). get_or l one.place []) same in
    let own : IsPrintedOf read write part.bytes.items part.printed =
    subst (λ b. IsPrintedOf read write b part.printed) (sym text) (subst (IsPrintedOf read write (get_or (bytes_of first) one.place [])) (sym printed) is.printed) in
    All-set (λ (it : PartLines). IsPrintedOf read write it.bytes.items it.printed) group one.place part own (before (all-before (IsTakenOf read write (bytes_of first)) taken one all) start)

-- what one more worker took is put
pub taken-put : (read : CsvReadOptions) (write : CsvWriterOptions) (first group new : List PartLines) (yielded : List (Vec TakenPart Global)) (taken : Vec TakenPart Global) → bytes_of group ≡ bytes_of first
    → (All (λ (it : Vec TakenPart Global). All (IsTakenOf read write (bytes_of first)) it.items) yielded → ArePrintedOf read write first → ArePrintedOf read write group)
    → (All (IsTakenOf read write (bytes_of group)) taken.items → ArePrintedOf read write group → ArePrintedOf read write new)
    → All (λ (it : Vec TakenPart Global). All (IsTakenOf read write (bytes_of first)) it.items) (yielded ++ taken ∷ []) → ArePrintedOf read write first → ArePrintedOf read write new
taken-put read write first group new yielded taken same before then all start =
    let P = λ (it : Vec TakenPart Global). All (IsTakenOf read write (bytes_of first)) it.items in
    then (subst (λ (texts : List (List ℕ)). All (IsTakenOf read write texts) taken.items) (sym same) (all-last P yielded taken all)) (before (all-before P yielded taken all) start)

-- want of memory stands for what was not printed
pub unprinted-are : (read : CsvReadOptions) (write : CsvWriterOptions) (group : List PartLines) → All (λ (one : PartLines). one.printed ≡ Err error.OutOfMemory) group → ArePrintedOf read write group
unprinted-are read write group none i d inside = subst (IsPrintedOf read write (get_or group i d).bytes.items) (sym (none i d inside)) (inr refl)

pub count-came : (group : List PartLines) → length (came_of group) ≡ length group
count-came [] = refl
count-came (one ∷ group) = ap suc (count-came group)

-- what came of them
pub printed-from : (holds : List ℕ → Option (List ℕ)) (read : CsvReadOptions) (write : CsvWriterOptions) (parts : List Part) (first : ℕ) (group : List PartLines)
    → ArePrintedOf read write group → AreRead holds parts first (bytes_of group) → ArePrintedFrom holds read write parts first (came_of group)
printed-from holds read write parts first [] each are = tt
printed-from holds read write parts first (one ∷ group) each are =
    ((are.0, each 0 one (omega arith)), printed-from holds read write parts (first + 1) group (λ i d inside. each (suc i) d (omega arith)) are.1)

-- ---- what came of a group

part-at : (parts : List Part) (place : ℕ) → place < length parts → (part : Part) × (part ≡ get_or parts place part)
part-at [] place within = absurd (omega arith)
part-at (part ∷ parts) zero within = (part, refl)
part-at (part ∷ parts) (suc place) within = part-at parts place (omega arith)

module _ (holds later_holds : List ℕ → Option (List ℕ)) (stays : (other : List ℕ) → later_holds other ≡ holds other) (read : CsvReadOptions) (write : CsvWriterOptions) (parts : List Part)
    (sound : IsSound read None parts) (plain : IsPlain read None parts) where
  -- their lines
  pub group-printed : (place : ℕ) (lines : List (List ℕ)) (came : List (List ℕ × Result FoundLines PolarsError)) → ArePrinted holds read write parts place lines → ArePrintedFrom later_holds read write parts place came
      → first_refusal place came ≡ None → ArePrinted holds read write parts (place + length came) (lines ++ texts_of came)
  group-printed place lines [] front are none =
      subst (λ (l : List (List ℕ)). ArePrinted holds read write parts (place + 0) l) (sym (append-nil lines)) (subst (λ n. ArePrinted holds read write parts n lines) (omega arith) front)
  group-printed place lines ((bytes, Ok found) ∷ more) front ((at, is), rest) none =
      let text = found_text bytes found in
      let next = printed-more holds later_holds stays read write parts sound plain place at.part at.within at.at lines text front (bytes, at.held, is) in
      subst (λ n. ArePrinted holds read write parts n (lines ++ text ∷ texts_of more)) (omega arith)
      (subst (λ (l : List (List ℕ)). ArePrinted holds read write parts ((place + 1) + length more) l) (append_assoc lines (text ∷ []) (texts_of more))
      (group-printed (place + 1) (lines ++ text ∷ []) more next rest none))
  group-printed place lines ((bytes, Err refusal) ∷ more) front are none = absurd (cc)

  -- or the first fault
  pub group-refused : (place : ℕ) (lines : List (List ℕ)) (came : List (List ℕ × Result FoundLines PolarsError)) → ArePrinted holds read write parts place lines → ArePrintedFrom later_holds read write parts place came
      → (first before now : ℕ) (refused : MultiFault) → first ≤ before → first_refusal place came ≡ Some refused → IsJoinFault holds first now read None parts refused
  group-refused place lines [] front are first before now refused later some = absurd (cc)
  group-refused place lines ((bytes, Ok found) ∷ more) front ((at, is), rest) first before now refused later some =
      let text = found_text bytes found in
      let next = printed-more holds later_holds stays read write parts sound plain place at.part at.within at.at lines text front (bytes, at.held, is) in
      group-refused (place + 1) (lines ++ text ∷ []) more next rest first before now refused later some
  group-refused place lines ((bytes, Err refusal) ∷ more) front ((at, is), rest) first before now refused later some =
      let same : part_fault place refusal ≡ refused = cc in
      subst (IsJoinFault holds first now read None parts) same
      (printed-fault holds later_holds stays read write parts sound plain place at.part at.within at.at front.columns front.joined first before now (part_fault place refusal) later
      (part-fault later_holds before now read at.part place bytes at.held refusal is))

  pub group-fault : (place : ℕ) (lines : List (List ℕ)) (came : List (List ℕ × Result FoundLines PolarsError)) → ArePrinted holds read write parts place lines → ArePrintedFrom later_holds read write parts place came
      → (first before now : ℕ) (refused : MultiFault) → first ≤ before → IsFirstRefusal place came refused → IsJoinFault holds first now read None parts refused
  group-fault place lines came front are first before now refused later (inl some) = group-refused place lines came front are first before now refused later some
  group-fault place lines came front are first before now refused later (inr wanting) = subst (IsJoinFault holds first now read None parts) (sym wanting) tt

  -- a part that was not read
  unread-fault : (place : ℕ) (lines : List (List ℕ)) → (part : Part) → place < length parts → part ≡ get_or parts place part → ArePrinted holds read write parts place lines
      → (first before now : ℕ) (refused : MultiFault) → first ≤ before → IsUnread before now place refused → IsJoinFault holds first now read None parts refused
  unread-fault place lines part within at front first before now refused later unread =
      printed-fault holds later_holds stays read write parts sound plain place part within at front.columns front.joined first before now refused later (by refused unread)
    where
      by : (given : MultiFault) → IsUnread before now place given → IsPartFault later_holds before now read part place given
      by fault.OutOfMemory is = tt
      by (fault.Io at') is = is
      by fault.Options is = absurd (is)
      by (fault.Read refusal) is = absurd (is)
      by (fault.Partitions place') is = absurd (is)
      by (fault.Duplicate name) is = absurd (is)
      by (fault.Part place' refusal) is = absurd (is)
      by (fault.Index offset rows) is = absurd (is)

  pub unread-behind : (place : ℕ) (lines : List (List ℕ)) → place < length parts → ArePrinted holds read write parts place lines
      → (first before now : ℕ) (refused : MultiFault) → first ≤ before → IsUnread before now place refused → IsJoinFault holds first now read None parts refused
  unread-behind place lines within = let part = part-at parts place within in unread-fault place lines part.0 within part.1
