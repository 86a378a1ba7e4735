-- Texts that are printed while those behind them are read.
use Rattle.std.proofs.Common.{◌≡◌, ℕ, ◌+◌, ◌<◌, ◌≤◌, ◌^◌, true, List, [], ◌∷◌, ◌++◌, length, take, drop, map, Option, Vec, Global, refl, sym, ◌∙◌, ap, subst, arith, length-append, length-take, append_assoc, append-nil}
use Rattle.std.specs.Cow.{cow_slice_items}
use Rattle.std.specs.Io.KnownBytes.{IsAtEnd}
use Rattle.std.specs.List.{concat}
use Rattle.std.specs.declared.borrow.CowSlice.{CowSlice}
use Rattle.std.proofs.Math.Seq.{take-append_seam}
use Rattle.std.proofs.lemmas.List.{take-append-drop, drop_at}
use Rattle.std.proofs.lemmas.List.Folds.{concat-append}
use Rattle.pl_frame.specs.Dialect.{IsDialect}
use Rattle.pl_frame.specs.Schema.{Entry}
use Rattle.pl_text.specs.FrameText.{WriteOptions}
use Rattle.pl_frame.proofs.Known.{Consumes-append}
use Rattle.pl_scan.specs.Dialect.{marks_of, comment_of}
use Rattle.pl_intake.specs.Handed.{HasHanded}
use Rattle.pl_intake.specs.Intake.{HasGiven, HasGainedAll}
use Rattle.pl_intake.specs.declared.intake.Intake.{Intake}
use Rattle.pl_intake.proofs.IntakeLaws.{HasGiven-nothing}
use Rattle.pl_intake.proofs.TextLaws.{came-whole, HasGiven-more}
use Rattle.pl_rows.specs.declared.plan.RangePlan.{RangePlan}
use Rattle.pl_verbatim.specs.PrintedTexts.{IsTextPrinted}
use Rattle.pl_verbatim.proofs.PrintingLaws.{IsTextPrinted-nil, IsTextPrinted-append}
use Rattle.pl_regions.proofs.RegionLaws.{lines-joined, text-pushed}
use Rattle.pl_regions.proofs.LimitLaws.{front-longer, decided}
use Rattle.pl_regions.specs.Arriving.{AreAllPrinted, IsFrontKept, IsPrintedUpTo, HasInLine, HasPrinted, IsFrontArrived, HasAllCome, HasArrived}
use Rattle.pl_regions.specs.declared.printing.PrintedRows.{PrintedRows}
use Rattle.pl_regions.specs.Limits.{without_limit, IsFull}
use Rattle.pl_regions.specs.Printing.{IsLeftBehind, IsPrinted, IsPrintedFront}
use Rattle.pl_regions.specs.declared.kept.Arrived.{Arrived}
use Rattle.pl_regions.specs.declared.kept.Kept.{Kept}

-- ---- lines

-- one more text that is one's own
pub own-pushed : (before now : List (Vec ℕ Global)) (first : List ℕ) (done : List (CowSlice ℕ Global)) (text : CowSlice ℕ Global) (own : Vec ℕ Global)
    → concat (map (λ t. t.items) before) ≡ first ++ concat (map cow_slice_items done) → now ≡ before ++ own ∷ [] → own.items ≡ cow_slice_items text
    → concat (map (λ t. t.items) now) ≡ first ++ concat (map cow_slice_items (done ++ text ∷ []))
own-pushed before now first done text own are is same =
    lines-joined (λ (t : Vec ℕ Global). t.items) before (own ∷ []) now is
    ∙ ap (λ l. concat (map (λ (t : Vec ℕ Global). t.items) before) ++ l) (append-nil own.items ∙ same)
    ∙ ap (λ l. l ++ cow_slice_items text) are
    ∙ append_assoc first (concat (map cow_slice_items done)) (cow_slice_items text)
    ∙ ap (λ l. first ++ l) (sym (text-pushed done (done ++ text ∷ []) text refl))

-- one more text that may be lent, and is one's own
pub lent-pushed : (before now : List (CowSlice ℕ Global)) (done : List (Vec ℕ Global)) (text : CowSlice ℕ Global) (own : Vec ℕ Global)
    → concat (map cow_slice_items before) ≡ concat (map (λ t. t.items) done) → now ≡ before ++ text ∷ [] → cow_slice_items text ≡ own.items
    → concat (map cow_slice_items now) ≡ concat (map (λ t. t.items) (done ++ own ∷ []))
lent-pushed before now done text own are is same =
    text-pushed before now text is
    ∙ (λ j. are j ++ same j)
    ∙ sym (lines-joined (λ (t : Vec ℕ Global). t.items) done (own ∷ []) (done ++ own ∷ []) refl ∙ ap (λ l. concat (map (λ (t : Vec ℕ Global). t.items) done) ++ l) (append-nil own.items))

-- ---- texts whose memory is used again

-- of no text
pub AreAllPrinted-none : (plan : RangePlan) (schema : List Entry) (o : WriteOptions) (kept : Kept) → kept.end ≡ 0 → kept.rows ≡ 0 → kept.lines.items ≡ [] → AreAllPrinted plan schema o [] kept
AreAllPrinted-none plan schema o kept end rows lines = record {
  end_is = end;
  is = subst (λ (n : ℕ). IsTextPrinted plan schema o [] n (concat (map (λ text. text.items) kept.lines.items))) (sym rows)
      (subst (IsTextPrinted plan schema o [] 0) (sym (ap (λ l. concat (map (λ text. text.items) l)) lines)) (IsTextPrinted-nil plan schema o));
}

-- the front of a text behind others, and what is left of it
pub IsPrintedUpTo-front : (plan : RangePlan) (schema : List Entry) (o : WriteOptions) (before text left : List ℕ) (old part kept : Kept)
    → IsDialect (marks_of plan.dialect) (comment_of plan.dialect) → AreAllPrinted plan schema o before old → IsFrontKept plan schema o text part → left ≡ drop part.end text
    → kept.end ≡ old.end + part.end → kept.rows ≡ old.rows + part.rows → kept.lines.items ≡ old.lines.items ++ part.lines.items → IsPrintedUpTo plan schema o (before ++ text) left kept
IsPrintedUpTo-front plan schema o before text left old part kept apart all printed left_is end rows lines =
    let here = take part.end text in
    let both =
    IsTextPrinted-append plan schema o before here old.rows part.rows (concat (map (λ text. text.items) old.lines.items)) (concat (map (λ text. text.items) part.lines.items)) apart all.is printed.front in
    record {
      front = before ++ here;
      is = record {
        end_is = omega (arith, end, all.end_is, length-append before here, length-take part.end text, printed.within);
        is = subst (λ (n : ℕ). IsTextPrinted plan schema o (before ++ here) n (concat (map (λ text. text.items) kept.lines.items))) (sym rows)
            (subst (IsTextPrinted plan schema o (before ++ here) (old.rows + part.rows)) (sym (lines-joined (λ (t : Vec ℕ Global). t.items) old.lines.items part.lines.items kept.lines.items lines)) both);
      };
      are = ap (λ l. before ++ l) (sym (take-append-drop part.end text)) ∙ sym (append_assoc before here (drop part.end text)) ∙ ap (λ l. (before ++ here) ++ l) (sym left_is);
    }

-- none of a text behind others: all of it is left
pub IsPrintedUpTo-none : (plan : RangePlan) (schema : List Entry) (o : WriteOptions) (before text left : List ℕ) (kept : Kept) → AreAllPrinted plan schema o before kept → left ≡ text → IsPrintedUpTo plan schema o (before ++ text) left kept
IsPrintedUpTo-none plan schema o before text left kept all left_is = record {
  front = before;
  is = all;
  are = ap (λ l. before ++ l) (sym left_is);
}

-- all of a text is printed, and nothing stands behind it
pub IsPrintedUpTo-all : (plan : RangePlan) (schema : List Entry) (o : WriteOptions) (text : List ℕ) (kept : Kept) → AreAllPrinted plan schema o text kept → IsPrintedUpTo plan schema o text ([] ++ concat []) kept
IsPrintedUpTo-all plan schema o text kept is = record { front = text; is = is; are = sym (append-nil text) }

-- the first of the texts behind is printed up to a place, and the others stay behind that
pub IsPrintedUpTo-next : (plan : RangePlan) (schema : List Entry) (o : WriteOptions) (text one left : List ℕ) (others : List (List ℕ)) (old kept : Kept) (up : IsPrintedUpTo plan schema o text (one ++ concat others) old)
    → IsPrintedUpTo plan schema o (up.front ++ one) left kept → IsPrintedUpTo plan schema o text (left ++ concat others) kept
IsPrintedUpTo-next plan schema o text one left others old kept up next = record {
  front = next.front;
  is = next.is;
  are = up.are ∙ sym (append_assoc up.front one (concat others)) ∙ ap (λ l. l ++ concat others) next.are ∙ append_assoc next.front left (concat others);
}

-- texts were handed out behind it
pub IsPrintedUpTo-handed : (plan : RangePlan) (schema : List Entry) (o : WriteOptions) (text left : List ℕ) (old more new : List (List ℕ)) (kept : Kept) → IsPrintedUpTo plan schema o text (left ++ concat old) kept → new ≡ old ++ more
    → IsPrintedUpTo plan schema o (text ++ concat more) (left ++ concat new) kept
IsPrintedUpTo-handed plan schema o text left old more new kept up are = record {
  front = up.front;
  is = up.is;
  are = ap (λ l. l ++ concat more) up.are ∙ append_assoc up.front (left ++ concat old) (concat more)
      ∙ ap (λ l. up.front ++ l) (append_assoc left (concat old) (concat more) ∙ ap (λ l. left ++ l) (sym (concat-append old more) ∙ ap concat (sym are)));
}

-- nothing came, and nothing was printed
pub HasPrinted-none : (plan : RangePlan) (schema : List Entry) (o : WriteOptions) (before : Option (List ℕ)) (limit : ℕ) (intake : Intake) (kept : Kept) → intake.size ≤ limit → (intake.is_ended ≡ true → IsAtEnd before)
    → kept.end ≡ 0 → kept.rows ≡ 0 → kept.lines.items ≡ [] → HasPrinted plan schema o before before limit intake intake kept
HasPrinted-none plan schema o before limit intake kept within ended end rows lines = record {
  text = [];
  given = HasGiven-nothing before limit intake intake [] refl within ended refl;
  is = AreAllPrinted-none plan schema o kept end rows lines;
}

-- none of the texts that were printed has one behind it
pub HasInLine-first : (plan : RangePlan) (schema : List Entry) (o : WriteOptions) (before now : Option (List ℕ)) (limit : ℕ) (first intake : Intake) (kept : Kept) (left : List ℕ) (pending : List (List ℕ))
    → HasPrinted plan schema o before now limit first intake kept → left ≡ [] → pending ≡ [] → HasInLine plan schema o before now limit first intake kept left pending
HasInLine-first plan schema o before now limit first intake kept left pending has none empty = record {
  text = has.text;
  given = has.given;
  is = subst (λ (l : List ℕ). IsPrintedUpTo plan schema o has.text l kept) (sym (ap (λ l. l ++ concat pending) none ∙ ap concat empty)) (IsPrintedUpTo-all plan schema o has.text kept has.is);
}

-- more of them are printed
pub HasInLine-printed : (plan : RangePlan) (schema : List Entry) (o : WriteOptions) (before now : Option (List ℕ)) (limit : ℕ) (first intake : Intake) (old kept : Kept) (left after : List ℕ) (pending others : List (List ℕ))
    → HasInLine plan schema o before now limit first intake old left pending
    → ((text : List ℕ) → IsPrintedUpTo plan schema o text (left ++ concat pending) old → IsPrintedUpTo plan schema o text (after ++ concat others) kept)
    → HasInLine plan schema o before now limit first intake kept after others
HasInLine-printed plan schema o before now limit first intake old kept left after pending others has more = record { text = has.text; given = has.given; is = more has.text has.is }

-- texts came, and were handed out
pub HasInLine-handed : (plan : RangePlan) (schema : List Entry) (o : WriteOptions) (before now after : Option (List ℕ)) (limit : ℕ) (first intake next : Intake) (kept : Kept) (left : List ℕ) (old new : List (List ℕ))
    → HasInLine plan schema o before now limit first intake kept left old → HasHanded now after limit intake next old new → HasInLine plan schema o before after limit first next kept left new
HasInLine-handed plan schema o before now after limit first intake next kept left old new has handed = record {
  text = has.text ++ concat handed.more;
  given = HasGiven-more before now after limit first intake next has.text (concat handed.more) has.given handed.given;
  is = IsPrintedUpTo-handed plan schema o has.text left old handed.more new kept has.is handed.are;
}

-- what stands behind them was taken back
pub HasInLine-back : (plan : RangePlan) (schema : List Entry) (o : WriteOptions) (before now : Option (List ℕ)) (limit : ℕ) (first intake next : Intake) (kept : Kept) (left : List ℕ) (pending : List (List ℕ))
    → HasInLine plan schema o before now limit first intake kept left pending → next.rest.items ≡ (left ++ concat pending) ++ intake.rest.items → next.size ≡ intake.size → next.is_ended ≡ intake.is_ended
    → HasPrinted plan schema o before now limit first next kept
HasInLine-back plan schema o before now limit first intake next kept left pending has rest size ended =
    let up = has.is in
    record {
      text = up.front;
      given = record {
        bytes = has.given.bytes;
        gained = record {
          came = has.given.gained.came;
          size_is = size ∙ has.given.gained.size_is;
          within = omega (arith, size, has.given.gained.within);
          ended = λ is. has.given.gained.ended (sym ended ∙ is);
        };
        are = has.given.are ∙ ap (λ l. l ++ intake.rest.items) up.are ∙ append_assoc up.front (left ++ concat pending) intake.rest.items ∙ ap (λ l. up.front ++ l) (sym rest);
      };
      is = up.is;
    }

-- a text more came, the front of it was printed, and what is left of it was taken back
pub HasPrinted-more : (plan : RangePlan) (schema : List Entry) (o : WriteOptions) (before now after : Option (List ℕ)) (limit : ℕ) (first intake next last : Intake) (old kept : Kept) (text left : List ℕ)
    → (has : HasPrinted plan schema o before now limit first intake old) → HasGiven now after limit intake next text → IsPrintedUpTo plan schema o (has.text ++ text) left kept
    → last.rest.items ≡ left ++ next.rest.items → last.size ≡ next.size → last.is_ended ≡ next.is_ended → HasPrinted plan schema o before after limit first last kept
HasPrinted-more plan schema o before now after limit first intake next last old kept text left has given up rest size ended =
    let line : HasInLine plan schema o before after limit first next kept left [] = record {
      text = has.text ++ text;
      given = HasGiven-more before now after limit first intake next has.text text has.given given;
      is = subst (λ (l : List ℕ). IsPrintedUpTo plan schema o (has.text ++ text) l kept) (sym (append-nil left)) up;
    } in
    HasInLine-back plan schema o before after limit first next last kept left [] line (rest ∙ ap (λ l. l ++ next.rest.items) (sym (append-nil left))) size ended

-- ---- what came of a source

-- a front of texts, and all that is left of them and of what stands behind them
pub arrived-whole : (plan : RangePlan) (schema : List Entry) (o : WriteOptions) (text rest : List ℕ) (arrived : Arrived) → IsPrintedFront (without_limit plan) schema o text arrived.front
    → arrived.left.items ≡ drop arrived.front.end (text ++ rest) → IsFrontArrived plan schema o (text ++ rest) arrived
arrived-whole plan schema o text rest arrived printed left = record {
  text = text ++ rest;
  within = omega arith;
  decides = λ printed is. is;
  printed = front-longer (without_limit plan) schema o text rest arrived.front.end arrived.front.rows (concat (map cow_slice_items arrived.front.lines.items)) printed;
  left_is = left;
}

-- the same where the first of the texts reach the limit, and only these are left
pub arrived-full : (plan : RangePlan) (schema : List Entry) (o : WriteOptions) (texts : List (List ℕ)) (rest : List ℕ) (arrived : Arrived) (count : ℕ) → IsDialect (marks_of plan.dialect) (comment_of plan.dialect)
    → IsFull (without_limit plan) schema o plan.limit texts arrived.front count → arrived.left.items ≡ drop arrived.front.end (concat (take count texts) ++ [])
    → IsFrontArrived plan schema o (concat texts ++ rest) arrived
arrived-full plan schema o texts rest arrived count apart full left =
    let text = concat (take count texts) in
    let behind = concat (drop count texts) in
    let whole : concat texts ++ rest ≡ text ++ (behind ++ rest) =
    ap (λ (l : List (List ℕ)). concat l ++ rest) (sym (take-append-drop count texts)) ∙ ap (λ (l : List ℕ). l ++ rest) (concat-append (take count texts) (drop count texts)) ∙ append_assoc text behind rest in
    record {
      text = text;
      within = omega (arith, ap length whole, length-append text (behind ++ rest));
      decides = decided plan schema o (concat texts ++ rest) text (behind ++ rest) full.number apart full.most_is full.many whole;
      printed = full.is;
      left_is = left ∙ ap (drop arrived.front.end) (append-nil text);
    }

-- all bytes came, and a front of them was printed
pub HasAllCome-front : (plan : RangePlan) (schema : List Entry) (o : WriteOptions) (before now after : Option (List ℕ)) (limit : ℕ) (intake next last : Intake) (text rest : List ℕ) (arrived : Arrived)
    → HasGiven before now limit intake next text → HasGainedAll now after limit next last → rest ≡ last.rest.items → IsFrontArrived plan schema o (text ++ rest) arrived
    → HasAllCome plan schema o before after limit intake arrived
HasAllCome-front plan schema o before now after limit intake next last text rest arrived one two kept is =
    let whole = came-whole before now after limit intake next last text rest one two kept in
    record {
      bytes = one.bytes ++ two.bytes;
      came = Consumes-append before now after one.bytes two.bytes one.gained.came two.gained.came;
      end = two.end;
      within = omega (arith, one.gained.size_is, two.gained.size_is, two.gained.within, length-append one.bytes two.bytes);
      is = subst (λ t. IsFrontArrived plan schema o t arrived) whole is;
    }

-- all bytes came, those that are not kept were printed, and all others are left
pub HasAllCome-kept : (plan : RangePlan) (schema : List Entry) (o : WriteOptions) (before now after : Option (List ℕ)) (limit : ℕ) (intake next last : Intake) (kept : Kept) (arrived : Arrived) → length intake.rest.items ≤ intake.size
    → HasPrinted (without_limit plan) schema o before now limit intake next kept → HasGainedAll now after limit next last → arrived.front.end ≡ kept.end → arrived.front.rows ≡ kept.rows
    → concat (map cow_slice_items arrived.front.lines.items) ≡ concat (map (λ text. text.items) kept.lines.items) → arrived.left.items ≡ last.rest.items
    → HasAllCome plan schema o before after limit intake arrived
HasAllCome-kept plan schema o before now after limit intake next last kept arrived held has two end rows lines left =
    let rest = last.rest.items in
    let size : arrived.front.end ≡ length has.text = end ∙ has.is.end_is in
    let front : take arrived.front.end (has.text ++ rest) ≡ has.text = ap (λ (n : ℕ). take n (has.text ++ rest)) size ∙ take-append_seam has.text rest in
    let all = without_limit plan in
    let own : IsTextPrinted all schema o has.text arrived.front.rows (concat (map cow_slice_items arrived.front.lines.items)) =
    subst (λ (n : ℕ). IsTextPrinted all schema o has.text n (concat (map cow_slice_items arrived.front.lines.items))) (sym rows) (subst (IsTextPrinted all schema o has.text kept.rows) (sym lines) has.is.is) in
    let whole = came-whole before now after limit intake next last has.text rest has.given two refl in
    HasAllCome-front plan schema o before now after limit intake next last has.text rest arrived has.given two refl
    (record {
      text = has.text ++ rest;
      within = omega arith;
      decides = λ printed is. is;
      printed = record {
        within = omega (arith, size, length-append has.text rest);
        front = subst (λ t. IsTextPrinted all schema o t arrived.front.rows (concat (map cow_slice_items arrived.front.lines.items))) (sym front) own;
      };
      left_is = left ∙ sym (drop_at has.text rest arrived.front.end (sym size));
    })

-- the records fit 64 bits
pub small-come : (plan : RangePlan) (schema : List Entry) (o : WriteOptions) (before now : Option (List ℕ)) (limit : ℕ) (intake : Intake) (arrived : Arrived) → limit < 2 ^ 64 → length intake.rest.items ≤ intake.size
    → (come : HasAllCome plan schema o before now limit intake arrived) → length (intake.rest.items ++ come.bytes) < 2 ^ 64
small-come plan schema o before now limit intake arrived fits held come = omega (arith, fits, held, come.within, length-append intake.rest.items come.bytes)

-- what is left behind the front
pub left-of-front : (plan : RangePlan) (schema : List Entry) (o : WriteOptions) (records : List ℕ) (arrived : Arrived) → length records < 2 ^ 64
    → (is : IsFrontArrived plan schema o records arrived) → IsLeftBehind (without_limit plan) schema o is.text arrived.front arrived.left.items
left-of-front plan schema o records arrived small is = record {
  small = omega (arith, small, is.within);
  printed = is.printed;
  left_is = is.left_is;
}

-- all bytes came, and this is what came of them
pub HasArrived-of : (plan : RangePlan) (schema : List Entry) (o : WriteOptions) (before now : Option (List ℕ)) (limit : ℕ) (intake : Intake) (arrived : Arrived) (printed : PrintedRows)
    → (come : HasAllCome plan schema o before now limit intake arrived) → IsPrinted plan schema o (intake.rest.items ++ come.bytes) printed → HasArrived plan schema o before now limit intake printed
HasArrived-of plan schema o before now limit intake arrived printed come is = record {
  bytes = come.bytes;
  came = come.came;
  end = come.end;
  within = come.within;
  is = is;
}
