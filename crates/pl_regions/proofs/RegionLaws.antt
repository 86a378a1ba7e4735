-- Texts that are read and printed apart, one behind the other.
use Rattle.std.proofs.Common.{◌≡◌, ℕ, true, ◌+◌, ◌-◌, ◌<◌, ◌≤◌, List, [], ◌∷◌, ◌++◌, length, take, drop, get_or, map, Option, None, Some, Bor, refl, sym, ◌∙◌, ap, subst, arith, Global, length-append, length-take, length-drop, append_assoc, append-nil}
use Rattle.std.specs.Prelude.{All, Result, Ok, Err, is_ok, IfSome, OnOk, slice_range}
use Rattle.std.specs.Cow.{cow_slice_items}
use Rattle.std.specs.Iterator.{Yields}
use Rattle.std.specs.List.{concat}
use Rattle.std.specs.Vec.Iter.{into_iter_items, into_iter_steps}
use Rattle.std.specs.declared.borrow.CowSlice.{CowSlice}
use Rattle.std.specs.declared.vec.IntoIter.{IntoIter}
use Rattle.std.proofs.Math.Seq.{take-append_seam, take-append-add}
use Rattle.std.proofs.lemmas.List.{length-take-le, map-append, drop_at, take-append-drop, take-append-le, take_all, take_more}
use Rattle.std.proofs.lemmas.List.Folds.{concat-append}
use Rattle.pl_frame.specs.Dialect.{IsDialect}
use Rattle.pl_frame.specs.Frame.{HaveHeight, height_of}
use Rattle.pl_frame.specs.Schema.{Entry}
use Rattle.pl_text.specs.FrameText.{WriteOptions}
use Rattle.pl_scan.specs.Dialect.{marks_of, comment_of}
use Rattle.pl_board.proofs.LineStateLaws.{part-within}
use Rattle.pl_rows.specs.declared.plan.RangePlan.{RangePlan}
use Rattle.pl_rows.specs.declared.whole_pieces.PieceFrame.{PieceFrame}
use Rattle.pl_rows.specs.WholePieces.{IsPieceFrame}
use Rattle.pl_cells.proofs.CastWorkerLaws.{taken_front}
use Rattle.pl_rows.proofs.RangeLaws.{few_rows}
use Rattle.pl_write.specs.Batches.{all_lines}
use Rattle.pl_verbatim.specs.declared.verbatim.Verbatim.{Verbatim}
use Rattle.pl_verbatim.specs.PrintedTexts.{CanPrint, IsTextPrinted, IsFrontPrinted}
use Rattle.pl_verbatim.specs.Verbatim.{IsVerbatimOf, AreRowsCopied}
use Rattle.pl_verbatim.proofs.PrintingLaws.{level-text, IsTextPrinted-nil, IsTextPrinted-append, front-slice, IsFrontPrinted-none, IsFrontPrinted-more}
use Rattle.pl_regions.specs.Limits.{IsFull}
use Rattle.pl_regions.specs.Regions.{lines_so_far, lines_in, IsOpenPrinted, IsRegionPrinted, IsRegionOf, ArePlaced}
use Rattle.pl_regions.specs.declared.front.Front.{Front}
use Rattle.pl_regions.specs.declared.region.OpenRegion.{OpenRegion}
use Rattle.pl_regions.specs.declared.region.Region.{Region}

-- what holds of a success
pub ok-holds : {A E : Type 0} (r : Result A E) (P : Type 0) → is_ok r ≡ true → OnOk r P → P
ok-holds (Ok a) P ok holds = holds
ok-holds (Err e) P ok holds = absurd (cc)

-- no rows are not too many
pub few-none : (most : Option ℕ) (rows : ℕ) → rows ≡ 0 → IfSome most (λ number. rows ≤ number)
few-none None rows none = tt
few-none (Some number) rows none = omega (arith, none)

-- ---- texts

-- a piece that was read and whose rows were printed
pub IsTextPrinted-piece : (plan : RangePlan) (schema : List Entry) (o : WriteOptions) (text printed : List ℕ) (read : PieceFrame) → IsPieceFrame plan schema text read → printed ≡ all_lines o read.columns.items
    → IsTextPrinted plan schema o text read.rows printed
IsTextPrinted-piece plan schema o text printed read is lines = record {
  sound = is.sound;
  count_is = is.count;
  lines_are = lines ∙ ap (all_lines o) is.columns_are;
}

-- the columns of a piece have one height
pub level-piece : (plan : RangePlan) (schema : List Entry) (text : List ℕ) (read : PieceFrame) → IsPieceFrame plan schema text read → HaveHeight (height_of read.columns.items) read.columns.items
level-piece plan schema text read is = subst (λ columns. HaveHeight (height_of columns) columns) (sym is.columns_are) (level-text plan schema text)

-- ---- fronts

-- of a text, and of what it leaves
pub front-behind : (plan : RangePlan) (schema : List Entry) (o : WriteOptions) (text : List ℕ) (end n next k : ℕ) (l m : List ℕ) → IsDialect (marks_of plan.dialect) (comment_of plan.dialect)
    → IsFrontPrinted plan schema o text end n l → IsFrontPrinted plan schema o (drop end text) next k m → IsFrontPrinted plan schema o text (end + next) (n + k) (l ++ m)
front-behind plan schema o text end n next k l m apart first more =
    let size : (end + next) - end ≡ next = omega arith in
    IsFrontPrinted-more plan schema o text end (end + next) n k l m apart first (omega arith) (omega (arith, first.within, more.within, length-drop end text))
    (subst (λ (j : ℕ). IsTextPrinted plan schema o (take j (drop end text)) k m) (sym size) more.front)

-- the lines of two
pub lines-joined : {X : Type 0} (f : X → List ℕ) (a b joined : List X) → joined ≡ a ++ b → concat (map f joined) ≡ concat (map f a) ++ concat (map f b)
lines-joined f a b joined is = ap (λ l. concat (map f l)) is ∙ ap concat (map-append f a b) ∙ concat-append (map f a) (map f b)

-- one text more
pub text-pushed : (lines now : List (CowSlice ℕ Global)) (text : CowSlice ℕ Global) → now ≡ lines ++ text ∷ [] → concat (map cow_slice_items now) ≡ concat (map cow_slice_items lines) ++ cow_slice_items text
text-pushed lines now text is = lines-joined cow_slice_items lines (text ∷ []) now is ∙ ap (λ l. concat (map cow_slice_items lines) ++ l) (append-nil (cow_slice_items text))

-- ---- regions

-- of which nothing was printed
pub unread : (plan : RangePlan) (schema : List Entry) (o : WriteOptions) (text : List ℕ) (end n : ℕ) (lines : List ℕ) → end ≡ 0 → n ≡ 0 → lines ≡ [] → IsFrontPrinted plan schema o text end n lines
unread plan schema o text end n lines end_is n_is lines_are =
    subst (λ e. IsFrontPrinted plan schema o text e n lines) (sym end_is)
    (subst (λ k. IsFrontPrinted plan schema o text 0 k lines) (sym n_is) (subst (IsFrontPrinted plan schema o text 0 0) (sym lines_are) (IsFrontPrinted-none plan schema o text)))

-- rows more that are written as they were read
pub found : (plan : RangePlan) (schema : List Entry) (o : WriteOptions) (text : List ℕ) (end n k more : ℕ) (lines : List ℕ) → IsDialect (marks_of plan.dialect) (comment_of plan.dialect)
    → IsFrontPrinted plan schema o text end n lines → IsFrontPrinted plan schema o (drop end text) k more (take k (drop end text))
    → IsFrontPrinted plan schema o text (end + k) (n + more) (lines ++ slice_range text end (end + k))
found plan schema o text end n k more lines apart printed front =
    let size : end + k - end ≡ k = omega arith in
    subst (λ (j : ℕ). IsFrontPrinted plan schema o text (end + k) (n + more) (lines ++ take j (drop end text))) (sym size) (front-behind plan schema o text end n k more lines (take k (drop end text)) apart printed front)

-- rows more that were copied, of the bytes up to a place
pub copied : (plan : RangePlan) (schema : List Entry) (o : WriteOptions) (verbatim : Verbatim) (region : OpenRegion) (to end rows : ℕ) (lines : List ℕ) → CanPrint plan schema → IsVerbatimOf plan schema o verbatim
    → IsOpenPrinted plan schema o region → to ≤ length region.text.now → AreRowsCopied verbatim (take to region.text.now) region.end end rows region.lines.items lines
    → IsFrontPrinted plan schema o region.text.now end (region.rows + rows) (concat (map cow_slice_items region.done.items) ++ lines)
copied plan schema o verbatim region to end rows lines can is printed within are =
    let done = concat (map cow_slice_items region.done.items) in
    let size = length-take-le to region.text.now within in
    let read : slice_range (take to region.text.now) region.end end ≡ slice_range region.text.now region.end end = part-within region.text.now to region.end end are.after (omega (arith, size, are.within)) in
    subst (IsFrontPrinted plan schema o region.text.now end (region.rows + rows)) (append_assoc done region.lines.items are.copy ∙ ap (λ l. done ++ l) (sym are.now_is))
    (IsFrontPrinted-more plan schema o region.text.now region.end end region.rows rows (lines_so_far region) are.copy can.dialect printed are.after (omega (arith, size, are.within, within))
    (subst (λ t. IsTextPrinted plan schema o t rows are.copy) read (are.printed plan schema o can is)))

-- ---- texts one behind the other

-- one more
concat-more : (texts : List (List ℕ)) (text : List ℕ) → concat (texts ++ text ∷ []) ≡ concat texts ++ text
concat-more texts text = concat-append texts (text ∷ []) ∙ ap (λ l. concat texts ++ l) (append-nil text)

-- a text up to a place behind those up to another
pub cut-more : (records : List ℕ) (texts now : List (Bor (List ℕ))) (text : Bor (List ℕ)) (from end : ℕ) → concat (map (λ t. t.now) texts) ≡ take from records → now ≡ texts ++ text ∷ []
    → from ≤ end → end ≤ length records → text.now ≡ slice_range records from end → concat (map (λ t. t.now) now) ≡ take end records
cut-more records texts now text from end before more after within is =
    ap (λ l. concat (map (λ t. t.now) l)) more
    ∙ ap concat (map-append (λ (t : Bor (List ℕ)). t.now) texts (text ∷ []))
    ∙ concat-more (map (λ t. t.now) texts) text.now
    ∙ (λ j. before j ++ is j)
    ∙ front-slice records from end after within

-- ---- the front

-- texts that were printed to their ends, one behind the other
pub record IsFrontOf (plan : RangePlan) (schema : List Entry) (o : WriteOptions) (done : List (List ℕ)) (end n : ℕ) (lines : List ℕ) : Type 0 where
  pub end_is : end ≡ length (concat done)
  pub front : IsTextPrinted plan schema o (concat done) n lines

pub IsFrontOf-none : (plan : RangePlan) (schema : List Entry) (o : WriteOptions) → IsFrontOf plan schema o [] 0 0 []
IsFrontOf-none plan schema o = record { end_is = refl; front = IsTextPrinted-nil plan schema o }

pub IsFrontOf-more : (plan : RangePlan) (schema : List Entry) (o : WriteOptions) (done : List (List ℕ)) (region : Region) (end n : ℕ) (lines : List ℕ) → IsDialect (marks_of plan.dialect) (comment_of plan.dialect)
    → IsFrontOf plan schema o done end n lines → IsRegionPrinted plan schema o region → region.end ≡ length region.text.now
    → IsFrontOf plan schema o (done ++ region.text.now ∷ []) (end + region.end) (n + region.rows) (lines ++ lines_in region)
IsFrontOf-more plan schema o done region end n lines apart is printed whole =
    let text = region.text.now in
    let more = concat-more done text in
    let here : IsTextPrinted plan schema o text region.rows (lines_in region) = subst (λ t. IsTextPrinted plan schema o t region.rows (lines_in region)) (take_all region.end text (omega (arith, whole))) printed.front in
    let both = IsTextPrinted-append plan schema o (concat done) text n region.rows lines (lines_in region) apart is.front here in
    record {
      end_is = omega (arith, is.end_is, whole, ap length more, length-append (concat done) text);
      front = subst (λ t. IsTextPrinted plan schema o t (n + region.rows) (lines ++ lines_in region)) (sym more) both;
    }

-- they are the front of the data
pub front-whole : (plan : RangePlan) (schema : List Entry) (o : WriteOptions) (records : List ℕ) (texts : List (List ℕ)) (count : ℕ) (end n : ℕ) (lines : List ℕ) → concat texts ≡ records
    → IsFrontOf plan schema o (take count texts) end n lines → IsFrontPrinted plan schema o records end n lines
front-whole plan schema o records texts count end n lines whole is =
    let D = concat (take count texts) in
    let L = concat (drop count texts) in
    let all : D ++ L ≡ records = sym (concat-append (take count texts) (drop count texts)) ∙ ap concat (take-append-drop count texts) ∙ whole in
    let text : D ≡ take end records = sym (take-append_seam D L) ∙ (λ j. take (sym is.end_is j) (all j)) in
    record {
      within = omega (arith, is.end_is, length-append D L, ap length all);
      front = subst (λ t. IsTextPrinted plan schema o t n lines) text is.front;
    }

-- and so are they with the front of the region behind them
pub front-part : (plan : RangePlan) (schema : List Entry) (o : WriteOptions) (records : List ℕ) (texts : List (List ℕ)) (count : ℕ) (region : Region) (end n : ℕ) (lines : List ℕ)
    → IsDialect (marks_of plan.dialect) (comment_of plan.dialect) → concat texts ≡ records → take (count + 1) texts ≡ take count texts ++ region.text.now ∷ []
    → IsFrontOf plan schema o (take count texts) end n lines → IsRegionPrinted plan schema o region
    → IsFrontPrinted plan schema o records (end + region.end) (n + region.rows) (lines ++ lines_in region)
front-part plan schema o records texts count region end n lines apart whole next is printed =
    let D = concat (take count texts) in
    let T = region.text.now in
    let L = concat (drop (count + 1) texts) in
    let parts : concat (take count texts ++ T ∷ []) ++ L ≡ D ++ (T ++ L) = ap (λ l. l ++ L) (concat-more (take count texts) T) ∙ append_assoc D T L in
    let all : D ++ (T ++ L) ≡ records =
    sym parts ∙ ap (λ l. concat l ++ L) (sym next) ∙ sym (concat-append (take (count + 1) texts) (drop (count + 1) texts)) ∙ ap concat (take-append-drop (count + 1) texts) ∙ whole in
    let text : D ++ take region.end T ≡ take (end + region.end) records =
    sym (take-append-add D (T ++ L) region.end ∙ ap (λ l. D ++ l) (take-append-le region.end T L printed.within)) ∙ (λ j. take (sym is.end_is j + region.end) (all j)) in
    let both = IsTextPrinted-append plan schema o D (take region.end T) n region.rows lines (lines_in region) apart is.front printed.front in
    record {
      within = omega (arith, is.end_is, printed.within, length-append D (T ++ L), length-append T L, ap length all);
      front = subst (λ t. IsTextPrinted plan schema o t (n + region.rows) (lines ++ lines_in region)) text both;
    }

-- texts that were printed to their ends are a front of these and one more
front-next : (plan : RangePlan) (schema : List Entry) (o : WriteOptions) (done : List (List ℕ)) (text : List ℕ) (end n : ℕ) (lines : List ℕ) → IsFrontOf plan schema o done end n lines
    → IsFrontPrinted plan schema o (concat done ++ text) end n lines
front-next plan schema o done text end n lines is = record {
  within = omega (arith, is.end_is, length-append (concat done) text);
  front = subst (λ t. IsTextPrinted plan schema o t n lines) (sym (ap (λ (k : ℕ). take k (concat done ++ text)) is.end_is ∙ take-append_seam (concat done) text)) is.front;
}

-- and with what was printed of that one
front-with : (plan : RangePlan) (schema : List Entry) (o : WriteOptions) (done : List (List ℕ)) (region : Region) (end n : ℕ) (lines : List ℕ) → IsDialect (marks_of plan.dialect) (comment_of plan.dialect)
    → IsFrontOf plan schema o done end n lines → IsRegionPrinted plan schema o region
    → IsFrontPrinted plan schema o (concat done ++ region.text.now) (end + region.end) (n + region.rows) (lines ++ lines_in region)
front-with plan schema o done region end n lines apart is printed =
    front-behind plan schema o (concat done ++ region.text.now) end n region.end region.rows lines (lines_in region) apart (front-next plan schema o done region.text.now end n lines is)
    (subst (λ t. IsFrontPrinted plan schema o t region.end region.rows (lines_in region)) (sym (drop_at (concat done) region.text.now end (sym is.end_is))) printed)

-- it has no more rows than the data has bytes
pub few-printed : (plan : RangePlan) (schema : List Entry) (o : WriteOptions) (text : List ℕ) (end n : ℕ) (lines : List ℕ) → IsDialect (marks_of plan.dialect) (comment_of plan.dialect)
    → IsFrontPrinted plan schema o text end n lines → n ≤ length text
few-printed plan schema o text end n lines apart is =
    let front = take end text in
    let few = few_rows (marks_of plan.dialect) (comment_of plan.dialect) apart.distinct (length front) front (omega arith) in
    omega (arith, is.front.count_is, few, length-take end text)

-- ---- the regions one after another

-- behind a front stands the next one, at its length
pub at_front : {X : Type 0} (front : List X) (x d : X) (rest : List X) → get_or (front ++ x ∷ rest) (length front) d ≡ x
at_front [] x d rest = refl
at_front (y ∷ front) x d rest = at_front front x d rest

-- what holds of all holds of the next one
pub next-of : {X A : Type 0} (P : X → Type 0) (all : List X) (start : IntoIter X A) (done : List X) (now : IntoIter X A) (next : X) (left : IntoIter X A) → All P all → into_iter_items start ≡ all
    → Yields into_iter_steps start done now → into_iter_items now ≡ next ∷ into_iter_items left → P next
next-of P all start done now next left holds gives taken step =
    let whole : all ≡ done ++ next ∷ into_iter_items left = sym gives ∙ taken_front start done now taken ∙ ap (λ l. done ++ l) step in
    subst P (ap (λ l. get_or l (length done) next) whole ∙ at_front done next next (into_iter_items left)) (holds (length done) next (omega (arith, ap length whole, length-append done (next ∷ into_iter_items left))))

-- the region behind so many others
pub record IsNextRegion (plan : RangePlan) (schema : List Entry) (o : WriteOptions) (texts : List (List ℕ)) (count : ℕ) (region : Region) : Type 0 where
  pub place_is : region.place ≡ count
  pub inside : count < length texts
  pub next : take (count + 1) texts ≡ take count texts ++ region.text.now ∷ []
  pub printed : IsRegionPrinted plan schema o region

pub next-region : (plan : RangePlan) (schema : List Entry) (o : WriteOptions) (texts given : List (Bor (List ℕ))) (places : List (Option Region)) {A : Type 0} (start : IntoIter (Option Region) A)
    (done : List (Option Region)) (now : IntoIter (Option Region) A) (place : Option Region) (region : Region) (left : IntoIter (Option Region) A)
    → given ≡ texts → ArePlaced plan schema o (map (λ text. text.now) given) places → into_iter_items start ≡ places
    → Yields into_iter_steps start done now → into_iter_items now ≡ place ∷ into_iter_items left → place ≡ Some region
    → IsNextRegion plan schema o (map (λ text. text.now) texts) (length done) region
next-region plan schema o texts given places start done now place region left same placed gives taken step there =
    let count = length done in
    let bytes = map (λ (text : Bor (List ℕ)). text.now) texts in
    let all : places ≡ done ++ place ∷ into_iter_items left = sym gives ∙ taken_front start done now taken ∙ ap (λ l. done ++ l) step in
    let at : get_or places count None ≡ Some region = ap (λ l. get_or l count None) all ∙ at_front done place None (into_iter_items left) ∙ there in
    let inside : count < length places = omega (arith, ap length all, length-append done (place ∷ into_iter_items left)) in
    let here = subst (λ found. IfSome found (λ r. (r.place ≡ count) × IsRegionOf plan schema o (map (λ text. text.now) given) r)) at (placed count None inside) in
    let own : IsRegionOf plan schema o bytes region = subst (λ l. IsRegionOf plan schema o (map (λ text. text.now) l) region) same here.1 in
    let is : region.text.now ≡ get_or bytes count [] = own.text_is ∙ ap (λ k. get_or bytes k []) here.0 in
    record {
      place_is = here.0;
      inside = omega (arith, here.0, own.inside);
      next = take_more bytes count [] (omega (arith, here.0, own.inside)) ∙ ap (λ t. take count bytes ++ t ∷ []) (sym is);
      printed = own.printed;
    }

-- with it there are more rows than there may be
pub full-next : (plan : RangePlan) (schema : List Entry) (o : WriteOptions) (most : Option ℕ) (texts : List (List ℕ)) (count : ℕ) (region : Region) (front : Front) (number : ℕ)
    → IsDialect (marks_of plan.dialect) (comment_of plan.dialect) → IsNextRegion plan schema o texts count region
    → IsFrontOf plan schema o (take count texts) front.end front.rows (concat (map cow_slice_items front.lines.items)) → most ≡ Some number → number < front.rows + region.rows
    → IsFull plan schema o most texts front (region.place + 1)
full-next plan schema o most texts count region front number apart next is most_is past =
    let lines = concat (map cow_slice_items front.lines.items) in
    let texts_are : concat (take (region.place + 1) texts) ≡ concat (take count texts) ++ region.text.now =
    ap (λ (k : ℕ). concat (take (k + 1) texts)) next.place_is ∙ ap concat next.next ∙ concat-more (take count texts) region.text.now in
    record {
      within = omega (arith, next.place_is, next.inside);
      number = number;
      most_is = most_is;
      many = record {
        end = front.end + region.end;
        rows = front.rows + region.rows;
        lines = lines ++ lines_in region;
        front = subst (λ t. IsFrontPrinted plan schema o t (front.end + region.end) (front.rows + region.rows) (lines ++ lines_in region)) (sym texts_are)
            (front-with plan schema o (take count texts) region front.end front.rows lines apart is next.printed);
        enough = omega (arith, past);
      };
      is = subst (λ t. IsFrontPrinted plan schema o t front.end front.rows lines) (sym texts_are) (front-next plan schema o (take count texts) region.text.now front.end front.rows lines is);
    }
