-- Texts of a source that workers read apart, at their places.
use Rattle.std.proofs.Common.{◌≡◌, ℕ, ◌+◌, ◌-◌, ◌≤◌, ◌^◌, true, List, [], ◌∷◌, ◌++◌, length, map, take, drop, get_or, Option, None, Some, refl, sym, ◌∙◌, ap, subst, arith, length-take, append-nil, append_assoc}
use Rattle.std.specs.Prelude.{IfSome}
use Rattle.std.specs.Io.KnownBytes.{IsAtEnd}
use Rattle.std.specs.List.{concat}
use Rattle.std.proofs.Math.Seq.{drop-append-add}
use Rattle.std.proofs.lemmas.List.{take-append-drop, take_all}
use Rattle.std.proofs.lemmas.List.Folds.{concat-append}
use Rattle.pl_frame.proofs.Known.{Consumes-append}
use Rattle.pl_frame.specs.FrameParts.{empty_columns}
use Rattle.pl_cells.specs.InitBuffers.{entry_at}
use Rattle.pl_frame.specs.Schema.{Entry}
use Rattle.pl_scan.specs.Dialect.{marks_of, comment_of}
use Rattle.pl_table.specs.Rows.{rows}
use Rattle.pl_intake.specs.Handed.{HasHanded}
use Rattle.pl_intake.specs.Intake.{HasGiven, HasGainedAll}
use Rattle.pl_intake.specs.declared.intake.Intake.{Intake}
use Rattle.pl_intake.proofs.IntakeLaws.{HasGiven-nothing}
use Rattle.pl_intake.proofs.TextLaws.{came-whole, HasGiven-more}
use Rattle.pl_rows.specs.declared.columns.RangeColumns.{RangeColumns}
use Rattle.pl_rows.specs.declared.plan.RangePlan.{RangePlan}
use Rattle.pl_rows.specs.declared.whole_pieces.PieceFrame.{PieceFrame}
use Rattle.pl_rows.specs.Ranges.{IsRangeRead}
use Rattle.pl_rows.specs.Texts.{AreReadAt}
use Rattle.pl_rows.specs.WholePieces.{IsPieceFrame, IsPieceFound, IsSoundText, text_frame, IsFrontLinked}
use Rattle.pl_rows.proofs.LinkLaws.{IsFrontLinked-none}
use Rattle.pl_read.specs.Arriving.{HasArrived, IsLinked, IsLinkedUpTo, IsLinkedOn, HasInLine, HasLinked}
use Rattle.pl_read.specs.declared.linked.Linked.{Linked}

-- what was found of a text is what was read of it
pub found-frame : (plan : RangePlan) (schema : List Entry) (text : List ℕ) (read : Option PieceFrame) → IsPieceFound plan schema text read → IfSome read (IsPieceFrame plan schema text)
found-frame plan schema text None found = tt
found-frame plan schema text (Some read) found = found.0

-- of one text
pub AreReadAt-only : (plan : RangePlan) (schema : List Entry) (text : List ℕ) (read : Option PieceFrame) (reads : List (Option PieceFrame)) → reads ≡ read ∷ [] → IfSome read (IsPieceFrame plan schema text)
    → AreReadAt plan schema (text ∷ []) reads
AreReadAt-only plan schema text read reads is own =
    subst (AreReadAt plan schema (text ∷ [])) (sym is) (λ k d inside.
    let first : k ≡ 0 = omega (arith, inside) in
    subst (λ n. IfSome (get_or (read ∷ []) n d) (IsPieceFrame plan schema (get_or (text ∷ []) n []))) (sym first) own)

pub AreReadAt-one : (plan : RangePlan) (schema : List Entry) (text : List ℕ) (read : Option PieceFrame) (reads : List (Option PieceFrame)) → reads ≡ read ∷ [] → IsPieceFound plan schema text read
    → AreReadAt plan schema (text ∷ []) reads
AreReadAt-one plan schema text read reads is found = AreReadAt-only plan schema text read reads is (found-frame plan schema text read found)

-- what holds of a value where there is one
pub some-meant : (P Q : PieceFrame → Type 0) (read : Option PieceFrame) → ((one : PieceFrame) → P one → Q one) → IfSome read P → IfSome read Q
some-meant P Q None meant holds = tt
some-meant P Q (Some one) meant holds = meant one holds

-- all bytes came, and their rows were read
pub HasArrived-read : (plan : RangePlan) (schema : List Entry) (before now after : Option (List ℕ)) (limit : ℕ) (intake next last : Intake) (front rest : List ℕ) (read : RangeColumns)
    → HasGiven before now limit intake next front → HasGainedAll now after limit next last → rest ≡ last.rest.items → IsRangeRead plan schema (front ++ rest) read → HasArrived plan schema before after intake.rest.items read
HasArrived-read plan schema before now after limit intake next last front rest read one two kept is = record {
  bytes = one.bytes ++ two.bytes;
  came = Consumes-append before now after one.bytes two.bytes one.gained.came two.gained.came;
  end = two.end;
  is = subst (λ text. IsRangeRead plan schema text read) (came-whole before now after limit intake next last front rest one two kept) is;
}

-- ---- texts that are linked

-- no text
pub IsLinked-none : (plan : RangePlan) (schema : List Entry) (linked : Linked) → linked.stacks.items ≡ empty_columns (map (entry_at schema) plan.projection.places.now) → linked.front.rows ≡ 0 → linked.front.end ≡ 0
    → IsLinked plan schema [] linked
IsLinked-none plan schema linked empty rows end = record {
  linked = subst (λ (n : ℕ). IsFrontLinked plan schema [] linked.stacks.items linked.front.rows n) (sym end)
      (subst (λ (n : ℕ). IsFrontLinked plan schema [] linked.stacks.items n 0) (sym rows) (IsFrontLinked-none plan schema [] linked.stacks.items empty));
  end_is = end;
}

-- the front of a text
pub IsLinked-front : (plan : RangePlan) (schema : List Entry) (range : List ℕ) (linked : Linked) → IsFrontLinked plan schema range linked.stacks.items linked.front.rows linked.front.end
    → IsLinked plan schema (take linked.front.end range) linked
IsLinked-front plan schema range linked front =
    let end = linked.front.end in
    let size : length (take end range) ≡ end = omega (arith, length-take end range, front.within) in
    let same : take end (take end range) ≡ take end range = take_all end (take end range) (omega (arith, size)) in
    record {
      linked = record {
        within = omega (arith, size);
        sound = subst (IsSoundText plan schema) (sym same) front.sound;
        columns_are = front.columns_are ∙ ap (text_frame plan schema) (sym same);
        count_is = front.count_is ∙ ap (λ (t : List ℕ). length (rows (marks_of plan.dialect) (comment_of plan.dialect) t)) (sym same);
        few = front.few;
      };
      end_is = sym size;
    }

-- texts behind a front, and what is left of them
pub IsLinkedUpTo-front : (plan : RangePlan) (schema : List Entry) (before texts left : List ℕ) (start : ℕ) (linked : Linked)
    → IsFrontLinked plan schema (before ++ texts) linked.stacks.items linked.front.rows linked.front.end → start ≡ length before → start ≤ linked.front.end → left ≡ drop (linked.front.end - start) (texts ++ [])
    → IsLinkedUpTo plan schema (before ++ texts) left linked
IsLinkedUpTo-front plan schema before texts left start linked front start_is after left_is =
    let end = linked.front.end in
    let all = before ++ texts in
    let more = end - start in
    let at : end ≡ length before + more = omega (arith, start_is, after) in
    let behind : drop end all ≡ left =
    ap (λ n. drop n all) at ∙ drop-append-add before texts more ∙ ap (drop more) (sym (append-nil texts)) ∙ sym left_is in
    record {
      front = take end all;
      is = IsLinked-front plan schema all linked front;
      are = sym (take-append-drop end all) ∙ ap (λ l. take end all ++ l) behind;
    }

-- what is left was taken back
pub IsLinkedOn-back : (plan : RangePlan) (schema : List Entry) (text left : List ℕ) (intake next : Intake) (linked : Linked) → IsLinkedUpTo plan schema text left linked → next.rest.items ≡ left ++ intake.rest.items
    → next.size ≡ intake.size → next.is_ended ≡ intake.is_ended → IsLinkedOn plan schema text intake next linked
IsLinkedOn-back plan schema text left intake next linked up rest_is size ended = record {
  front = up.front;
  is = up.is;
  are = ap (λ l. l ++ intake.rest.items) up.are ∙ append_assoc up.front left intake.rest.items ∙ ap (λ l. up.front ++ l) (sym rest_is);
  size_is = size;
  ended_is = ended;
}

-- all of a text is linked, and behind it stands what is left
pub IsLinkedUpTo-all : (plan : RangePlan) (schema : List Entry) (text : List ℕ) (linked : Linked) → IsLinked plan schema text linked → IsLinkedUpTo plan schema text ([] ++ concat []) linked
IsLinkedUpTo-all plan schema text linked is = record { front = text; is = is; are = sym (append-nil text) }

-- the first of the texts behind is linked up to a place, and the others stay behind that
pub IsLinkedUpTo-next : (plan : RangePlan) (schema : List Entry) (text one left : List ℕ) (others : List (List ℕ)) (old linked : Linked) (up : IsLinkedUpTo plan schema text (one ++ concat others) old)
    → IsLinkedUpTo plan schema (up.front ++ one) left linked → IsLinkedUpTo plan schema text (left ++ concat others) linked
IsLinkedUpTo-next plan schema text one left others old linked up next = record {
  front = next.front;
  is = next.is;
  are = up.are ∙ sym (append_assoc up.front one (concat others)) ∙ ap (λ l. l ++ concat others) next.are ∙ append_assoc next.front left (concat others);
}

-- the same, of what is equal
pub IsLinkedUpTo-same : (plan : RangePlan) (schema : List Entry) (text left now : List ℕ) (pending others : List (List ℕ)) (old linked : Linked) → now ≡ left → others ≡ pending → linked ≡ old
    → IsLinkedUpTo plan schema text (left ++ concat pending) old → IsLinkedUpTo plan schema text (now ++ concat others) linked
IsLinkedUpTo-same plan schema text left now pending others old linked same_left same_pending same up =
    subst (λ (l : Linked). IsLinkedUpTo plan schema text (now ++ concat others) l) (sym same)
    (subst (λ (l : List ℕ). IsLinkedUpTo plan schema text l old) (sym (ap (λ l. l ++ concat others) same_left ∙ ap (λ p. left ++ concat p) same_pending)) up)

-- texts were handed out behind it
pub IsLinkedUpTo-handed : (plan : RangePlan) (schema : List Entry) (text left : List ℕ) (old more new : List (List ℕ)) (linked : Linked) → IsLinkedUpTo plan schema text (left ++ concat old) linked → new ≡ old ++ more
    → IsLinkedUpTo plan schema (text ++ concat more) (left ++ concat new) linked
IsLinkedUpTo-handed plan schema text left old more new linked up are = record {
  front = up.front;
  is = up.is;
  are = ap (λ l. l ++ concat more) up.are ∙ append_assoc up.front (left ++ concat old) (concat more)
      ∙ ap (λ l. up.front ++ l) (append_assoc left (concat old) (concat more) ∙ ap (λ l. left ++ l) (sym (concat-append old more) ∙ ap concat (sym are)));
}

-- nothing came, and nothing is linked
pub HasLinked-none : (plan : RangePlan) (schema : List Entry) (before : Option (List ℕ)) (intake : Intake) (linked : Linked) → intake.size ≤ 2 ^ 64 - 1 → (intake.is_ended ≡ true → IsAtEnd before)
    → IsLinked plan schema [] linked → HasLinked plan schema before before intake intake linked
HasLinked-none plan schema before intake linked within ended none = record {
  text = [];
  given = HasGiven-nothing before (2 ^ 64 - 1) intake intake [] refl within ended refl;
  is = none;
}

-- texts came, and were linked
pub HasLinked-more : (plan : RangePlan) (schema : List Entry) (before now after : Option (List ℕ)) (first intake next last : Intake) (old linked : Linked) (text : List ℕ)
    → (has : HasLinked plan schema before now first intake old) → HasGiven now after (2 ^ 64 - 1) intake next text → IsLinkedOn plan schema (has.text ++ text) next last linked
    → HasLinked plan schema before after first last linked
HasLinked-more plan schema before now after first intake next last old linked text has given on =
    let both = HasGiven-more before now after (2 ^ 64 - 1) first intake next has.text text has.given given in
    record {
      text = on.front;
      given = record {
        bytes = both.bytes;
        gained = record {
          came = both.gained.came;
          size_is = on.size_is ∙ both.gained.size_is;
          within = omega (arith, on.size_is, both.gained.within);
          ended = λ is. both.gained.ended (sym on.ended_is ∙ is);
        };
        are = both.are ∙ on.are;
      };
      is = on.is;
    }

-- ---- texts that are linked, and others behind them

-- none stand behind them
pub HasInLine-first : (plan : RangePlan) (schema : List Entry) (before now : Option (List ℕ)) (first intake : Intake) (linked : Linked) (left : List ℕ) (pending : List (List ℕ))
    → HasLinked plan schema before now first intake linked → left ≡ [] → pending ≡ [] → HasInLine plan schema before now first intake linked left pending
HasInLine-first plan schema before now first intake linked left pending has none empty = record {
  text = has.text;
  given = has.given;
  is = subst (λ (l : List ℕ). IsLinkedUpTo plan schema has.text l linked) (sym (ap (λ l. l ++ concat pending) none ∙ ap concat empty)) (IsLinkedUpTo-all plan schema has.text linked has.is);
}

-- more of them are linked
pub HasInLine-linked : (plan : RangePlan) (schema : List Entry) (before now : Option (List ℕ)) (first intake : Intake) (old linked : Linked) (left after : List ℕ) (pending others : List (List ℕ))
    → HasInLine plan schema before now first intake old left pending
    → ((text : List ℕ) → IsLinkedUpTo plan schema text (left ++ concat pending) old → IsLinkedUpTo plan schema text (after ++ concat others) linked)
    → HasInLine plan schema before now first intake linked after others
HasInLine-linked plan schema before now first intake old linked left after pending others has more = record { text = has.text; given = has.given; is = more has.text has.is }

-- texts came, and were handed out
pub HasInLine-handed : (plan : RangePlan) (schema : List Entry) (before now after : Option (List ℕ)) (first intake next : Intake) (linked : Linked) (left : List ℕ) (old new : List (List ℕ))
    → HasInLine plan schema before now first intake linked left old → HasHanded now after (2 ^ 64 - 1) intake next old new → HasInLine plan schema before after first next linked left new
HasInLine-handed plan schema before now after first intake next linked left old new has handed = record {
  text = has.text ++ concat handed.more;
  given = HasGiven-more before now after (2 ^ 64 - 1) first intake next has.text (concat handed.more) has.given handed.given;
  is = IsLinkedUpTo-handed plan schema has.text left old handed.more new linked has.is handed.are;
}

-- what stands behind them was taken back
pub HasInLine-back : (plan : RangePlan) (schema : List Entry) (before now : Option (List ℕ)) (first intake next : Intake) (linked : Linked) (left : List ℕ) (pending : List (List ℕ))
    → HasInLine plan schema before now first intake linked left pending → next.rest.items ≡ (left ++ concat pending) ++ intake.rest.items → next.size ≡ intake.size → next.is_ended ≡ intake.is_ended
    → HasLinked plan schema before now first next linked
HasInLine-back plan schema before now first intake next linked left pending has rest size ended =
    let up = has.is in
    record {
      text = up.front;
      given = record {
        bytes = has.given.bytes;
        gained = record {
          came = has.given.gained.came;
          size_is = size ∙ has.given.gained.size_is;
          within = omega (arith, size, has.given.gained.within);
          ended = λ is. has.given.gained.ended (sym ended ∙ is);
        };
        are = has.given.are ∙ ap (λ l. l ++ intake.rest.items) up.are ∙ append_assoc up.front (left ++ concat pending) intake.rest.items ∙ ap (λ l. up.front ++ l) (sym rest);
      };
      is = up.is;
    }
