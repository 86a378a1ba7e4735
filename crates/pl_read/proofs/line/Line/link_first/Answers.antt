use Rattle.std.proofs.Common.{◌≡◌, ◌++◌, ◌∷◌, [], List, ℕ, sym, ◌∙◌, ap, subst, append-nil}
use Rattle.std.specs.Arc.{arc_value}
use Rattle.std.specs.List.{concat}
use Rattle.pl_rows.specs.WholePieces.{IsPieceFrame}
use Rattle.pl_read.specs.Arriving.{IsLinkedUpTo}
use Rattle.pl_read.proofs.ArrivingLaws.{AreReadAt-only, some-meant, IsLinkedUpTo-next}
use Rattle.pl_read.proofs.line.Line.link_first.Goals as goal

pub link_behind-requires-clause-read : goal.link_behind-requires-clause-read
link_behind-requires-clause-read g c =
    let plan = c.args.plan.now in
    let schema = c.args.schema.now in
    let one : List ℕ = (arc_value c.in-Some.text).items in
    let text : c.as_slice.result.now ≡ one = c.as_slice.ensures.value ∙ ap (λ text. text.items) c.deref.ensures in
    let read = c.in-Some.read in
    AreReadAt-only plan schema c.as_slice.result.now read _ (c.in_ok-push.ensures.items ∙ ap (λ l. l ++ read ∷ []) c.new-reads.ensures.items)
    (some-meant (g.K.Handing.reads one) (IsPieceFrame plan schema c.as_slice.result.now) read (λ frame reads. subst (λ (t : List ℕ). IsPieceFrame plan schema t frame) (sym text) (c.requires.meant one frame reads))
    c.in-Some.ensures.read)

pub returns : goal.returns
returns g c = λ text up.
    let plan = c.args.plan.now in
    let schema = c.args.schema.now in
    let one : List ℕ = (arc_value c.in-Some.text).items in
    let others = c.take_first.new.self in
    let linked = c.args.self.now.linked in
    let is : c.as_slice.result.now ++ [] ≡ one = append-nil c.as_slice.result.now ∙ c.as_slice.ensures.value ∙ ap (λ text. text.items) c.deref.ensures in
    let before : IsLinkedUpTo plan schema text (one ++ concat others) linked = subst (λ (left : List ℕ). IsLinkedUpTo plan schema text left linked)
    (ap (λ l. l ++ concat c.args.self.now.pending) c.requires.none ∙ ap concat c.in-Some.ensures.first) up in
    let next = subst (λ (t : List ℕ). IsLinkedUpTo plan schema (before.front ++ t) c.in_ok-self.field-0.items c.link_behind.new.linked) is (c.in_ok-self.ensures before.front before.is) in
    subst (λ (pending : List (List ℕ)). IsLinkedUpTo plan schema text (c.in_ok-self.field-0.items ++ concat pending) c.link_behind.new.linked) (sym c.keep_room.ensures)
    (IsLinkedUpTo-next plan schema text one c.in_ok-self.field-0.items others linked c.link_behind.new.linked before next)
