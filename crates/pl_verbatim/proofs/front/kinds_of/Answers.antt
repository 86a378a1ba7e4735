-- Each column has one kind more: that of its type, or that of a column that is not read.
use Rattle.std.proofs.Common.{◌≡◌, ◌+◌, ◌<◌, true, [], ◌∷◌, ◌++◌, length, drop, Option, sym, subst, ap, ◌∙◌, refl, append-nil, arith}
use Rattle.std.specs.Prelude.{unwrap_or, slice_index}
use Rattle.std.specs.List.{All}
use Rattle.std.proofs.lemmas.List.{drop_all}
use Rattle.pl_frame.specs.declared.data_type.DataType.TheVariants as dtype
use Rattle.pl_frame.specs.Schema.{Entry}
use Rattle.pl_frame.specs.Types.{is_readable}
use Rattle.pl_cells.specs.InitBuffers.{entry_at}
use Rattle.pl_verbatim.specs.declared.kinds.Kind.TheVariants as kind
use Rattle.pl_verbatim.specs.Kinds.{AreKindsOf, is_sound_kind, read_columns}
use Rattle.pl_verbatim.proofs.SchemaLaws.{AreKindsBefore, kinds-read, kinds-passed, place-readable, sounds-more}
use Rattle.pl_verbatim.proofs.front.kinds_of.Goals as goal
use Rattle.pl_verbatim.proofs.front.kinds_of.Goals.{then-next-places+then-places-next+in-Some+in_ok-push, else-next-places+in_ok-push-2, else-next-places-via-then-next-places+else-places-next, else-next-places-via-else-next-places}

pub kind_of-requires : goal.kind_of-requires
kind_of-requires c =
    let schema = c.args.schema.now in
    let here : slice_index c.args.places.now c.loop-index.next ≡ c.loop-index.index = c.if-places-next.true in
    ap (λ (e : Option Entry). is_readable (unwrap_or e ([], dtype.Null)).1) (sym c.entry.ensures)
    ∙ ap (λ n. is_readable (entry_at schema n).1) (sym here)
    ∙ place-readable schema c.args.places.now c.loop-index.next c.requires c.if-next-places.true

pub loop-index-preserved : goal.loop-index-preserved
loop-index-preserved c =
    let schema = c.args.schema.now in
    let places = c.args.places.now in
    let index = c.loop-index.index in
    let next = c.loop-index.next in
    let kinds = c.loop-index.kinds.items in
    let before = c.loop-index.invariant in
    elim c.if-next-places.branch [
      | then-next-places+then-places-next+in-Some+in_ok-push w ↦
          let own = w.in-Some.kind in
          let grown : c.if-next-places.kinds.items ≡ kinds ++ own ∷ [] = ap (λ v. v.items) w.kinds-is ∙ w.in_ok-push.ensures.items in
          record {
            kinds =
                subst (AreKindsBefore schema places (index + 1) c.if-next-places.next) (sym grown)
                (subst (λ n. AreKindsBefore schema places (index + 1) n (kinds ++ own ∷ [])) (sym w.next-is)
                (kinds-read schema places index next (w.entry.result.0.now, w.entry.result.1.now) kinds own before.kinds w.entry.ensures w.if-next-places.true w.if-places-next.true w.in-Some.ensures.kind));
            sound = subst (All (λ kind. is_sound_kind kind ≡ true)) (sym grown) (sounds-more kinds own before.sound w.in-Some.ensures.sound);
          }
      | else-next-places+in_ok-push-2 w ↦
          let grown : c.if-next-places.kinds.items ≡ kinds ++ kind.Passed ∷ [] = ap (λ v. v.items) w.kinds-is ∙ w.in_ok-push-2.ensures.items in
          let other : next < length places → slice_index places next ≡ index → ⊥ = elim w.else-next-places.branch [
            | else-next-places-via-then-next-places+else-places-next v ↦ λ room same. v.if-places-next.false same
            | else-next-places-via-else-next-places v ↦ λ room same. absurd (omega (arith, room, v.if-next-places.false))
          ] in
          record {
            kinds =
                subst (AreKindsBefore schema places (index + 1) c.if-next-places.next) (sym grown)
                (subst (λ n. AreKindsBefore schema places (index + 1) n (kinds ++ kind.Passed ∷ [])) (sym w.next-is)
                (kinds-passed schema places index next kinds kind.Passed before.kinds (omega arith) other refl));
            sound = subst (All (λ kind. is_sound_kind kind ≡ true)) (sym grown) (sounds-more kinds kind.Passed before.sound refl);
          }
    ]

pub returns-clause-kinds : goal.returns-clause-kinds
returns-clause-kinds c = λ some.
    let schema = c.args.schema.now in
    let places = c.args.places.now in
    let kinds = c.loop-index.kinds.items in
    subst (AreKindsOf (read_columns 0 schema places)) (append-nil kinds)
    (c.loop-index.invariant.kinds []
    (subst (λ l. AreKindsOf (read_columns c.loop-index.index l (drop c.loop-index.next places)) []) (sym (drop_all c.loop-index.index schema (omega arith))) tt))
