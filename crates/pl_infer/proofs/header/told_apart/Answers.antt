use Rattle.std.proofs.Common.{◌≡◌, ◌+◌, ◌++◌, ◌∷◌, [], take, refl, sym, ◌∙◌, ap, arith, count_by, if◌then◌else◌}
use Rattle.std.specs.Str.{bytes_eq}
use Rattle.std.proofs.lemmas.List.{take_all}
use Rattle.pl_infer.specs.Header.{numbered_name, apart_behind}
use Rattle.pl_infer.specs.ReadNames.{count_of}
use Rattle.pl_infer.proofs.NameLaws.{take-name, count_by-few, count_by-push, apart_behind-more}
use Rattle.pl_infer.proofs.header.told_apart.Goals as goal

pub loop-name-init : goal.loop-name-init
loop-name-init c = record { counted = λ other. rw c.new-counts.ensures.empty refl; apart = c.new-apart.ensures.items }

pub count_up-requires : goal.count_up-requires
count_up-requires c =
    let names = c.args.names.now in
    let name = c.as_str-in-loop-name-3.result.now in
    omega (arith, c.loop-name.invariant.counted name, count_by-few name names c.loop-name.name-index c.loop-name-test.true)

pub loop-name-preserved : goal.loop-name-preserved
loop-name-preserved c =
    let names = c.args.names.now in
    let i = c.loop-name.name-index in
    let name = c.name-item.result in
    let seen = take i names in
    let more : take (i + 1) names ≡ seen ++ name ∷ [] = take-name names i name c.loop-name-test.true c.name-item.is in
    let before : c.count_of-before.result ≡ count_by (bytes_eq name) seen =
    c.count_of-before.ensures ∙ ap (count_of c.loop-name.counts) c.as_str.ensures ∙ c.loop-name.invariant.counted name in
    let made : c.as_str-in-loop-name-2.result.now ≡ numbered_name name (count_by (bytes_eq name) seen) =
    c.as_str-in-loop-name-2.ensures.value ∙ c.in_ok-numbered.ensures ∙ ap (λ x. numbered_name x c.count_of-before.result) c.as_str-in-loop-name.ensures ∙ ap (numbered_name name) before in
    record {
      counted = λ other.
          c.in_ok-count_up.ensures other
          ∙ ap (λ x. count_of c.loop-name.counts other + (if bytes_eq other x then 1 else 0)) c.as_str-in-loop-name-3.ensures
          ∙ ap (λ n. n + (if bytes_eq other name then 1 else 0)) (c.loop-name.invariant.counted other)
          ∙ sym (count_by-push other seen name)
          ∙ ap (count_by (bytes_eq other)) (sym more);
      apart = c.in_ok-push_name.ensures
          ∙ ap (λ x. c.loop-name.apart.items ++ x ∷ []) made
          ∙ ap (λ xs. xs ++ numbered_name name (count_by (bytes_eq name) seen) ∷ []) c.loop-name.invariant.apart
          ∙ sym (apart_behind-more [] seen name)
          ∙ ap (apart_behind []) (sym more);
    }

pub returns : goal.returns
returns c = c.loop-name.invariant.apart ∙ ap (apart_behind []) (take_all c.loop-name.name-index c.args.names.now c.loop-name-test.false)
