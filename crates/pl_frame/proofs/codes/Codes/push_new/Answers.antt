use Rattle.std.proofs.Common.{◌≡◌, [], ◌∷◌, ◌++◌, length, None, Some, sym, ◌∙◌, ap, position}
use Rattle.std.specs.Str.{bytes_eq}
use Rattle.pl_frame.specs.Categories.{dictionary_of}
use Rattle.pl_frame.proofs.CategoryLaws.{dictionary-new, decoded-new}
use Rattle.pl_frame.proofs.codes.Codes.push_new.Goals as goal

pub invariant_of-self-2 : goal.invariant_of-self-2
invariant_of-self-2 c =
    let d = c.self.inside.dictionary.items in
    let t = c.args.text.now in
    let entries : c.push_reserved.new.self.items ≡ d ++ t ∷ [] = cc (c.push_reserved.ensures.items, c.in_ok-reserve.ensures.items, c.in-Ok.ensures.copied) in
    let codes : c.push.new.self ≡ c.self.inside.codes ++ Some (length d) ∷ [] = cc (c.in_ok-push.ensures.ok, c.len-code.ensures) in
    let none : position (bytes_eq t) d ≡ None = ap (position (bytes_eq t)) (sym c.self.invariant.whole ∙ ap dictionary_of c.self.view_is) ∙ c.requires in
    rw (entries, codes) (dictionary-new d c.self.inside.codes t c.self.invariant none c.utf8.text)

pub returns-clause-ok : goal.returns-clause-ok
returns-clause-ok c =
    let d = c.self.inside.dictionary.items in
    let t = c.args.text.now in
    let entries : c.push_reserved.new.self.items ≡ d ++ t ∷ [] = cc (c.push_reserved.ensures.items, c.in_ok-reserve.ensures.items, c.in-Ok.ensures.copied) in
    let codes : c.push.new.self ≡ c.self.inside.codes ++ Some (length d) ∷ [] = cc (c.in_ok-push.ensures.ok, c.len-code.ensures) in
    rw (entries, codes, ← c.self.view_is) (decoded-new d c.self.inside.codes t c.self.invariant)
