use Rattle.std.proofs.Common.{Some, [], ◌∷◌, ◌++◌, sym, ◌∙◌, ap, position}
use Rattle.std.specs.Str.{bytes_eq}
use Rattle.pl_frame.specs.Categories.{dictionary_of}
use Rattle.pl_frame.proofs.TranslatedLaws.{text-coded, ok-value, translated-after, translated-more, translated-set}
use Rattle.pl_frame.proofs.codes.CodesBuilder.append_at.Goals as goal

pub push_known-requires : goal.push_known-requires
push_known-requires c =
    ap (λ text. position (bytes_eq text) (dictionary_of c.args.self.now))
    (text-coded _ (dictionary_of c.args.other.now) _ c.in-Some.code _ _ c.in-Some.ensures.code c.dictionary.ensures c.index-dictionary-code.is c.as_str-text.ensures).0
    ∙ c.requires.table.found c.in-Some.code c.in-Some-translated.own c.in-Some-translated.is

pub returns-in-Some-translated-clause-ok : goal.returns-in-Some-translated-clause-ok
returns-in-Some-translated-clause-ok c =
    ok-value c.push_known.result c.args.self.now c.push_known.new.self _ (Some c.as_str-text.result.now)
    (text-coded _ (dictionary_of c.args.other.now) _ c.in-Some.code _ _ c.in-Some.ensures.code c.dictionary.ensures c.index-dictionary-code.is c.as_str-text.ensures).1
    c.push_known.ensures.ok

pub returns-in-Some-translated-clause-table : goal.returns-in-Some-translated-clause-table
returns-in-Some-translated-clause-table c =
    translated-after c.push_known.result c.args.self.now c.push_known.new.self (Some c.as_str-text.result.now) (dictionary_of c.args.other.now) c.args.translated.now c.requires.table
    c.push_known.ensures.ok c.push_known.ensures.err

pub returns-in_ok-push_coded-in-None-clause-ok : goal.returns-in_ok-push_coded-in-None-clause-ok
returns-in_ok-push_coded-in-None-clause-ok c =
    c.in_ok-push_coded-in-None.ensures.ok
    ∙ ap (λ v. c.args.self.now ++ v ∷ []) (sym (text-coded _ (dictionary_of c.args.other.now) _ c.in-Some.code _ _ c.in-Some.ensures.code c.dictionary.ensures c.index-dictionary-code.is c.as_str-text.ensures).1)

pub returns-in_ok-push_coded-in-None-clause-table : goal.returns-in_ok-push_coded-in-None-clause-table
returns-in_ok-push_coded-in-None-clause-table c =
    translated-set (dictionary_of c.push_coded.new.self) (dictionary_of c.args.other.now) c.args.translated.now c.in-Some.code c.in_ok-push_coded-in-None.field-0
    (translated-more c.args.self.now c.push_coded.new.self (Some c.as_str-text.result.now) (dictionary_of c.args.other.now) c.args.translated.now c.requires.table c.in_ok-push_coded-in-None.ensures.ok)
    (ap (λ text. position (bytes_eq text) (dictionary_of c.push_coded.new.self))
    (sym (text-coded _ (dictionary_of c.args.other.now) _ c.in-Some.code _ _ c.in-Some.ensures.code c.dictionary.ensures c.index-dictionary-code.is c.as_str-text.ensures).0)
    ∙ c.in_ok-push_coded-in-None.ensures.code)
