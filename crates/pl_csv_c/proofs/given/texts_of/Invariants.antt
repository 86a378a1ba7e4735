use Rattle.std.proofs.Common.{◌≡◌, map, take, string_bytes, IsUtf8}
use Rattle.std.specs.List.{AllByRecursion}
use Rattle.pl_csv_c.proofs.given.texts_of.Given as goal

abbrev pub invariant-loop-word : goal.invariant-loop-word
invariant-loop-word l = record {
  texts : map string_bytes l.texts.items ≡ map (λ word. word.now) (take l.word-index l.words);
  utf8 : AllByRecursion IsUtf8 (map (λ word. word.now) (take l.word-index l.words));
}
