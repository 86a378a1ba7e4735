use Rattle.std.proofs.Common.{◌≡◌, ◌++◌, take}
use Rattle.pl_frame.specs.Categories.{dictionary_of}
use Rattle.pl_frame.specs.Translated.{AreTranslated}
use Rattle.pl_frame.proofs.codes.CodesBuilder.append_codes.Given as goal

abbrev pub invariant-loop-i : goal.invariant-loop-i
invariant-loop-i l = record {
  texts : l.self ≡ l.initial.self ++ take l.i l.other;
  table : AreTranslated (dictionary_of l.self) (dictionary_of l.other) l.translated.items;
}
