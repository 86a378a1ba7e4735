use Rattle.std.proofs.Common.{◌≡◌, length, sym, subst, arith}
use Rattle.std.proofs.lemmas.List.{take_at}
use Rattle.pl_frame.specs.Categories.{dictionary_of}
use Rattle.pl_frame.specs.Translated.{AreTranslated}
use Rattle.pl_frame.proofs.TranslatedLaws.{values-next}
use Rattle.pl_frame.proofs.codes.CodesBuilder.append_codes.Goals as goal

pub loop-i-preserved : goal.loop-i-preserved
loop-i-preserved c =
    let kept : length c.append_at.new.translated ≡ c.loop-i.translated.len = omega (arith, c.append_at.ensures.table.one_length, c.loop-i.invariant.table.one_length) in
    record {
      texts = values-next _ c.loop-i.self c.append_at.new.self c.args.other.now c.loop-i.i c.loop-i.invariant.texts (omega arith) c.in_ok-append_at.ensures.ok;
      table =
          subst (AreTranslated (dictionary_of c.append_at.new.self) (dictionary_of c.args.other.now)) (sym (take_at c.append_at.new.translated _ c.loop-i.translated.len kept))
          c.append_at.ensures.table;
    }
