-- Equal options of a writer are the same.
use Rattle.std.proofs.Common.{◌≡◌, true, refl, sym, subst, true≢false}
use Rattle.std.proofs.lemmas.Bool.{and_parts, eqb-true}
use Rattle.std.specs.Cmp.{IsEquivalence, booleans_Decides}
use Rattle.std.specs.Cmp.Lexicographic.{bytes_decides}
use Rattle.pl_write.specs.contracts.options.SerializeOptionsEq.TheImpl.Laws as cells_laws
use Rattle.pl_write.specs.contracts.options.CsvWriterOptionsEq.TheImpl.Laws as writers_laws
use Rattle.pl_write.specs.contracts.options.QuoteStylePartialEq.TheImpl as styles
use Rattle.pl_write.specs.declared.options.QuoteStyle.{QuoteStyle}
use Rattle.pl_write.specs.declared.options.QuoteStyle.TheVariants as style
use Rattle.pl_write.specs.declared.options.SerializeOptions.{SerializeOptions}
use Rattle.pl_write.specs.declared.options.CsvWriterOptions.{CsvWriterOptions}
use Rattle.pl_write.specs.OptionsEqual.{cells_equal, options_equal, CellOptionsAreTold, WriterOptionsAreTold}

styles_same : (a b : QuoteStyle) → styles.ghosts.eq a b ≡ true → a ≡ b
styles_same style.Necessary style.Necessary e = refl
styles_same style.Always style.Always e = refl
styles_same style.NonNumeric style.NonNumeric e = refl
styles_same style.Never style.Never e = refl
styles_same _ _ e = absurd (true≢false (sym e))

cells_same : (a b : SerializeOptions) → cells_equal a b ≡ true → a ≡ b
cells_same a b e =
    let separators = and_parts _ _ e in
    let quotes = and_parts _ _ separators.1 in
    let nulls = and_parts _ _ quotes.1 in
    let ends = and_parts _ _ nulls.1 in
    λ j. record {
      separator = eqb-true a.separator b.separator separators.0 j;
      quote_char = eqb-true a.quote_char b.quote_char quotes.0 j;
      null = (bytes_decides a.null b.null).0 nulls.0 j;
      line_terminator = (bytes_decides a.line_terminator b.line_terminator).0 ends.0 j;
      quote_style = styles_same a.quote_style b.quote_style ends.1 j;
    }

cells_equiv : IsEquivalence cells_equal
cells_equiv = cells_laws.laws-law

pub cells_told : CellOptionsAreTold
cells_told a b = (cells_same a b, λ e. subst (λ (t : SerializeOptions). cells_equal a t ≡ true) e (cells_equiv.refl a))

writers_same : (a b : CsvWriterOptions) → options_equal a b ≡ true → a ≡ b
writers_same a b e =
    let marks = and_parts _ _ e in
    let headers = and_parts _ _ marks.1 in
    let sizes = and_parts _ _ headers.1 in
    let orders = and_parts _ _ sizes.1 in
    λ j. record {
      include_bom = (booleans_Decides a.include_bom b.include_bom).0 marks.0 j;
      include_header = (booleans_Decides a.include_header b.include_header).0 headers.0 j;
      batch_size = eqb-true a.batch_size b.batch_size sizes.0 j;
      maintain_order = (booleans_Decides a.maintain_order b.maintain_order).0 orders.0 j;
      serialize_options = cells_same a.serialize_options b.serialize_options orders.1 j;
    }

writers_equiv : IsEquivalence options_equal
writers_equiv = writers_laws.laws-law

pub writers_told : WriterOptionsAreTold
writers_told a b = (writers_same a b, λ e. subst (λ (t : CsvWriterOptions). options_equal a t ≡ true) e (writers_equiv.refl a))
