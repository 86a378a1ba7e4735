-- The first cause against the options of a stream.
use Rattle.std.proofs.Common.{◌≡◌, List, ◌∷◌, refl, sym, ◌∙◌, inl, inr}
use Rattle.std.specs.Prelude.{Option, None, Some}
use Rattle.pl_frame.specs.declared.error.PolarsError.{PolarsError}
use Rattle.pl_options.specs.declared.read_options.CsvReadOptions.{CsvReadOptions}
use Rattle.pl_options.specs.FirstCause.{first_some, IsFirstCause}
use Rattle.pl_read.specs.Refusals.{early_causes}
use Rattle.pl_read.specs.SettleGiven.{given_schema, settled_causes, given_causes, IsGivenFault}
use Rattle.pl_read.specs.Steps.{MayRead}
use Rattle.pl_read.proofs.CauseLaws.{first_some-early, first_some-late, first_some-here, first_some-behind}
use Rattle.pl_read.proofs.ReaderLaws.{first-same}
use Rattle.pl_write.specs.declared.options.CsvWriterOptions.{CsvWriterOptions}
use Rattle.pl_csv.specs.Transcoding.{quote_cause}
use Rattle.pl_stream.specs.Options.{option_causes, IsOptionFault}

module _ (o : CsvReadOptions) (write : CsvWriterOptions) where
  abbrev others : List (Option PolarsError)
  others = settled_causes o (given_schema o)

  -- one of the early causes
  pub early_refused : (refusal : PolarsError) → IsFirstCause (early_causes o) o.parse_options (Some refusal) → IsOptionFault o write refusal
  early_refused refusal first = inl (record {
    is_dialect = first.is_dialect;
    tells = first.tells;
    is = sym (first_some-early (early_causes o first.is_dialect) (quote_cause write ∷ others) refusal (sym first.is));
  })

  -- the quote
  pub quote_refused : (refusal : PolarsError) → MayRead o → quote_cause write ≡ Some refusal → IsOptionFault o write refusal
  quote_refused refusal may some = inl (record {
    is_dialect = may.is_dialect;
    tells = may.tells;
    is = sym (first_some-late (early_causes o may.is_dialect) (quote_cause write ∷ others) (sym may.is) ∙ first_some-here (quote_cause write) others refusal some);
  })

  -- the first of all causes but that of the quote, where there is none of the quote
  pub first_quoted : (first : Option PolarsError) → MayRead o → quote_cause write ≡ None → IsFirstCause (given_causes o) o.parse_options first → IsFirstCause (option_causes o write) o.parse_options first
  first_quoted first may none given = record {
    is_dialect = given.is_dialect;
    tells = given.tells;
    is = given.is ∙ first_some-late early others sound ∙ sym (first_some-late early (quote_cause write ∷ others) sound ∙ first_some-behind (quote_cause write) others none);
  }
    where
      early : List (Option PolarsError)
      early = early_causes o given.is_dialect

      sound : first_some early ≡ None
      sound = sym (first-same (early_causes o) o.parse_options None (first_some early) may (record { is_dialect = given.is_dialect; tells = given.tells; is = refl }))

  -- so is its fault
  pub given_refused : (refusal : PolarsError) → MayRead o → quote_cause write ≡ None → IsGivenFault o refusal → IsOptionFault o write refusal
  given_refused refusal may none (inl first) = inl (first_quoted (Some refusal) may none first)
  given_refused refusal may none (inr wanting) = inr wanting
