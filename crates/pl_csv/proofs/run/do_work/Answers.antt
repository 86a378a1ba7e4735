use Rattle.std.proofs.Common.{map, string_bytes, inl, subst}
use Rattle.pl_words.specs.Words.{Conversion}
use Rattle.pl_csv.specs.Run.{IsWork}
use Rattle.pl_csv.specs.Sources.{IsUnconverted}
use Rattle.pl_csv.specs.Views.{views}
use Rattle.pl_csv.proofs.RunLaws.{converted-source, refused-source}
use Rattle.pl_csv.proofs.run.do_work.Goals as goal

pub returns-in-Ok-clause-done : goal.returns-in-Ok-clause-done
returns-in-Ok-clause-done g c =
    let words = map string_bytes c.args.words.now in
    let conversion : Conversion = record { read = c.in-Convert.conversion.read; write = c.in-Convert.conversion.write } in
    let meaning = subst (IsWork words) c.in-Convert.is c.in_ok-conversion.ensures.work in
    inl
    (converted-source words (g.So.Source.left c.args.source.now) (g.So.Source.left c.convert_source-converted.new.source) (g.Si.Sink.received c.args.out.now) (g.Si.Sink.received c.convert_source-converted.new.sink) conversion meaning
    c.in-Ok.ensures.converted)

pub returns-in-Err-Source-clause-refused : goal.returns-in-Err-Source-clause-refused
returns-in-Err-Source-clause-refused g c =
    let words = map string_bytes c.args.words.now in
    let conversion : Conversion = record { read = c.in-Convert.conversion.read; write = c.in-Convert.conversion.write } in
    let meaning = subst (IsWork words) c.in-Convert.is c.in_ok-conversion.ensures.work in
    let before = views (g.So.Source.left c.args.source.now) (g.So.Source.faults c.args.source.now) (g.Si.Sink.received c.args.out.now) (g.Si.Sink.faults c.args.out.now) (g.Si.Sink.wants c.args.out.now) in
    let now = views (g.So.Source.left c.convert_source-converted.new.source) (g.So.Source.faults c.convert_source-converted.new.source) (g.Si.Sink.received c.convert_source-converted.new.sink) (g.Si.Sink.faults c.convert_source-converted.new.sink) (g.Si.Sink.wants c.convert_source-converted.new.sink) in
    let is = subst (IsUnconverted conversion.read conversion.write before now) c.in-Err-Source.field-0-is c.in-Err-Source.ensures.refused in
    ((conversion, meaning), is.0, is.1)

pub returns-in-Err-TooLong-clause-refused : goal.returns-in-Err-TooLong-clause-refused
returns-in-Err-TooLong-clause-refused g c =
    let words = map string_bytes c.args.words.now in
    let conversion : Conversion = record { read = c.in-Convert.conversion.read; write = c.in-Convert.conversion.write } in
    let meaning = subst (IsWork words) c.in-Convert.is c.in_ok-conversion.ensures.work in
    let before = views (g.So.Source.left c.args.source.now) (g.So.Source.faults c.args.source.now) (g.Si.Sink.received c.args.out.now) (g.Si.Sink.faults c.args.out.now) (g.Si.Sink.wants c.args.out.now) in
    let now = views (g.So.Source.left c.convert_source-converted.new.source) (g.So.Source.faults c.convert_source-converted.new.source) (g.Si.Sink.received c.convert_source-converted.new.sink) (g.Si.Sink.faults c.convert_source-converted.new.sink) (g.Si.Sink.wants c.convert_source-converted.new.sink) in
    let is = subst (IsUnconverted conversion.read conversion.write before now) c.in-Err-TooLong.field-0-is c.in-Err-TooLong.ensures.refused in
    ((conversion, meaning), is.0, is.1)

pub returns-in-Err-Polars-clause-refused : goal.returns-in-Err-Polars-clause-refused
returns-in-Err-Polars-clause-refused g c =
    let words = map string_bytes c.args.words.now in
    let conversion : Conversion = record { read = c.in-Convert.conversion.read; write = c.in-Convert.conversion.write } in
    let meaning = subst (IsWork words) c.in-Convert.is c.in_ok-conversion.ensures.work in
    let before = views (g.So.Source.left c.args.source.now) (g.So.Source.faults c.args.source.now) (g.Si.Sink.received c.args.out.now) (g.Si.Sink.faults c.args.out.now) (g.Si.Sink.wants c.args.out.now) in
    let now = views (g.So.Source.left c.convert_source-converted.new.source) (g.So.Source.faults c.convert_source-converted.new.source) (g.Si.Sink.received c.convert_source-converted.new.sink) (g.Si.Sink.faults c.convert_source-converted.new.sink) (g.Si.Sink.wants c.convert_source-converted.new.sink) in
    let is = subst (IsUnconverted conversion.read conversion.write before now) c.in-Err-Polars.field-0-is c.in-Err-Polars.ensures.refused in
    refused-source words before now conversion c.in-Err-Polars.fault meaning is
