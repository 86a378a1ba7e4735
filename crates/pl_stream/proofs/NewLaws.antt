-- A state that no bytes came to stands for the empty input.
use Rattle.std.proofs.Common.{[], refl, arith}
use Rattle.pl_options.specs.declared.read_options.CsvReadOptions.{CsvReadOptions}
use Rattle.pl_write.specs.declared.options.CsvWriterOptions.{CsvWriterOptions}
use Rattle.pl_stream.specs.Stream.{new_stream, StandsFor}

pub new_stands : (o : CsvReadOptions) (write : CsvWriterOptions) → StandsFor (new_stream o write) []
new_stands o write = record {
  small = omega arith;
  before = [];
  is = refl;
  come = tt;
  read = (refl, refl);
  few = omega arith;
  plain = λ many. absurd (omega arith);
  count = refl;
  sound = tt;
  numbered = λ some. absurd (omega arith);
}
