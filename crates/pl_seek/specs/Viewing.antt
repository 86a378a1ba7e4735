-- The parts of an index where they lie in memory. Only the proofs of the code need this.
use Rattle.pl_seek.specs.Reading.{Parts}
use Rattle.pl_seek.specs.declared.reading.Parts.{Parts as Found}

abbrev pub view : Found → Parts
view p = record {
  magic = p.magic.now;
  digest = p.digest;
  settings = p.settings;
  comment_prefix = p.comment_prefix.now;
  every = p.every;
  records = p.records;
  places = p.places.now;
}
