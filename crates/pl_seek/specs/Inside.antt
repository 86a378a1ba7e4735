-- An index as it lies in memory.
use Rattle.pl_seek.specs.Index.{Index}
use Rattle.pl_seek.specs.declared.index.SeekIndex.TheInside.{Inside}

abbrev pub inside : Inside → Index
inside index = record {
  digest = index.digest;
  settings = index.settings;
  comment_prefix = index.comment_prefix.items;
  every = index.every;
  records = index.records;
  places = index.places.items;
}
