-- The bytes of an input.
use Rattle.std.specs.Prelude.{ℕ, List}
use Rattle.pl_options.specs.declared.reader_bytes.ReaderBytes.{ReaderBytes}
use Rattle.pl_options.specs.declared.reader_bytes.ReaderBytes.TheVariants as bytes

-- the bytes, whoever owns them
abbrev pub bytes_in : ReaderBytes → List ℕ
bytes_in (bytes.Borrowed lent) = lent.now
bytes_in (bytes.Owned kept) = kept.items
