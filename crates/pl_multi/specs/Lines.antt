-- The lines of a part, which may be among its bytes; only the proofs of the code need them.
use Rattle.std.specs.Prelude.{ℕ, List, ◌++◌, take, drop}
use Rattle.pl_multi.specs.declared.lines.FoundLines.{FoundLines}
use Rattle.pl_multi.specs.declared.lines.LineSink.{LineSink}

-- lines that were found among the bytes of a part, and those that were copied
abbrev pub found_text : List ℕ → FoundLines → List ℕ
found_text bytes found = take found.len (drop found.from bytes) ++ found.copied.items

-- the text of a sink, and the lines behind it
abbrev pub line_text : LineSink → List ℕ
line_text sink = sink.text.now ++ (take sink.len sink.text.now ++ sink.copied.items)
