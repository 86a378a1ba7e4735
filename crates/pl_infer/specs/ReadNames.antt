-- The names of columns, while they are read.
use Rattle.std.specs.Prelude.{ℕ, Bool, List, Option, String, map, unwrap_or}
use Rattle.std.specs.HashMap.{HashMap, get_by_text}
use Rattle.pl_infer.specs.Header.{field_name}

-- the names that fields write, each of which comes with whether it begins with the quote
abbrev pub written : Option ℕ → List (List ℕ × Bool) → List (List ℕ)
written quote marked = map (λ f. field_name quote f.0) marked

-- how often a name came, where the map has a count for each that did
abbrev pub count_of : {A S : Type 0} → HashMap (String A) ℕ S → List ℕ → ℕ
count_of counts name = unwrap_or (get_by_text counts name) 0
