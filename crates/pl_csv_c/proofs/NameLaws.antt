-- The line of names is that of a row of texts.
use Rattle.std.proofs.Common.{◌≡◌, ℕ, ◌+◌, ◌<◌, List, [], ◌∷◌, ◌++◌, map, length, take, get_or, refl, sym, ◌∙◌, ap, arith, append-nil}
use Rattle.std.proofs.lemmas.List.{map-append, take_more}
use Rattle.pl_csv_c.specs.FrameText.{name_column}
use Rattle.pl_frame.specs.Frame.{ColumnValue, HaveHeight, height_of, names_of, cell_at}
use Rattle.pl_text.specs.FrameText.{WriteOptions, line, written_text, header_line, row_line, row_lines, written_cell}

-- one name more
pub names-more : (columns : List ColumnValue) (k : ℕ) (column : ColumnValue) (old new : List ColumnValue) (one : ColumnValue) (name : List ℕ) → k < length columns → column ≡ get_or columns k column → name ≡ column.name
    → old ≡ map name_column (names_of (take k columns)) → one ≡ name_column name → new ≡ old ++ one ∷ [] → new ≡ map name_column (names_of (take (k + 1) columns))
names-more columns k column old new one name inside is name_is so_far one_is now =
    let front = take k columns in
    let next : map name_column (names_of (take (k + 1) columns)) ≡ map name_column (names_of front) ++ name_column column.name ∷ [] =
    ap (λ l. map name_column (names_of l)) (take_more columns k column inside ∙ ap (λ x. front ++ x ∷ []) (sym is))
    ∙ ap (map name_column) (map-append (λ (c : ColumnValue). c.name) front (column ∷ []))
    ∙ map-append name_column (names_of front) (column.name ∷ []) in
    now ∙ ap (λ l. l ++ one ∷ []) so_far ∙ ap (λ x. map name_column (names_of front) ++ x ∷ []) (one_is ∙ ap name_column name_is) ∙ sym next

pub level-names : (names : List (List ℕ)) → HaveHeight 1 (map name_column names)
level-names [] = tt
level-names (name ∷ names) = (refl, level-names names)

pub level-line : (names : List (List ℕ)) → HaveHeight (height_of (map name_column names)) (map name_column names)
level-line [] = tt
level-line (name ∷ names) = (refl, level-names names)

texts-are : (o : WriteOptions) (names : List (List ℕ)) → map (λ (column : ColumnValue). written_cell o column.dtype (cell_at column 0)) (map name_column names) ≡ map (written_text o) names
texts-are o [] = refl
texts-are o (name ∷ names) = ap (λ l. written_text o name ∷ l) (texts-are o names)

-- the line of names is that of a row of texts
pub names-line : (o : WriteOptions) (names : List (List ℕ)) → 0 < length names → row_lines o (map name_column names) 0 (height_of (map name_column names)) ≡ header_line o names
names-line o [] some = absurd (omega arith)
names-line o (name ∷ names) some = append-nil (row_line o (map name_column (name ∷ names)) 0) ∙ ap (line o) (texts-are o (name ∷ names))
