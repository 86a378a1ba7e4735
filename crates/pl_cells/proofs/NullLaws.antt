-- Texts under names, one entry after another.
use Rattle.std.proofs.Common.{◌≡◌, ℕ, zero, suc, ◌+◌, ◌<◌, List, [], ◌∷◌, ◌++◌, length, take, get_or, refl, sym, ◌∙◌, ap}
use Rattle.std.specs.Prelude.{Some, slice_get, if◌then◌else◌}
use Rattle.std.specs.Str.{bytes_eq}
use Rattle.std.proofs.lemmas.List.{take_more}
use Rattle.pl_frame.specs.declared.data_type.DataType.{DataType}
use Rattle.pl_frame.specs.Schema.{Entry, names_in}
use Rattle.pl_cells.specs.NullValues.{NamedTexts, text_under, column_texts}

-- one entry more, at the end
text_under-append : (other : List ℕ) (entries : NamedTexts) (entry : List ℕ × List ℕ) (name : List ℕ)
    → text_under other (entries ++ entry ∷ []) name ≡ (if bytes_eq name entry.0 then entry.1 else text_under other entries name)
text_under-append other [] entry name = refl
text_under-append other (e ∷ entries) entry name = text_under-append (if bytes_eq name e.0 then e.1 else other) entries entry name

pub text_under-more : (entries : NamedTexts) (k : ℕ) (d : List ℕ × List ℕ) (name : List ℕ) → k < length entries
    → text_under [] (take (k + 1) entries) name ≡ (if bytes_eq name (get_or entries k d).0 then (get_or entries k d).1 else text_under [] (take k entries) name)
text_under-more entries k d name l = ap (λ es. text_under [] es name) (take_more entries k d l) ∙ text_under-append [] (take k entries) (get_or entries k d) name

-- one column more, at the end
pub column_texts-more : (entries : NamedTexts) (schema : List Entry) (k : ℕ) (name : List ℕ) (type : DataType) → slice_get schema k ≡ Some (name, type)
    → take (suc k) (column_texts entries (names_in schema)) ≡ take k (column_texts entries (names_in schema)) ++ text_under [] entries name ∷ []
column_texts-more entries [] k name type at = cc
column_texts-more entries (e ∷ schema) zero name type at =
    let same : e ≡ (name, type) = cc in ap (λ (c : Entry). text_under [] entries c.0 ∷ []) same
column_texts-more entries (e ∷ schema) (suc k) name type at = ap (λ l. text_under [] entries e.0 ∷ l) (column_texts-more entries schema k name type at)

-- one name more, at the end
names_texts-push : (entries : NamedTexts) (names : List (List ℕ)) (name : List ℕ) → column_texts entries (names ++ name ∷ []) ≡ column_texts entries names ++ text_under [] entries name ∷ []
names_texts-push entries [] name = refl
names_texts-push entries (first ∷ names) name = ap (λ l. text_under [] entries first ∷ l) (names_texts-push entries names name)

pub names_texts-more : (entries : NamedTexts) (names : List (List ℕ)) (k : ℕ) (name : List ℕ) → k < length names → name ≡ get_or names k name
    → column_texts entries (take (k + 1) names) ≡ column_texts entries (take k names) ++ text_under [] entries name ∷ []
names_texts-more entries names k name l is =
    ap (column_texts entries) (take_more names k name l ∙ ap (λ x. take k names ++ x ∷ []) (sym is)) ∙ names_texts-push entries (take k names) name
