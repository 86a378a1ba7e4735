-- Parts in cells, and what shows them.
use Rattle.std.proofs.Common.{◌≡◌, ℕ, ◌<◌, ◌≤◌, List, [], ◌∷◌, ◌++◌, length, take, get_or, map, sym, ◌∙◌, ap, arith, length-take}
use Rattle.std.specs.Sync.OnceLock.{Named}
use Rattle.std.proofs.lemmas.List.{map-append, length-map, get_or-map, get_or-take, take_more, length_push}
use Rattle.pl_multi.specs.Cells.{Held, CellToken, AreSetIn, held_bytes}
use Rattle.pl_multi.specs.declared.groups.PartLines.{PartLines}
use Rattle.pl_multi.proofs.GroupLaws.{bytes_of}

-- there are no more tokens than cells
tokens-fit : (cells : List Named) (tokens : List CellToken) → AreSetIn cells tokens → length tokens ≤ length cells
tokens-fit cells tokens set =
    let ids = map (λ (cell : Named). cell.id) cells in
    omega (arith, ap length set, length-map tokens (λ (token : CellToken). token.of), length-take (length tokens) ids, length-map cells (λ (cell : Named). cell.id))

-- a token is that of the cell of its place
pub token-at : (cells : List Named) (tokens : List CellToken) (k : ℕ) (token : CellToken) (cell : Named) → AreSetIn cells tokens → k < length tokens → (get_or tokens k token).of ≡ (get_or cells k cell).id
token-at cells tokens k token cell set inside =
    let ids = map (λ (cell : Named). cell.id) cells in
    let more : k < length cells = omega (arith, inside, tokens-fit cells tokens set) in
    sym (get_or-map (λ (token : CellToken). token.of) tokens k token 0 inside)
    ∙ ap (λ l. get_or l k 0) set
    ∙ get_or-take (length tokens) ids k 0 inside
    ∙ get_or-map (λ (cell : Named). cell.id) cells k cell 0 more

-- a token more, of the next cell
pub set-push : (cells : List Named) (tokens : List CellToken) (token : CellToken) (cell : Named) → AreSetIn cells tokens → length tokens < length cells → token.of ≡ (get_or cells (length tokens) cell).id
    → AreSetIn cells (tokens ++ token ∷ [])
set-push cells tokens token cell set inside is =
    let ids = map (λ (cell : Named). cell.id) cells in
    map-append (λ (token : CellToken). token.of) tokens (token ∷ [])
    ∙ ap (λ l. l ++ token.of ∷ []) set
    ∙ ap (λ n. take (length tokens) ids ++ n ∷ []) (is ∙ sym (get_or-map (λ (cell : Named). cell.id) cells (length tokens) cell 0 inside))
    ∙ sym (take_more ids (length tokens) 0 (omega (arith, inside, length-map cells (λ (cell : Named). cell.id))))
    ∙ ap (λ n. take n ids) (sym (length_push tokens token))

-- the bytes of one more
pub held-push : (held : List Held) (one : Held) → held_bytes (held ++ one ∷ []) ≡ held_bytes held ++ held_bytes (one ∷ [])
held-push held one = map-append (λ (one : Held). one.value.items) held (one ∷ [])

-- there are as many parts as bytes
pub as-many : (group : List PartLines) (held : List Held) → bytes_of group ≡ held_bytes held → length group ≡ length held
as-many group held same =
    omega (arith, ap length same, length-map group (λ (one : PartLines). one.bytes.items), length-map held (λ (one : Held). one.value.items))
