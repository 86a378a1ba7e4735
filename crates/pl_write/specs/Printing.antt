-- Rows of a frame that are printed in shares, side by side.
use Rattle.std.specs.Prelude.{◌≡◌, ℕ, ◌≤◌, Bool, List, [], ◌∷◌}
use Rattle.std.specs.List.{flat_map}

-- a share of the rows: those from one on up to another, the text that was printed for it, and whether memory was wanting for that
pub record ShareValue : Type 0 where
  pub text : List ℕ
  pub first : ℕ
  pub end : ℕ
  pub wanting : Bool

-- the shares have the rows from one on up to another, each those that follow on the rows of the share before
abbrev pub FollowOn : ℕ → ℕ → List ShareValue → Type 0
FollowOn first end [] = first ≡ end
FollowOn first end (share ∷ shares) = (share.first ≡ first) × (first ≤ share.end) × FollowOn share.end end shares

-- the texts of the shares, one behind the other
abbrev pub texts_of : List ShareValue → List ℕ
texts_of shares = flat_map (λ share. share.text) shares
