use Rattle.std.proofs.Common.{◌≡◌, ◌∙◌, ap, rules}
use Rattle.pl_cells.specs.declared.buffer.Buffer.TheVariants as buffer
use Rattle.pl_cells.specs.InitBuffers.{state_of}
use Rattle.pl_cells.proofs.JoinLaws.{alike, like}
use Rattle.pl_cells.proofs.buffer.Buffer.append.Goals as goal
use Rattle.pl_cells.proofs.buffer.Buffer.append.Goals.{in_default-via-in-Boolean+in_default, in_default-via-in-Int8+in_default, in_default-via-in-Int16+in_default, in_default-via-in-Int32+in_default, in_default-via-in-Int64+in_default, in_default-via-in-Int128+in_default, in_default-via-in-UInt8+in_default, in_default-via-in-UInt16+in_default, in_default-via-in-UInt32+in_default, in_default-via-in-UInt64+in_default, in_default-via-in-String+in_default, in_default-via-in-Categorical+in_default, in_default-via-in-Enum+in_default, in_default-via-in-Date+in_default, in_default-via-in-Time+in_default, in_default-via-in-Datetime+in_default, in_default-via-in-Decimal+in_default}

pub unreachable-requires : goal.unreachable-requires
unreachable-requires c =
    let same = alike c.args.self.now c.args.other.now c.know_variant.ensures c.know_variant-2.ensures c.requires in
    elim c.in_default.branch [
      | in_default-via-in-Boolean+in_default w ↦ let is : c.args.other.now ≡ buffer.Boolean (state_of c.args.other.now) = same ∙ ap (λ x. like x (state_of c.args.other.now)) w.in_default.is-0 in search (rules, is)
      | in_default-via-in-Int8+in_default w ↦ let is : c.args.other.now ≡ buffer.Int8 (state_of c.args.other.now) = same ∙ ap (λ x. like x (state_of c.args.other.now)) w.in_default.is-0 in search (rules, is)
      | in_default-via-in-Int16+in_default w ↦ let is : c.args.other.now ≡ buffer.Int16 (state_of c.args.other.now) = same ∙ ap (λ x. like x (state_of c.args.other.now)) w.in_default.is-0 in search (rules, is)
      | in_default-via-in-Int32+in_default w ↦ let is : c.args.other.now ≡ buffer.Int32 (state_of c.args.other.now) = same ∙ ap (λ x. like x (state_of c.args.other.now)) w.in_default.is-0 in search (rules, is)
      | in_default-via-in-Int64+in_default w ↦ let is : c.args.other.now ≡ buffer.Int64 (state_of c.args.other.now) = same ∙ ap (λ x. like x (state_of c.args.other.now)) w.in_default.is-0 in search (rules, is)
      | in_default-via-in-Int128+in_default w ↦ let is : c.args.other.now ≡ buffer.Int128 (state_of c.args.other.now) = same ∙ ap (λ x. like x (state_of c.args.other.now)) w.in_default.is-0 in search (rules, is)
      | in_default-via-in-UInt8+in_default w ↦ let is : c.args.other.now ≡ buffer.UInt8 (state_of c.args.other.now) = same ∙ ap (λ x. like x (state_of c.args.other.now)) w.in_default.is-0 in search (rules, is)
      | in_default-via-in-UInt16+in_default w ↦ let is : c.args.other.now ≡ buffer.UInt16 (state_of c.args.other.now) = same ∙ ap (λ x. like x (state_of c.args.other.now)) w.in_default.is-0 in search (rules, is)
      | in_default-via-in-UInt32+in_default w ↦ let is : c.args.other.now ≡ buffer.UInt32 (state_of c.args.other.now) = same ∙ ap (λ x. like x (state_of c.args.other.now)) w.in_default.is-0 in search (rules, is)
      | in_default-via-in-UInt64+in_default w ↦ let is : c.args.other.now ≡ buffer.UInt64 (state_of c.args.other.now) = same ∙ ap (λ x. like x (state_of c.args.other.now)) w.in_default.is-0 in search (rules, is)
      | in_default-via-in-String+in_default w ↦ let is : c.args.other.now ≡ buffer.String (state_of c.args.other.now) = same ∙ ap (λ x. like x (state_of c.args.other.now)) w.in_default.is-0 in search (rules, is)
      | in_default-via-in-Categorical+in_default w ↦ let is : c.args.other.now ≡ buffer.Categorical (state_of c.args.other.now) = same ∙ ap (λ x. like x (state_of c.args.other.now)) w.in_default.is-0 in search (rules, is)
      | in_default-via-in-Enum+in_default w ↦ let is : c.args.other.now ≡ buffer.Enum (state_of c.args.other.now) = same ∙ ap (λ x. like x (state_of c.args.other.now)) w.in_default.is-0 in search (rules, is)
      | in_default-via-in-Date+in_default w ↦ let is : c.args.other.now ≡ buffer.Date (state_of c.args.other.now) = same ∙ ap (λ x. like x (state_of c.args.other.now)) w.in_default.is-0 in search (rules, is)
      | in_default-via-in-Time+in_default w ↦ let is : c.args.other.now ≡ buffer.Time (state_of c.args.other.now) = same ∙ ap (λ x. like x (state_of c.args.other.now)) w.in_default.is-0 in search (rules, is)
      | in_default-via-in-Datetime+in_default w ↦ let is : c.args.other.now ≡ buffer.Datetime (state_of c.args.other.now) = same ∙ ap (λ x. like x (state_of c.args.other.now)) w.in_default.is-0 in search (rules, is)
      | in_default-via-in-Decimal+in_default w ↦ let is : c.args.other.now ≡ buffer.Decimal (state_of c.args.other.now) = same ∙ ap (λ x. like x (state_of c.args.other.now)) w.in_default.is-0 in search (rules, is)
    ]
