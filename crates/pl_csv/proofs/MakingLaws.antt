-- A making job: the columns of its input, put one behind another, and its summary.
use Rattle.std.proofs.Common.{◌≡◌, ℕ, ◌<◌, ◌≤◌, List, [], length, sym, ◌∙◌, subst, None, Some, inl, inr, arith}
use Rattle.std.specs.Prelude.{◌⊎◌, codes, Result, Ok, Err, IfOk}
use Rattle.pl_frame.specs.Schema.{Entry, with_type}
use Rattle.pl_frame.specs.declared.data_type.DataType.TheVariants as dtype
use Rattle.pl_frame.specs.declared.error.PolarsError.{PolarsError}
use Rattle.pl_frame.specs.declared.error.PolarsError.TheVariants as error
use Rattle.pl_read.specs.Options.{settled_schema}
use Rattle.pl_write.specs.Options.{default_options}
use Rattle.pl_csv.specs.MadeInput.{made_input}
use Rattle.pl_csv.specs.Making.{made_schema, made_options, summary_line, HasHeight, IsSummary, IsNoSummary, MadeInputIsRead}
use Rattle.pl_csv.specs.Transcoding.{IsValidRead, IsTranscodeFault}
use Rattle.pl_csv.specs.Views.{sink_view}
use Rattle.pl_csv.proofs.OutcomeLaws.{valid_transcoded}

pub schema_made : (a b c d e : List Entry) (n o p q : List ℕ) → a ≡ [] → n ≡ codes "id" → b ≡ with_type a n dtype.Int64 → o ≡ codes "name" → c ≡ with_type b o dtype.String
    → p ≡ codes "day" → d ≡ with_type c p dtype.Date → q ≡ codes "amount" → e ≡ with_type d q (dtype.Decimal None (Some 2)) → e ≡ made_schema
schema_made a b c d e n o p q ae ne be oe ce pe de qe ee =
    let id : b ≡ with_type [] (codes "id") dtype.Int64 = be ∙ (λ i. with_type (ae i) (ne i) dtype.Int64) in
    let name : c ≡ with_type (with_type [] (codes "id") dtype.Int64) (codes "name") dtype.String = ce ∙ (λ i. with_type (id i) (oe i) dtype.String) in
    let day : d ≡ with_type (with_type (with_type [] (codes "id") dtype.Int64) (codes "name") dtype.String) (codes "day") dtype.Date = de ∙ (λ i. with_type (name i) (pe i) dtype.Date) in
    ee ∙ (λ i. with_type (day i) (qe i) (dtype.Decimal None (Some 2)))

-- ---- the summary

-- where the made input has a reference read, only memory can be wanting
pub no_summary : (rows workers piece wants wants_now : ℕ) (input received received_now : List ℕ) (fault : PolarsError) → MadeInputIsRead → rows ≤ 1000000 → 0 < workers → 0 < piece → input ≡ made_input rows
    → (fault ≡ error.OutOfMemory) ⊎ IsTranscodeFault (made_options workers piece) default_options input (sink_view (Some received) 0 wants) (sink_view (Some received_now) 0 wants_now) fault
    → IsNoSummary workers piece fault
no_summary rows workers piece wants wants_now input received received_now fault law few some more same (inl wanting) = inr wanting
no_summary rows workers piece wants wants_now input received received_now fault law few some more same (inr is) =
    let read = law rows workers piece few some more in
    let valid = subst (λ i. IsValidRead (made_options workers piece) (settled_schema (made_options workers piece) i) i default_options read.0) (sym same) read.1 in
    inr (valid_transcoded (made_options workers piece) default_options input (sink_view (Some received) 0 wants) (sink_view (Some received_now) 0 wants_now) read.0 fault valid is (λ rose. omega (arith, rose)))

-- the line of a frame whose text was received
pub summary_is : (rows workers piece height : ℕ) (input received line : List ℕ) → 0 < workers → 0 < piece → input ≡ made_input rows → HasHeight (made_options workers piece) default_options input [] received height
    → line ≡ summary_line height (length input) (length received) → IsSummary rows workers piece line
summary_is rows workers piece height input received line some more same has is = record {
  some_workers = some;
  some_bytes = more;
  frame = has.frame;
  is = subst (λ i. IsValidRead (made_options workers piece) (settled_schema (made_options workers piece) i) i default_options has.frame) same has.is.is;
  text = is ∙ (λ i. summary_line (has.height i) (length (same i)) (length (has.is.written i)));
}

-- the same, of the input and the text as the code has them
pub summary_told : (rows workers piece height bytes_in : ℕ) (input given before received shown line : List ℕ) → 0 < workers → 0 < piece → input ≡ made_input rows → given ≡ input → before ≡ []
    → bytes_in ≡ length input → shown ≡ received → HasHeight (made_options workers piece) default_options given before received height → line ≡ summary_line height bytes_in (length shown) → IsSummary rows workers piece line
summary_told rows workers piece height bytes_in input given before received shown line some more made given_is before_is bytes_is shown_is has is =
    let read = made_options workers piece in
    let from_none = subst (λ b. HasHeight read default_options given b received height) before_is has in
    let of_input = subst (λ i. HasHeight read default_options i [] received height) given_is from_none in
    summary_is rows workers piece height input received line some more made of_input (is ∙ (λ i. summary_line height (bytes_is i) (length (shown_is i))))

-- what holds of an answer, and so something else
pub if_ok : {T E : Type 0} (P Q : T → Type 0) (r : Result T E) → ((x : T) → P x → Q x) → IfOk r P → IfOk r Q
if_ok P Q (Ok x) f h = f x h
if_ok P Q (Err e) f h = h
