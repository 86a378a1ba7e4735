use Rattle.std.proofs.Common.{◌≡◌, ℕ, List, ◌≤◌, refl}
use Rattle.std.specs.Prelude.{Result, Err, Some, IsSome, IfOk, IfErr}
use Rattle.pl_frame.specs.Came.{IsReadOn}
use Rattle.pl_frame.specs.declared.error.PolarsError.{PolarsError}
use Rattle.pl_read.specs.Batches.{Batches, options_under, IsOpened, IsOpening, IsOpeningFault}
use Rattle.pl_read.specs.BytesReader.{input_of}
use Rattle.pl_read.specs.CsvReader.{OfInput, AnswersUnlessFailed}
use Rattle.pl_read.proofs.OpeningLaws.{opening-opened, opening-refusal, opening-failed, opening-complete, complete-failed, seen}
use Rattle.pl_read.proofs.csv_reader.CsvReader.batched.Goals as goal

pub returns-in-Err-clause-refused : goal.returns-in-Err-clause-refused
returns-in-Err-clause-refused g c =
    let lent = g.R.MmapBytesReader.lent in
    let left = g.R.Source.left in
    let faults = g.R.Source.faults in
    let now = c.read_owned.new.reader in
    seen (λ source o. IsOpeningFault lent left faults source now (options_under c.args.schema o) c.in-Err.fault) c.self.inside.reader c.self.inside.options c.args.self.now c.self.view_is
    (opening-failed lent left faults c.self.inside.reader now (options_under c.args.schema c.self.inside.options) c.in-Err.fault c.in-Err.ensures.refused)

pub returns-in-Err-clause-complete : goal.returns-in-Err-clause-complete
returns-in-Err-clause-complete g c =
    let lent = g.R.MmapBytesReader.lent in
    let left = g.R.Source.left in
    let faults = g.R.Source.faults in
    let now = c.read_owned.new.reader in
    seen (λ source o. (input : List ℕ) (opening : Result Batches PolarsError) → input_of (lent source) (left source) ≡ Some input → IsOpening (options_under c.args.schema o) input opening
    → AnswersUnlessFailed (Err c.in-Err.fault) opening (faults source) (faults now)) c.self.inside.reader c.self.inside.options c.args.self.now c.self.view_is
    (complete-failed (lent c.self.inside.reader) (left c.self.inside.reader) (options_under c.args.schema c.self.inside.options) (faults c.self.inside.reader) (faults now) c.in-Err.fault c.in-Err.ensures.refused)

pub returns-in-Err-clause-lent : goal.returns-in-Err-clause-lent
returns-in-Err-clause-lent g c =
    seen (λ source o. IsSome (g.R.MmapBytesReader.lent source) → c.read_owned.new.reader ≡ source) c.self.inside.reader c.self.inside.options c.args.self.now c.self.view_is c.in-Err.ensures.lent

pub returns-in-Err-clause-read_on : goal.returns-in-Err-clause-read_on
returns-in-Err-clause-read_on g c =
    seen (λ source o. IsReadOn (g.R.Source.left source) (g.R.Source.left c.read_owned.new.reader)) c.self.inside.reader c.self.inside.options c.args.self.now c.self.view_is c.in-Err.ensures.read_on

pub returns-in-Err-clause-later : goal.returns-in-Err-clause-later
returns-in-Err-clause-later g c =
    seen (λ source o. g.R.Source.faults source ≤ g.R.Source.faults c.read_owned.new.reader) c.self.inside.reader c.self.inside.options c.args.self.now c.self.view_is c.in-Err.ensures.later

pub returns-in-Err-clause-options : goal.returns-in-Err-clause-options
returns-in-Err-clause-options g c = seen (λ source o. c.self.inside.options ≡ o) c.self.inside.reader c.self.inside.options c.args.self.now c.self.view_is refl

pub returns-clause-opened : goal.returns-clause-opened
returns-clause-opened g c =
    let lent = g.R.MmapBytesReader.lent in
    let left = g.R.Source.left in
    let now = c.read_owned.new.reader in
    seen (λ source o. IfOk c.open_under.result (λ batches. OfInput lent left source now (λ input. IsOpened (options_under c.args.schema o) input batches))) c.self.inside.reader c.self.inside.options c.args.self.now c.self.view_is
    (opening-opened lent left c.self.inside.reader now (options_under c.args.schema c.self.inside.options) c.open_under.result c.in-Ok.bytes.items c.in-Ok.ensures.input c.open_under.ensures.opened)

pub returns-clause-refused : goal.returns-clause-refused
returns-clause-refused g c =
    let lent = g.R.MmapBytesReader.lent in
    let left = g.R.Source.left in
    let faults = g.R.Source.faults in
    let now = c.read_owned.new.reader in
    seen (λ source o. IfErr c.open_under.result (IsOpeningFault lent left faults source now (options_under c.args.schema o))) c.self.inside.reader c.self.inside.options c.args.self.now c.self.view_is
    (opening-refusal lent left faults c.self.inside.reader now (options_under c.args.schema c.self.inside.options) c.open_under.result c.in-Ok.bytes.items c.in-Ok.ensures.input c.open_under.ensures.refused)

pub returns-clause-complete : goal.returns-clause-complete
returns-clause-complete g c =
    let lent = g.R.MmapBytesReader.lent in
    let left = g.R.Source.left in
    let faults = g.R.Source.faults in
    let now = c.read_owned.new.reader in
    let before = c.self.inside.reader in
    seen (λ source o. (input : List ℕ) (opening : Result Batches PolarsError) → input_of (lent source) (left source) ≡ Some input → IsOpening (options_under c.args.schema o) input opening
    → AnswersUnlessFailed c.open_under.result opening (faults source) (faults now)) before c.self.inside.options c.args.self.now c.self.view_is
    (opening-complete (lent before) (left before) (left now) (options_under c.args.schema c.self.inside.options) c.open_under.result c.in-Ok.bytes.items (faults before) (faults now) c.in-Ok.ensures.input c.open_under.ensures.opened c.open_under.ensures.refused)

pub returns-clause-lent : goal.returns-clause-lent
returns-clause-lent g c =
    seen (λ source o. IsSome (g.R.MmapBytesReader.lent source) → c.read_owned.new.reader ≡ source) c.self.inside.reader c.self.inside.options c.args.self.now c.self.view_is c.in-Ok.ensures.lent

pub returns-clause-read_on : goal.returns-clause-read_on
returns-clause-read_on g c =
    seen (λ source o. IsReadOn (g.R.Source.left source) (g.R.Source.left c.read_owned.new.reader)) c.self.inside.reader c.self.inside.options c.args.self.now c.self.view_is c.in-Ok.ensures.read_on

pub returns-clause-later : goal.returns-clause-later
returns-clause-later g c =
    seen (λ source o. g.R.Source.faults source ≤ g.R.Source.faults c.read_owned.new.reader) c.self.inside.reader c.self.inside.options c.args.self.now c.self.view_is c.in-Ok.ensures.later

pub returns-clause-options : goal.returns-clause-options
returns-clause-options g c = seen (λ source o. c.self.inside.options ≡ o) c.self.inside.reader c.self.inside.options c.args.self.now c.self.view_is refl
