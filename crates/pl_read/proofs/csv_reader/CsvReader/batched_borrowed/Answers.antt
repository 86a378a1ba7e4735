use Rattle.std.proofs.Common.{rules, subst}
use Rattle.std.specs.Prelude.{IfOk, IfErr}
use Rattle.pl_options.specs.ReaderBytes.{bytes_in}
use Rattle.pl_options.specs.declared.read_options.CsvReadOptions.{CsvReadOptions}
use Rattle.pl_read.specs.Batches.{IsOpened, OfTold, IsBorrowingFault}
use Rattle.pl_read.specs.BatchSteps.{IsOpeningFaultOf}
use Rattle.pl_read.specs.CsvReader.{IsInput}
use Rattle.pl_read.proofs.OpeningLaws.{borrowing-opened, borrowing-refusal, borrowing-failed, seen}
use Rattle.pl_read.proofs.ReaderLaws.{is-input}
use Rattle.pl_read.proofs.csv_reader.CsvReader.batched_borrowed.Goals as goal

pub returns-in-Err-clause-refused : goal.returns-in-Err-clause-refused
returns-in-Err-clause-refused g c =
    let lent = g.R.MmapBytesReader.lent in
    let left = g.R.Source.left in
    let before = c.self.inside.reader in
    seen (λ source o. IsBorrowingFault (lent source) (left source) o c.in-Err.fault) before c.self.inside.options c.args.self.now c.self.view_is
    (borrowing-failed (lent before) (left before) (g.R.Source.faults before) (g.R.Source.faults c.read_unlent.new.reader) c.self.inside.options c.in-Err.fault (λ lends. let e = (c.in-Err.ensures.lent lends).0 in cc) c.in-Err.ensures.refused)

pub returns-in-Ok-try_clone-clause-opened : goal.returns-in-Ok-try_clone-clause-opened
returns-in-Ok-try_clone-clause-opened g c =
    let lent = g.R.MmapBytesReader.lent in
    let left = g.R.Source.left in
    let before = c.self.inside.reader in
    let now = c.read_unlent.new.reader in
    let input = bytes_in c.lent_or_read-bytes.result in
    let is : IsInput (lent before) (left before) (left now) input = search (rules, is-input) in
    seen (λ source o. IfOk c.open.result (λ batches. OfTold (lent source) (left source) (λ input. IsOpened o input batches))) before c.self.inside.options c.args.self.now c.self.view_is
    (borrowing-opened (lent before) (left before) c.self.inside.options c.open.result input is.told (subst (λ (o : CsvReadOptions). IfOk c.open.result (IsOpened o input)) c.in-Ok-try_clone.ensures.equal c.open.ensures.opened))

pub returns-in-Ok-try_clone-clause-refused : goal.returns-in-Ok-try_clone-clause-refused
returns-in-Ok-try_clone-clause-refused g c =
    let lent = g.R.MmapBytesReader.lent in
    let left = g.R.Source.left in
    let before = c.self.inside.reader in
    let now = c.read_unlent.new.reader in
    let input = bytes_in c.lent_or_read-bytes.result in
    let is : IsInput (lent before) (left before) (left now) input = search (rules, is-input) in
    seen (λ source o. IfErr c.open.result (IsBorrowingFault (lent source) (left source) o)) before c.self.inside.options c.args.self.now c.self.view_is
    (borrowing-refusal (lent before) (left before) c.self.inside.options c.open.result input is.told (subst (λ (o : CsvReadOptions). IfErr c.open.result (IsOpeningFaultOf o input)) c.in-Ok-try_clone.ensures.equal c.open.ensures.refused))
