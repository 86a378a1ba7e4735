use Rattle.pl_scan.proofs.AppendLaws.{closing_items, closing_records}
use Rattle.pl_scan.proofs.laws.closing_piece_ends_at_item_end.Goals as goal

pub returns-clause-items : goal.returns-clause-items
returns-clause-items c = closing_items

pub returns-clause-records : goal.returns-clause-records
returns-clause-records c = closing_records
