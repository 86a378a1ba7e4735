use Rattle.std.proofs.Common.{◌≡◌, ◌+◌, ◌-◌, length, take, arith, sym, subst, length-drop}
use Rattle.std.specs.Prelude.{◌⊎◌, Some, None}
use Rattle.std.specs.List.{last_or}
use Rattle.std.proofs.lemmas.List.{take_rest}
use Rattle.pl_scan.proofs.PieceEndLaws.{cut_piece-few, cut_piece-found, cut_piece-lacks}
use Rattle.pl_read.specs.Batches.{piece_length}
use Rattle.pl_read.proofs.BatchRangeLaws.{piece-value, piece-is}
use Rattle.pl_read.proofs.batch_ranges.piece_len.Goals as goal

pub returns-then-left-size-clause-value : goal.returns-then-left-size-clause-value
returns-then-left-size-clause-value c =
    let o = c.args.options.now in
    let left = c.args.left.now in
    piece-value o left (length left) (omega arith) (cut_piece-few o.parse_options.eol_char o.chunk_size left c.if-left-size.true)

pub returns-in-Some-clause-value : goal.returns-in-Some-clause-value
returns-in-Some-clause-value c =
    let o = c.args.options.now in
    let left = c.args.left.now in
    let found = rw (take_rest left (o.chunk_size - 1)) at c.in-Some.ensures in
    let size = length-drop (o.chunk_size - 1) left in
    let high = found.0.high in
    let fits = c.if-left-size.false in
    let some = c.requires.pieces in
    piece-value o left (o.chunk_size + c.in-Some.at) (omega arith) (cut_piece-found o.parse_options.eol_char o.chunk_size left c.in-Some.at c.requires.pieces c.if-left-size.false found.0.high found.0.before found.1)

pub returns-in-Some-clause-ended : goal.returns-in-Some-clause-ended
returns-in-Some-clause-ended c =
    let o = c.args.options.now in
    let left = c.args.left.now in
    let found = rw (take_rest left (o.chunk_size - 1)) at c.in-Some.ensures in
    let size = length-drop (o.chunk_size - 1) left in
    let high = found.0.high in
    let fits = c.if-left-size.false in
    let some = c.requires.pieces in
    let is : o.chunk_size + c.in-Some.at ≡ piece_length o left =
    piece-value o left (o.chunk_size + c.in-Some.at) (omega arith) (cut_piece-found o.parse_options.eol_char o.chunk_size left c.in-Some.at c.requires.pieces c.if-left-size.false found.0.high found.0.before found.1) in
    subst (λ k. (k ≡ length left) ⊎ (last_or None (take k left) ≡ Some o.parse_options.eol_char)) (sym is) (piece-is o left c.requires.pieces c.requires.bytes).ended

pub returns-in-None-clause-value : goal.returns-in-None-clause-value
returns-in-None-clause-value c =
    let o = c.args.options.now in
    let left = c.args.left.now in
    let none = rw (take_rest left (o.chunk_size - 1)) at c.in-None.ensures in
    piece-value o left (length left) (omega arith) (cut_piece-lacks o.parse_options.eol_char o.chunk_size left c.requires.pieces c.if-left-size.false none)
