use Rattle.std.proofs.Common.{◌-◌, sym, length, take, refl}
use Rattle.pl_board.proofs.LineStateLaws.{front-is}
use Rattle.pl_board.proofs.line_states.states_by_workers.Goals as goal

pub slice_bounds-front-end : goal.slice_bounds-front-end
slice_bounds-front-end g c =
    let ends = c.args.ends.now in
    sym (front-is c.args.dialect.now.eol_char ends c.args.bytes.now (take (length ends - 1) ends) c.requires.some c.requires.rise c.requires.behind refl).size

pub summaries-requires-clause-rise : goal.summaries-requires-clause-rise
summaries-requires-clause-rise g c κs within =
    (front-is c.args.dialect.now.eol_char c.args.ends.now c.args.bytes.now c.in_ok-front_ends.front_ends.items c.requires.some c.requires.rise c.requires.behind c.in_ok-front_ends.ensures.copied).rise

pub summaries-requires-clause-behind : goal.summaries-requires-clause-behind
summaries-requires-clause-behind g c κs within =
    (front-is c.args.dialect.now.eol_char c.args.ends.now c.args.bytes.now c.in_ok-front_ends.front_ends.items c.requires.some c.requires.rise c.requires.behind c.in_ok-front_ends.ensures.copied).behind
