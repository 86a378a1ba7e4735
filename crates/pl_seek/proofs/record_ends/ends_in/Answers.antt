use Rattle.std.proofs.Common.{arith, rules}
use Rattle.pl_seek.proofs.WordLaws.{known, ends, odd, fresh_behind}
use Rattle.pl_seek.proofs.record_ends.ends_in.Goals as goal

pub returns : goal.returns
returns c =
    let a = c.args in
    let T = c.odd_through-through.result in
    let told = c.odd_through-through.ensures in
    record {
      known = known a.stops a.line_ends a.quotes T a.carry.odd a.carry.fresh (omega arith) (omega arith) (omega arith) told (search rules);
      ends = ends a.stops a.line_ends a.quotes T a.carry.odd a.carry.fresh (omega arith) (omega arith) (omega arith) told;
      odd = odd a.stops a.line_ends a.quotes T a.carry.odd a.carry.fresh (omega arith) (omega arith) (omega arith) told;
      fresh = fresh_behind a.stops a.line_ends a.quotes T a.carry.odd a.carry.fresh (omega arith) (omega arith) (omega arith) told;
    }
