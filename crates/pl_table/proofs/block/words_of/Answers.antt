use Rattle.std.proofs.Common.{arith}
use Rattle.pl_table.proofs.WordLaws.{has-ends, has-strange, odd_behind, begin_behind, even_behind}
use Rattle.pl_table.proofs.block.words_of.Goals as goal

pub returns-clause-ends : goal.returns-clause-ends
returns-clause-ends c = has-ends c.args.stops c.args.quotes c.odd_through-through.result c.args.odd c.args.begin c.args.even (omega arith) (omega arith) (omega arith) c.odd_through-through.ensures

pub returns-clause-strange : goal.returns-clause-strange
returns-clause-strange c = has-strange c.args.stops c.args.quotes c.odd_through-through.result c.args.odd c.args.begin c.args.even (omega arith) (omega arith) (omega arith) c.odd_through-through.ensures

pub returns-clause-odd_behind : goal.returns-clause-odd_behind
returns-clause-odd_behind c = odd_behind c.args.stops c.args.quotes c.odd_through-through.result c.args.odd c.args.begin c.args.even (omega arith) (omega arith) (omega arith) c.odd_through-through.ensures

pub returns-clause-begin_behind : goal.returns-clause-begin_behind
returns-clause-begin_behind c = begin_behind c.args.stops c.args.quotes c.odd_through-through.result c.args.odd c.args.begin c.args.even (omega arith) (omega arith) (omega arith) c.odd_through-through.ensures

pub returns-clause-even_behind : goal.returns-clause-even_behind
returns-clause-even_behind c = even_behind c.args.stops c.args.quotes c.odd_through-through.result c.args.odd c.args.begin c.args.even (omega arith) (omega arith) (omega arith) c.odd_through-through.ensures
