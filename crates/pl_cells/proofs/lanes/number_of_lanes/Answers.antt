use Rattle.std.proofs.Common.{◌≡◌, get_or, arith}
use Rattle.std.proofs.lemmas.Simd.{dot4_Fits}
use Rattle.pl_cells.proofs.LaneLaws.{tens, ones, fours, products_fit, sums_fit, four_small, fours_number}
use Rattle.pl_cells.proofs.lanes.number_of_lanes.Goals as goal

pub dot4-tens : goal.dot4-tens
dot4-tens c = (dot4_Fits c.args.lanes tens c.fits-lanes.1 tt, tt)

pub dot4-ones : goal.dot4-ones
dot4-ones c = (dot4_Fits c.args.lanes ones c.fits-lanes.1 tt, tt)

pub overflow_mul-fours : goal.overflow_mul-fours
overflow_mul-fours c = products_fit c.args.lanes c.fits-lanes.0 c.requires

pub overflow_add-fours : goal.overflow_add-fours
overflow_add-fours c = sums_fit c.args.lanes c.fits-lanes.0 c.requires

pub overflow_mul-result : goal.overflow_mul-result
overflow_mul-result c =
    let small = four_small c.args.lanes c.fits-lanes.0 c.requires in
    let a : c.from.result ≡ get_or (fours c.args.lanes) 0 0 = c.from.ensures in
    let b : c.from-2.result ≡ get_or (fours c.args.lanes) 1 0 = c.from-2.ensures in
    omega (arith, a, b, small 0 (omega arith), small 1 (omega arith))

pub overflow_add-result : goal.overflow_add-result
overflow_add-result c =
    let small = four_small c.args.lanes c.fits-lanes.0 c.requires in
    let a : c.from.result ≡ get_or (fours c.args.lanes) 0 0 = c.from.ensures in
    let b : c.from-2.result ≡ get_or (fours c.args.lanes) 1 0 = c.from-2.ensures in
    let d : c.from-3.result ≡ get_or (fours c.args.lanes) 2 0 = c.from-3.ensures in
    let e : c.from-4.result ≡ get_or (fours c.args.lanes) 3 0 = c.from-4.ensures in
    omega (arith, a, b, d, e, small 0 (omega arith), small 1 (omega arith), small 2 (omega arith), small 3 (omega arith))

pub returns-clause-value : goal.returns-clause-value
returns-clause-value c =
    let a : c.from.result ≡ get_or (fours c.args.lanes) 0 0 = c.from.ensures in
    let b : c.from-2.result ≡ get_or (fours c.args.lanes) 1 0 = c.from-2.ensures in
    let d : c.from-3.result ≡ get_or (fours c.args.lanes) 2 0 = c.from-3.ensures in
    let e : c.from-4.result ≡ get_or (fours c.args.lanes) 3 0 = c.from-4.ensures in
    omega (arith, a, b, d, e, fours_number c.args.lanes c.fits-lanes.0)

pub returns-clause-small : goal.returns-clause-small
returns-clause-small c =
    let small = four_small c.args.lanes c.fits-lanes.0 c.requires in
    let a : c.from.result ≡ get_or (fours c.args.lanes) 0 0 = c.from.ensures in
    let b : c.from-2.result ≡ get_or (fours c.args.lanes) 1 0 = c.from-2.ensures in
    let d : c.from-3.result ≡ get_or (fours c.args.lanes) 2 0 = c.from-3.ensures in
    let e : c.from-4.result ≡ get_or (fours c.args.lanes) 3 0 = c.from-4.ensures in
    omega (arith, a, b, d, e, small 0 (omega arith), small 1 (omega arith), small 2 (omega arith), small 3 (omega arith))
