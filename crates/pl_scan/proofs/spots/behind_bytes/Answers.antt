use Rattle.std.proofs.Common.{◌+◌, ◌<◌, ◌∷◌, get_or, replicate, sym, ap, ◌∙◌, rules, w8}
use Rattle.std.proofs.lemmas.Simd.{swz_l}
use Rattle.pl_scan.specs.Fields.{is_quote}
use Rattle.pl_scan.specs.SpotRows.{number_of, marks_of}
use Rattle.pl_scan.specs.Spots.{is_mark, spot_from}
use Rattle.pl_scan.proofs.SpotRowLaws.{numbers, row-step}
use Rattle.pl_scan.proofs.SpotStepLaws.{spot_from-none, spot_from-next, apart-marks}
use Rattle.pl_scan.proofs.spots.behind_bytes.Goals as goal

pub loop-i-init : goal.loop-i-init
loop-i-init c =
    let m = marks_of c.args.steps.now in
    let first = c.number_of.ensures ∙ ap number_of (sym (spot_from-none m c.args.spots.0 c.args.bytes.now c.args.at)) in
    let second = c.number_of-lanes.ensures ∙ ap number_of (sym (spot_from-none m c.args.spots.1 c.args.bytes.now c.args.at)) in
    λ j. first j ∷ replicate 15 (second j)

pub loop-i-preserved : goal.loop-i-preserved
loop-i-preserved c =
    let m = marks_of c.args.steps.now in
    let b = c.args.bytes.now in
    let n = c.args.at in
    let i = c.loop-i.i in
    let x = get_or b (n + i) 0 in
    let s = spot_from m c.args.spots.0 b n i in
    let t = spot_from m c.args.spots.1 b n i in
    let byte : x < 256 = search rules in
    (λ j. swz_l w8 16 (c.requires.rows x byte j) 0 (c.loop-i.invariant j))
    ∙ row-step s t (is_mark m x) (is_quote m.quote x) (apart-marks m x c.requires.apart)
    ∙ (λ j. numbers (spot_from-next m c.args.spots.0 b n i j) (spot_from-next m c.args.spots.1 b n i j))
