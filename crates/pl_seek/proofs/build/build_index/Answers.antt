use Rattle.std.proofs.Common.{rules, ◌≡◌, ◌∙◌, ap, length, drop}
use Rattle.sha2.specs.Sha256.{sha256}
use Rattle.pl_seek.specs.Places.{record_places, group_places}
use Rattle.pl_seek.specs.Building.{places_in}
use Rattle.pl_seek.proofs.BuildLaws.{places-are, groups-are}
use Rattle.pl_seek.proofs.build.build_index.Goals as goal

pub new-requires : goal.new-requires
new-requires c =
    let o = c.args.read.now in
    let input = c.args.input.now in
    let start = c.in_ok-start.start in
    let all = (λ i. record_places (c.dialect.ensures.marks i) (c.dialect.ensures.comment i) (length input) (drop start input)) ∙ places-are o input start c.in_ok-start.ensures.data in
    groups-are o input start c.args.every c.in_ok-records.field-0.records c.in_ok-records.field-0.places.items c.requires c.in_ok-start.ensures.data
    (c.in_ok-records.ensures.records ∙ ap length all) (c.in_ok-records.ensures.places ∙ ap (group_places c.args.every) all)

pub returns-clause-index : goal.returns-clause-index
returns-clause-index c =
    let o = c.args.read.now in
    let input = c.args.input.now in
    let start = c.in_ok-start.start in
    let all = (λ i. record_places (c.dialect.ensures.marks i) (c.dialect.ensures.comment i) (length input) (drop start input)) ∙ places-are o input start c.in_ok-start.ensures.data in
    let digest : c.digest-digest.result ≡ sha256 input = search rules in
    let records : c.in_ok-records.field-0.records ≡ length (places_in o input) = c.in_ok-records.ensures.records ∙ ap length all in
    let places : c.in_ok-records.field-0.places.items ≡ group_places c.args.every (places_in o input) = c.in_ok-records.ensures.places ∙ ap (group_places c.args.every) all in
    c.new.ensures
    ∙ (λ i. record { digest = digest i; settings = c.settings_of-settings.ensures i; comment_prefix = c.in_ok-comment_prefix.ensures i; every = c.args.every; records = records i; places = places i })
