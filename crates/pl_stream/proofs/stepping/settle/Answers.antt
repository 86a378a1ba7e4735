use Rattle.std.proofs.Common.{rules, ◌≡◌, ◌++◌, [], sym, subst}
use Rattle.pl_stream.specs.Stepping.{IsStepped}
use Rattle.pl_stream.proofs.SteppingLaws.{stepped-behind}
use Rattle.pl_stream.proofs.stepping.settle.Goals as goal

pub returns-clause-stepped : goal.returns-clause-stepped
returns-clause-stepped c =
    let text = c.args.text.now.items in
    let step = c.in-Ok-settle_bytes.step in
    let gained = c.settle_bytes-2.new.text.items in
    let now : c.extend_from_slice.new.self.items ≡ text ++ gained = search rules in
    let first : IsStepped c.args.read.now c.args.write.now c.args.place c.args.rows c.args.bytes.now [] gained step = search rules in
    subst (λ l. IsStepped c.args.read.now c.args.write.now c.args.place c.args.rows c.args.bytes.now text l step) (sym now)
    (stepped-behind c.args.read.now c.args.write.now c.args.place c.args.rows c.args.bytes.now text gained step first)
