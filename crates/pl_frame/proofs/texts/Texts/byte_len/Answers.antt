use Rattle.std.proofs.Common.{◌≤◌, length, arith}
use Rattle.pl_frame.specs.ByteCount.{byte_count}
use Rattle.pl_frame.proofs.JoinLaws.{bytes-flagged}
use Rattle.pl_frame.proofs.texts.Texts.byte_len.Goals as goal

pub returns : goal.returns
returns c =
    let all = bytes-flagged 0 c.self.inside.ends.items c.self.inside.bytes.items c.self.inside.present.items _ c.self.invariant.rising in
    let enough : byte_count c.args.self.now ≤ length c.self.inside.bytes.items = rw (← c.self.view_is) (omega (arith, all)) in
    omega (arith, enough, c.len.ensures)
