use Rattle.pl_cells.specs.InitBuffers.{state_of}
use Rattle.pl_cells.proofs.JoinLaws.{texts-alike}
use Rattle.pl_cells.proofs.buffer.Buffer.text_bytes.Goals as goal

pub returns-in_default : goal.returns-in_default
returns-in_default c = λ type. absurd (c.in_default.not-String (state_of c.args.self.now) (texts-alike c.args.self.now c.know_variant.ensures type))
