use Rattle.pl_cells.proofs.JoinLaws.{bytes-cells}
use Rattle.pl_cells.proofs.text_types.TextsTextType.text_bytes.Goals as goal

pub returns : goal.returns
returns c = λ type. bytes-cells c.args.self.now c.byte_len.result c.byte_len.ensures
