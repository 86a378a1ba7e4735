use Rattle.pl_csv.proofs.OutcomeLaws.{valid_transcoded}
use Rattle.pl_csv.proofs.laws.valid_input_is_transcoded.Goals as goal

pub returns : goal.returns
returns c = λ read write input before now frame fault valid is quiet. valid_transcoded read write input before now frame fault valid is quiet
