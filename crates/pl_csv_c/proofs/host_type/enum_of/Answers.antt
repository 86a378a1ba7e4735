use Rattle.std.proofs.Common.{Some, sym, ◌∙◌, ap}
use Rattle.std.specs.Option.{option_map}
use Rattle.pl_frame.specs.declared.data_type.DataType.TheVariants as dtype
use Rattle.pl_csv_c.proofs.HostLaws.{texts-none, texts-some}
use Rattle.pl_csv_c.proofs.host_type.enum_of.Goals as goal

pub returns-then-is_one_broken : goal.returns-then-is_one_broken
returns-then-is_one_broken c =
    sym (ap (option_map (λ texts. dtype.Enum (Some texts))) (texts-none c.args.texts.now (sym c.is_one_broken.ensures ∙ c.if-is_one_broken.true)))

pub returns : goal.returns
returns c =
    ap (λ texts. Some (dtype.Enum (Some texts))) (c.new.ensures ∙ c.in_ok-copies.ensures)
    ∙ sym (ap (option_map (λ texts. dtype.Enum (Some texts))) (texts-some c.args.texts.now (sym c.is_one_broken.ensures ∙ c.if-is_one_broken.false)))
