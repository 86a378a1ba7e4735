use Rattle.std.proofs.Common.{◌≡◌, sym, subst}
use Rattle.std.specs.Prelude.{IfOk, OnOk, IfErr, None}
use Rattle.pl_options.specs.FirstCause.{IsFault}
use Rattle.pl_read.proofs.DataLaws.{may-dialect}
use Rattle.pl_read.proofs.SettlingLaws.{copy-schema, copy-sound, copy-refused, schema-inferred, cause-inferred}
use Rattle.pl_read.proofs.settling.schema_of.Goals as goal

pub inferred_schema-requires : goal.inferred_schema-requires
inferred_schema-requires c = (may-dialect c.args.options.now c.requires).distinct

pub returns-in-Some : goal.returns-in-Some
returns-in-Some c =
    let o = c.args.options.now in
    let input = c.args.input.now in
    let result = c.try_clone.result in
    record {
      schema = copy-schema o input c.in-Some.schema result c.in-Some.is c.try_clone.ensures.equal;
      sound = copy-sound o input c.in-Some.schema result c.in-Some.is;
      refused = copy-refused _ result c.try_clone.ensures.refused;
    }

pub returns-in-None : goal.returns-in-None
returns-in-None c =
    let o = c.args.options.now in
    let input = c.args.input.now in
    let result = c.inferred_schema.result in
    record {
      schema = subst (λ is. IfOk result (λ schema. schema ≡ is)) (sym (schema-inferred o input c.in-None.is)) c.inferred_schema.ensures.inferred;
      sound = subst (λ is. OnOk result (is ≡ None)) (sym (cause-inferred o input c.in-None.is)) c.inferred_schema.ensures.sound;
      refused = subst (λ is. IfErr result (IsFault is)) (sym (cause-inferred o input c.in-None.is)) c.inferred_schema.ensures.refused;
    }
