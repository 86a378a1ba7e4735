use Rattle.std.proofs.Common.{◌≡◌, ◌++◌, length, take, drop, refl, sym, ◌∙◌, ap, inl, append_assoc}
use Rattle.std.specs.Prelude.{codes}
use Rattle.pl_csv.specs.Telling.{refusal_name, refusal_detail, fault_line}
use Rattle.pl_csv_c.proofs.CallLaws.{front-is, some-status}
use Rattle.pl_csv_c.proofs.fault.tell_line.Goals as goal

pub returns-clause-told : goal.returns-clause-told
returns-clause-told c =
    let given = c.args.refusal.now in
    let old = c.args.line.now in
    let body = refusal_name given ++ refusal_detail given in
    let line_is : fault_line given ≡ body ++ codes "\n" = sym (append_assoc (refusal_name given) (refusal_detail given) (codes "\n")) in
    let front = c.without_feed-front.ensures ∙ front-is body c.args.text.now 10 (c.requires ∙ line_is) in
    record {
      given = given;
      cause = inl refl;
      status_is = c.from.ensures ∙ c.status.ensures;
      line = record { text = body; line_is = line_is; put = c.put_front.ensures ∙ ap (λ text. take (length old) text ++ drop (length text) old) front; len_is = ap length front };
    }

pub returns-clause-some : goal.returns-clause-some
returns-clause-some c = λ none. some-status c.args.refusal.now (sym (c.from.ensures ∙ c.status.ensures) ∙ none)
