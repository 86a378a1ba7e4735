-- Equal comment prefixes are the same.
use Rattle.std.proofs.Common.{◌≡◌, true, sym, ap, subst, true≢false}
use Rattle.std.specs.Cmp.{IsEquivalence}
use Rattle.std.specs.Cmp.Lexicographic.{bytes_decides}
use Rattle.std.proofs.lemmas.Bool.{eqb-true}
use Rattle.pl_scan.specs.contracts.comment.CommentPrefixEq.TheImpl.Laws as laws
use Rattle.pl_scan.specs.declared.comment.CommentPrefix.{CommentPrefix}
use Rattle.pl_scan.specs.declared.comment.CommentPrefix.TheVariants.{Single, Multi}
use Rattle.pl_scan.specs.CommentEqual.{prefixes_equal, PrefixesAreTold}

prefixes_same : (a b : CommentPrefix) → prefixes_equal a b ≡ true → a ≡ b
prefixes_same (Single a) (Single b) e = ap Single (eqb-true a b e)
prefixes_same (Multi a) (Multi b) e = ap Multi ((bytes_decides a b).0 e)
prefixes_same (Single a) (Multi b) e = absurd (true≢false (sym e))
prefixes_same (Multi a) (Single b) e = absurd (true≢false (sym e))

prefixes_equiv : IsEquivalence prefixes_equal
prefixes_equiv = laws.laws-law

pub prefixes_told : PrefixesAreTold
prefixes_told a b = (prefixes_same a b, λ e. subst (λ (t : CommentPrefix). prefixes_equal a t ≡ true) e (prefixes_equiv.refl a))
