use Rattle.std.proofs.Common.{◌∙◌, w32, SFits, rules}
use Rattle.std.proofs.lemmas.Int.{to_z-of_z}
use Rattle.algebra.proofs.RemainderLaws.{Rem_path}
use Rattle.remainders.specs.Moduli.{modulus, modulus_prime}
use Rattle.remainders.specs.Remainders.{taken_r}
use Rattle.remainders.proofs.ByModulus.{whole_same}
use Rattle.remainders.proofs.kind.RemainderFromWhole.from.Goals as goal

pub returns : goal.returns
returns c =
    let f : SFits w32 c.args.whole.number = search rules in
    Rem_path _ (taken_r c.args.whole.number) (c.whole.ensures ∙ whole_same modulus _ modulus_prime.0 _ _ (to_z-of_z w32 c.args.whole.number f))
