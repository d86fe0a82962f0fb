use Rattle.algebra.specs.Remainder.{one_r}
use Rattle.algebra.proofs.RemainderField.{over_by_product}
use Rattle.algebra.proofs.RemainderLaws.{Rem_path}
use Rattle.remainders.specs.Moduli.{modulus, modulus_prime}
use Rattle.remainders.specs.Remainders.{exact_r}
use Rattle.remainders.proofs.ByModulus.{coprime_value}
use Rattle.remainders.proofs.Remainder.reciprocal.Goals as goal

pub reciprocal-requires-clause-coprime : goal.reciprocal-requires-clause-coprime
reciprocal-requires-clause-coprime c = cc (coprime_value modulus modulus_prime (exact_r c.args.self) c.requires)

pub returns : goal.returns
returns c = over_by_product modulus modulus_prime (exact_r c.args.self) _ (Rem_path _ (one_r modulus modulus_prime.0) (cc))
