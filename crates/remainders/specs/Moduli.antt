-- The modulus that REST takes remainders by, and how many digits it takes to write one. Assumes nothing.
--     modulus         the modulus, a prime
--     modulus_prime   the proof that it is one
--     rest_digits     how many digits the text of a remainder has
use Rattle.std.specs.Prelude.{ℕ, refl}
use Rattle.std.proofs.lemmas.Bool.{ltb-true}
use Rattle.integers.specs.Divisors.{Prime}
use Rattle.integers.proofs.Primes.{prime_by_test}

abbrev pub modulus : ℕ
modulus = 9973

pub modulus_prime : Prime modulus
modulus_prime = prime_by_test modulus (ltb-true 1 modulus refl) refl

abbrev pub rest_digits : ℕ
rest_digits = 4
