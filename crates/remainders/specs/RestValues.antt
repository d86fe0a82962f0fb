-- Stored remainders are told apart by their numbers, as what they stand for is. Assumes nothing.
--     exact_same, value_same   a stored remainder and an exact one are the same exactly when their numbers are
--     stored_same              stored remainders with equal numbers are the same
use Rattle.std.specs.Prelude.{◌≡◌, ◌<◌}
use Rattle.std.proofs.Common.{ap}
use mathlib.Core.HLevel.{is_prop→PathP}
use Rattle.std.proofs.Math.Bridge.{le_prop}
use Rattle.algebra.specs.Remainder.{Rem}
use Rattle.algebra.proofs.RemainderLaws.{Rem_path}
use Rattle.remainders.specs.declared.Remainder.{Remainder}
use Rattle.remainders.specs.Moduli.{modulus}
use Rattle.remainders.specs.Remainders.{exact_r}

pub exact_same : (v : Remainder) (x : Rem modulus) → v.value ≡ x.value → exact_r v ≡ x
exact_same v x e = Rem_path (exact_r v) x e

pub value_same : (v : Remainder) (x : Rem modulus) → exact_r v ≡ x → v.value ≡ x.value
value_same v x e = ap (λ (r : Rem modulus). r.value) e

pub stored_same : (a b : Remainder) → a.value ≡ b.value → a ≡ b
stored_same a b e = λ i. record { value = e i; below = is_prop→PathP (λ j. e j < modulus) (λ j. le_prop) a.below b.below i }
