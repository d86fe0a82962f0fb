-- What a stored remainder stands for, and what REST makes of whole numbers. Assumes nothing.
--     exact_r v    the remainder that the stored value v is
--     rest_field   the remainders by the modulus as a field
--     misfit_r x   why the remainder x does not fit: every one fits
--     taken_r z    the remainder of the whole number z
use Rattle.std.specs.Prelude.{ℤ, None, Option}
use Rattle.algebra.specs.Field.{Field}
use Rattle.algebra.specs.Remainder.{Rem, whole_r}
use Rattle.algebra.proofs.RemainderField.{field_r}
use Rattle.kinds.specs.declared.refusal.Reason.{Reason}
use Rattle.remainders.specs.declared.Remainder.{Remainder}
use Rattle.remainders.specs.Moduli.{modulus, modulus_prime}

abbrev pub exact_r : Remainder → Rem modulus
exact_r v = record { value = v.value; below = v.below }

abbrev pub rest_field : Field (Rem modulus)
rest_field = field_r modulus modulus_prime

abbrev pub misfit_r : Rem modulus → Option Reason
misfit_r x = None

abbrev pub taken_r : ℤ → Rem modulus
taken_r z = whole_r modulus modulus_prime.0 z
