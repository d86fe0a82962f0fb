-- Which exact fractions fit, and when two stored ones stand for the same. Assumes nothing.
use Rattle.std.proofs.Common.{◌≡◌, ◌≤◌, ◌==◌, ◌&&◌, int_eq, Decides, Bool, cond, leb, nat_abs, Some, None, Option, ap, nat_eq, of_z, w32, rules}
use Rattle.std.proofs.lemmas.Bool.{and_from, le-leb}
use Rattle.std.proofs.lemmas.Bool.Decides.{Decides-and, Decides-int_eq, Decides-eqb}
use Rattle.algebra.specs.Fraction.{Q, zero_q}
use Rattle.algebra.proofs.FractionLaws.{Q_path, zero_num}
use Rattle.fractions.specs.Terms.{part_limit}
use Rattle.fractions.specs.Fractions.{exact_q, misfit_q}
use Rattle.fractions.specs.FracValues.{same_num, same_den}
use Rattle.fractions.specs.declared.Fraction.{Fraction}
use Rattle.kinds.specs.declared.refusal.Reason.{Reason}
use Rattle.kinds.specs.declared.refusal.Reason.TheVariants.{TooLarge}

abbrev told : Bool → Option Reason
told b = cond b None (Some TooLarge)

pub fits_within : (q : Q) → nat_abs q.num ≤ part_limit → q.den ≤ part_limit → misfit_q q ≡ None
fits_within q h k = ap told (and_from (leb (nat_abs q.num) part_limit) (leb q.den part_limit) (le-leb (nat_abs q.num) part_limit h) (le-leb q.den part_limit k))

-- what two stored fractions stand for is the same exactly when their parts are
pub parts_tell : (a b : Fraction) → Decides (int_eq a.numerator b.numerator && a.denominator == b.denominator) (exact_q a ≡ exact_q b)
parts_tell a b =
    let d = Decides-and _ _ (Decides-int_eq a.numerator b.numerator) (Decides-eqb a.denominator b.denominator) in
    (λ t. Q_path (exact_q a) (exact_q b) (d.0 t).0 (d.0 t).1, λ e. d.1 (same_num (exact_q a) (exact_q b) e, same_den (exact_q a) (exact_q b) e))

-- .. and zero exactly when the numerator is, as the word that it stands in tells
pub zero_tells : (a : Fraction) → Decides (nat_eq (of_z w32 a.numerator) 0) (exact_q a ≡ zero_q)
zero_tells a = let b = a.low in (λ t. zero_num (exact_q a) (search rules), λ e. let z = same_num (exact_q a) zero_q e in search rules)
