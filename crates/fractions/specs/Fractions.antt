-- What a stored fraction stands for, and which exact fractions fit. Assumes nothing.
--     exact_q v          the exact fraction that v stands for
--     lowest_q w         the same of a fraction that is not judged yet
--     misfit_q q         why q does not fit: its numerator or its denominator is beyond the limit
use Rattle.std.specs.Prelude.{cond, ◌&&◌, Some, None, Option, nat_le, unsigned_abs}
use Rattle.algebra.specs.Fraction.{Q}
use Rattle.fractions.specs.Terms.{part_limit}
use Rattle.kinds.specs.declared.refusal.Reason.{Reason}
use Rattle.kinds.specs.declared.refusal.Reason.TheVariants.{TooLarge}
use Rattle.fractions.specs.declared.Fraction.{Fraction}
use Rattle.fractions.specs.declared.Lowest.{Lowest}

abbrev pub exact_q : Fraction → Q
exact_q v = record { num = v.numerator; den = v.denominator; den_pos = v.above; low = v.lowest }

abbrev pub lowest_q : Lowest → Q
lowest_q w = record { num = w.numerator; den = w.denominator; den_pos = w.above; low = w.lowest }

abbrev pub misfit_q : Q → Option Reason
misfit_q q = cond (nat_le (unsigned_abs q.num) part_limit && nat_le q.den part_limit) None (Some TooLarge)
