use Rattle.std.proofs.Common.{rules}
use Rattle.algebra.proofs.Reduced.{plus_from}
use Rattle.fractions.specs.Fractions.{exact_q}
use Rattle.fractions.proofs.Made.{sum_made, sum_is}
use Rattle.fractions.proofs.Fraction.plus_sharing.Goals as goal

pub invariant_of-result : goal.invariant_of-result
invariant_of-result c =
    let r = sum_made c.args.self c.args.other _ _ _ _ _ _ c.requires c.joint-numerator.ensures.value c.unsigned_abs.ensures.value c.gcd-again.ensures.value c.part.ensures.value c.share.ensures (search rules) (search rules) in record { above = r.0; lowest = r.1 }

pub returns : goal.returns
returns c =
    plus_from (exact_q c.args.self) (exact_q c.args.other) _
    (sum_is c.args.self c.args.other _ _ _ _ _ _ c.requires c.joint-numerator.ensures.value c.unsigned_abs.ensures.value c.gcd-again.ensures.value c.part.ensures.value c.share.ensures (search rules) (search rules))
