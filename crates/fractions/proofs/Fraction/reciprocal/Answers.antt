use Rattle.std.proofs.Common.{rules}
use Rattle.algebra.proofs.Reduced.{over_from}
use Rattle.fractions.specs.Fractions.{exact_q}
use Rattle.fractions.proofs.Made.{turned_above, turned_low, turned_small, turned_fine, turned_is}
use Rattle.fractions.proofs.Fraction.reciprocal.Goals as goal

pub invariant_of-result : goal.invariant_of-result
invariant_of-result c =
    let m = c.with_sign_of.ensures in
    let u = c.unsigned_abs.ensures.value in record {
      above = turned_above c.args.self _ _ m u (search rules) c.requires;
      lowest = turned_low c.args.self _ _ m u (search rules);
      low = turned_small c.args.self _ _ m u (search rules);
      fine = turned_fine c.args.self _ _ m u (search rules);
    }

pub returns : goal.returns
returns c = over_from (exact_q c.args.self) _ (turned_is c.args.self _ _ c.with_sign_of.ensures c.unsigned_abs.ensures.value (search rules))
