use Rattle.std.proofs.Common.{rules}
use Rattle.algebra.proofs.Reduced.{times_from}
use Rattle.fractions.specs.Fractions.{exact_q}
use Rattle.fractions.proofs.Made.{product_made, product_is}
use Rattle.fractions.proofs.Fraction.times_crosswise.Goals as goal

pub invariant_of-result : goal.invariant_of-result
invariant_of-result c =
    let r = product_made c.args.self c.args.other _ _ _ _ _ _ _ c.unsigned_abs.ensures.value c.gcd-g.ensures.value c.unsigned_abs-2.ensures.value c.gcd-h.ensures.value c.part_product.ensures c.share.ensures c.share-2.ensures (search rules) in record { above = r.0; lowest = r.1 }

pub returns : goal.returns
returns c =
    times_from (exact_q c.args.self) (exact_q c.args.other) _
    (product_is c.args.self c.args.other _ _ _ _ _ _ _ c.unsigned_abs.ensures.value c.gcd-g.ensures.value c.unsigned_abs-2.ensures.value c.gcd-h.ensures.value c.part_product.ensures c.share.ensures c.share-2.ensures (search rules))
