use Rattle.std.proofs.Common.{◌*◌, ℤ, pos, ◌*ℤ◌, nat_abs, ap, ◌∙◌, mul-pos, w64, SFits, rules}
use Rattle.std.proofs.lemmas.Int.{to_z-of_z}
use Rattle.integers.specs.Divisors.{gcd}
use Rattle.algebra.proofs.Reduced.{plus_from, apart_lowest}
use Rattle.fractions.specs.Fractions.{exact_q}
use Rattle.fractions.proofs.Fraction.plus_apart.Goals as goal

pub invariant_of-result : goal.invariant_of-result
invariant_of-result c =
    let f : SFits w64 c.joint.result = search rules in
    let p = c.args.self in
    let q = c.args.other in record {
      above = mul-pos p.above q.above;
      lowest =
          ap (λ (z : ℤ). gcd (nat_abs z) (p.denominator * q.denominator)) (to_z-of_z w64 c.joint.result f ∙ c.joint.ensures.value)
          ∙ apart_lowest p.numerator q.numerator p.denominator q.denominator p.above q.above p.lowest q.lowest c.requires;
    }

pub returns : goal.returns
returns c =
    let f : SFits w64 c.joint.result = search rules in
    plus_from (exact_q c.args.self) (exact_q c.args.other) _
    (ap (λ (z : ℤ). z *ℤ pos (c.args.self.denominator * c.args.other.denominator)) (to_z-of_z w64 c.joint.result f ∙ c.joint.ensures.value))
