use Rattle.std.proofs.Common.{◌≡◌, ℤ, pos, ◌*ℤ◌, ap, ◌∙◌, rules}
use lib.IntN.{zero-*ℤ, *ℤ-zero}
use Rattle.algebra.proofs.Reduced.{none_from}
use Rattle.fractions.specs.Fractions.{exact_q}
use Rattle.fractions.proofs.Fraction.times.Goals as goal
use Rattle.fractions.proofs.Fraction.times.Goals.{then-self-eq0-via-then-self-eq0, then-self-eq0-via-else-self-eq0+then-other-eq0}

pub returns-then-self-eq0 : goal.returns-then-self-eq0
returns-then-self-eq0 c = c.zero.ensures ∙ none_from (exact_q c.args.self) (exact_q c.args.other) (elim c.then-self-eq0.branch [
  | then-self-eq0-via-then-self-eq0 w ↦
      let z : c.args.self.numerator ≡ pos 0 = search rules in ap (λ (x : ℤ). x *ℤ c.args.other.numerator) z ∙ zero-*ℤ c.args.other.numerator
  | then-self-eq0-via-else-self-eq0+then-other-eq0 w ↦
      let z : c.args.other.numerator ≡ pos 0 = search rules in ap (λ (x : ℤ). c.args.self.numerator *ℤ x) z ∙ *ℤ-zero c.args.self.numerator
])
