use Rattle.std.proofs.Common.{◌≡◌, ℕ, ◌%◌, sym, ap, ◌∙◌, subst}
use Rattle.std.specs.Int.{IsGcd}
use Rattle.integers.specs.Divisors.{gcd}
use Rattle.integers.proofs.GcdLaws.{gcd_one, gcd_zero, gcd-mod, gcd_comm, gcd_is_greatest}
use Rattle.fractions.proofs.divisors.gcd.Goals as goal
use Rattle.fractions.proofs.divisors.gcd.Goals.{then-a-eq1-via-then-a-eq1, then-a-eq1-via-else-a-eq1+then-b-eq1}

meant : (a b r : ℕ) → r ≡ gcd a b → IsGcd a b r
meant a b r e = subst (λ (x : ℕ). IsGcd a b x) (sym e) (gcd_is_greatest a b)

pub returns-then-a-eq1 : goal.returns-then-a-eq1
returns-then-a-eq1 c =
    let e : 1 ≡ gcd c.args.a c.args.b = elim c.then-a-eq1.branch [
      | then-a-eq1-via-then-a-eq1 w ↦ sym (ap (λ (a : ℕ). gcd a c.args.b) w.if-a-eq1.true ∙ gcd_comm 1 c.args.b ∙ gcd_one c.args.b)
      | then-a-eq1-via-else-a-eq1+then-b-eq1 w ↦ sym (ap (λ (b : ℕ). gcd c.args.a b) w.if-b-eq1.true ∙ gcd_one c.args.a)
    ] in
    record { value = e; meaning = meant c.args.a c.args.b 1 e }

pub loop-next-preserved : goal.loop-next-preserved
loop-next-preserved c = gcd_comm c.loop-next.next (c.loop-next.last % c.loop-next.next) ∙ gcd-mod c.loop-next.last c.loop-next.next ∙ c.loop-next.invariant

pub returns : goal.returns
returns c =
    let e = sym (gcd_zero c.loop-next.last) ∙ ap (λ (b : ℕ). gcd c.loop-next.last b) (sym c.loop-next-test.false) ∙ c.loop-next.invariant in
    record { value = e; meaning = meant c.args.a c.args.b c.loop-next.last e }
