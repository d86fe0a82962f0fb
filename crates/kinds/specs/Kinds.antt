-- What the calls of a kind of number answer, in terms of exact values. Assumes nothing.
--     exact                      what a stored value stands for
--     misfit x                   why the exact value x does not fit, if it does not
--     Answers exact misfit x r   r is a value that stands for x, where x fits, and else the reason why it does not
--     AnswersQuotient .. zero d x r   the same of the quotient x by d, except that a divisor zero is refused first
--     in_reach z                 whole numbers that a kind takes
--     Takes exact taken z r      r is a value that stands for z, where z is in reach, and else the refusal of a number
use Rattle.std.specs.Prelude.{◌≡◌, Bool, true, false, ◌≢◌, ℤ, Some, None, Ok, Err, Option, Result, nat_le, unsigned_abs}
use Rattle.limits.specs.Limits.{right_side_limit}
use Rattle.kinds.specs.declared.refusal.Reason.{Reason}
use Rattle.kinds.specs.declared.refusal.Refusal.{Refusal}
use Rattle.kinds.specs.declared.refusal.Refusal.TheVariants.{Memory, Number, ZeroDivisor, Misfit}

abbrev pub Answers : {K V : Type 0} → (K → V) → (V → Option Reason) → V → Result K Reason → Type 0
Answers exact misfit x (Ok v) = (misfit x ≡ None) × (exact v ≡ x)
Answers exact misfit x (Err reason) = misfit x ≡ Some reason

abbrev pub AnswersQuotient : {K V : Type 0} → (K → V) → (V → Option Reason) → V → V → V → Result K Refusal → Type 0
AnswersQuotient exact misfit zero d x (Ok v) = (d ≢ zero) × (misfit x ≡ None) × (exact v ≡ x)
AnswersQuotient exact misfit zero d x (Err (Misfit reason)) = (d ≢ zero) × (misfit x ≡ Some reason)
AnswersQuotient exact misfit zero d x (Err ZeroDivisor) = d ≡ zero
AnswersQuotient exact misfit zero d x (Err Memory) = ⊥
AnswersQuotient exact misfit zero d x (Err (Number position)) = ⊥

abbrev pub in_reach : ℤ → Bool
in_reach z = nat_le (unsigned_abs z) right_side_limit

abbrev pub Takes : {K V : Type 0} → (K → V) → (ℤ → V) → ℤ → Result K Refusal → Type 0
Takes exact taken z (Ok v) = (in_reach z ≡ true) × (exact v ≡ taken z)
Takes exact taken z (Err e) = (in_reach z ≡ false) × (e ≡ Number 1)
