-- What each refusal of a kind of number is, case by case: its number, and the value that it tells. Assumes nothing.
--     reason_number e   the number of a result that does not fit for the reason e
--     number_of e       the number by which the refusal e is known
--     position_of e     the position that it tells
use Rattle.std.specs.Prelude.{ℕ, Some, None, Option}
use Rattle.kinds.specs.declared.refusal.Reason.{Reason}
use Rattle.kinds.specs.declared.refusal.Reason.TheVariants.{TooLarge}
use Rattle.kinds.specs.declared.refusal.Refusal.{Refusal}
use Rattle.kinds.specs.declared.refusal.Refusal.TheVariants.{Memory, Number, ZeroDivisor, Misfit}

abbrev pub reason_number : Reason → ℕ
reason_number TooLarge = 14

abbrev pub number_of : Refusal → ℕ
number_of Memory = 6
number_of (Number position) = 7
number_of ZeroDivisor = 12
number_of (Misfit reason) = reason_number reason

abbrev pub position_of : Refusal → Option ℕ
position_of Memory = None
position_of (Number position) = Some position
position_of ZeroDivisor = None
position_of (Misfit reason) = None
