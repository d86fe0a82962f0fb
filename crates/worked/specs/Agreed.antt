-- What the sheet and the kinds of number share is the same to both, and the code has it as the definitions do. Assumes nothing.
--     SameMarks     a sheet's two marks have the letters of the two kinds of number
--     SameLetters   the code's letters are those
--     SameLimits    the code's limits are the defined ones: how many unknowns, how far from zero a coefficient and a right side may lie
--     Agreed        all of these
use Rattle.std.specs.Prelude.{◌≡◌}
use Rattle.sheet.specs.declared.format.Mark.TheVariants.{Frac, Rest}
use Rattle.sheet.specs.Format.{letters}
use Rattle.limits.specs.declared.TheConstants.{FRAC, REST, MOST_UNKNOWNS, COEFFICIENT_LIMIT, RIGHT_SIDE_LIMIT}
use Rattle.limits.specs.Limits.{frac_letters, rest_letters, most_unknowns, coefficient_limit, right_side_limit}

abbrev pub SameMarks : Type 0
SameMarks = (letters Frac ≡ frac_letters) × (letters Rest ≡ rest_letters)

abbrev pub SameLetters : Type 0
SameLetters = (FRAC.now ≡ frac_letters) × (REST.now ≡ rest_letters)

abbrev pub SameLimits : Type 0
SameLimits = (MOST_UNKNOWNS ≡ most_unknowns) × (COEFFICIENT_LIMIT ≡ coefficient_limit) × (RIGHT_SIDE_LIMIT ≡ right_side_limit)

abbrev pub Agreed : Type 0
Agreed = SameMarks × SameLetters × SameLimits
