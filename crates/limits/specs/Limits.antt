-- What the sheet and the kinds of number share. Assumes nothing.
--     frac_letters, rest_letters   the four letters by which a kind of number is marked
--     most_unknowns                unknowns are 1 to this
--     coefficient_limit            how far from zero a coefficient may lie
--     right_side_limit             how far from zero a right side may lie; what a kind of number takes goes as far
use Rattle.std.specs.Prelude.{List, ℕ, codes}

abbrev pub frac_letters : List ℕ
frac_letters = codes "FRAC"

abbrev pub rest_letters : List ℕ
rest_letters = codes "REST"

abbrev pub most_unknowns : ℕ
most_unknowns = 12

abbrev pub coefficient_limit : ℕ
coefficient_limit = 1000000

abbrev pub right_side_limit : ℕ
right_side_limit = 1000000000
