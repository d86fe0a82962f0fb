-- How large the parts of a stored fraction may be, and how long its text. Assumes nothing.
--     part_limit         a numerator lies within this of zero, and a denominator is at most this
--     longest_fraction   how many bytes the longest text has: a sign, ten digits, a slash and ten digits
use Rattle.std.specs.Prelude.{ℕ}

abbrev pub part_limit : ℕ
part_limit = 2147483647

abbrev pub longest_fraction : ℕ
longest_fraction = 22
