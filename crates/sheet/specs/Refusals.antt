-- What each refusal of a sheet is, case by case: its number, and the values that it tells. Assumes nothing.
--     number_of e       the number by which e is known
--     byte_of e         the byte that it tells
--     position_of e     the position in a line or form that it tells
use Rattle.std.specs.Prelude.{ℕ, Some, None, Option}
use Rattle.sheet.specs.declared.refusal.Refusal.{Refusal}
use Rattle.sheet.specs.declared.refusal.Refusal.TheVariants.{Short, NoMark, Count, Layout, Length, Number}

abbrev pub number_of : Refusal → ℕ
number_of (Short length) = 1
number_of NoMark = 2
number_of (Count byte) = 3
number_of (Layout byte) = 4
number_of Length = 6
number_of (Number position byte) = 7

abbrev pub byte_of : Refusal → Option ℕ
byte_of (Short length) = Some length
byte_of NoMark = Some 0
byte_of (Count byte) = Some byte
byte_of (Layout byte) = Some byte
byte_of Length = None
byte_of (Number position byte) = Some byte

abbrev pub position_of : Refusal → Option ℕ
position_of (Short length) = None
position_of NoMark = None
position_of (Count byte) = None
position_of (Layout byte) = None
position_of Length = None
position_of (Number position byte) = Some position
