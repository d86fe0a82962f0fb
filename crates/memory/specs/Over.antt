-- Writing over memory. Assumes nothing.
--     over at bs memory   memory with bs written over it from the byte `at` on
use Rattle.std.specs.Prelude.{ℕ, ◌+◌, List, ◌++◌, length, take, drop}

-- memory in which bs stands from the byte `at` on, and all else is as it was
abbrev pub over : ℕ → List ℕ → List ℕ → List ℕ
over at bs memory = take at memory ++ (bs ++ drop (at + length bs) memory)
