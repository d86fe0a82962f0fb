-- A block of numbers, row by row: what it holds, and which blocks a sheet has. Assumes nothing.
--     count b              how many numbers the block b has
--     end_of b             the byte just past the last of them
--     numbers_of bytes b   the numbers that stand there
--     checks_of b zs       the numbers zs as those of b, each in its range
--     IsLines c b          b is the lines of a sheet with the counts c
--     IsForms c b          b is its forms
use Rattle.std.specs.Prelude.{◌≡◌, ℕ, ◌+◌, ◌*◌, List, ℤ}
use Rattle.sheet.specs.declared.format.Counts.{Counts}
use Rattle.sheet.specs.declared.block.Block.{Block}
use Rattle.sheet.specs.Checks.{Check}
use Rattle.sheet.specs.Format.{lines_start, forms_start}
use Rattle.sheet.specs.Numbers.{numbers, block_checks}

abbrev pub count : Block → ℕ
count b = b.rows * b.width

abbrev pub end_of : Block → ℕ
end_of b = b.start + 4 * count b

abbrev pub numbers_of : List ℕ → Block → List ℤ
numbers_of bytes b = numbers bytes b.start (count b)

abbrev pub checks_of : Block → List ℤ → List Check
checks_of b zs = block_checks b.unknowns b.width b.start zs

-- a coefficient for every unknown, and then a right side
pub record IsLines (c : Counts) (b : Block) : Type 0 where
  pub start : b.start ≡ lines_start
  pub rows : b.rows ≡ c.lines
  pub width : b.width ≡ c.unknowns + 1
  pub unknowns : b.unknowns ≡ c.unknowns

-- just past the lines, and no right side
pub record IsForms (c : Counts) (b : Block) : Type 0 where
  pub start : b.start ≡ forms_start c
  pub rows : b.rows ≡ c.forms
  pub width : b.width ≡ c.unknowns
  pub unknowns : b.unknowns ≡ c.unknowns
