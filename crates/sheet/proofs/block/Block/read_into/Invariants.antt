use Rattle.std.proofs.Common.{◌≡◌, ◌+◌, ◌*◌, Ok}
use Rattle.sheet.proofs.Blocks.{Fine, Copied}
use Rattle.sheet.proofs.block.Block.read_into.Given as goal

abbrev pub invariant-loop-column : goal.invariant-loop-column
invariant-loop-column l = (l.verdict ≡ Ok tt) × Fine l.self.unknowns l.self.width l.self.start l.bytes (l.row * l.self.width + l.column) × Copied l.self.start l.bytes l.into (l.row * l.self.width + l.column)

abbrev pub invariant-rows : goal.invariant-rows
invariant-rows l = (l.verdict ≡ Ok tt) × Fine l.self.unknowns l.self.width l.self.start l.bytes (l.row * l.self.width) × Copied l.self.start l.bytes l.into (l.row * l.self.width)
