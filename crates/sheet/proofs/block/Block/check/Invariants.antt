use Rattle.sheet.proofs.Blocks.{Passed}
use Rattle.sheet.proofs.block.Block.check.Given as goal

abbrev pub invariant-loop-k : goal.invariant-loop-k
invariant-loop-k l = Passed l.self.unknowns l.self.width l.self.start l.numbers l.k
