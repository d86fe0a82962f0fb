use Rattle.std.proofs.Common.{◌≡◌, ◌≤◌}
use Rattle.memory.specs.Over.{over}
use Rattle.texts.specs.Texts.{padded}
use Rattle.printing.proofs.digits.put_padded.Given as goal

-- the digits that are left, written over what stands now, give all
abbrev pub invariant-loop-left : goal.invariant-loop-left
invariant-loop-left l = (over l.at (padded l.left l.rest) l.memory ≡ over l.at (padded l.count l.value) l.initial.memory) × (l.left ≤ l.count)

abbrev pub decreases-loop-left : goal.decreases-loop-left
decreases-loop-left l = l.left
