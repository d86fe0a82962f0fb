use Rattle.std.proofs.Common.{◌≡◌, take}
use Rattle.std.specs.List.{flat_map}
use Rattle.memory.specs.Over.{over}
use Rattle.sheet.proofs.word.put_words.Given as goal

abbrev pub invariant-loop-k : goal.invariant-loop-k
invariant-loop-k g l = l.memory ≡ over l.at (flat_map g.W.Word.bytes_of (take l.k l.words)) l.initial.memory
