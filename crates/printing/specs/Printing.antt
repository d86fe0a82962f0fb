-- What printing leaves in the memory lent for it. Assumes nothing.
--     printed longest text memory      the answer: how many bytes the text has, or the refusal of memory that is too short
--     memory_after longest text memory what the memory holds then: the text and what stood behind it, or what it held
use Rattle.std.specs.Prelude.{ℕ, cond, List, length, Ok, Err, Result, nat_le}
use Rattle.memory.specs.Over.{over}
use Rattle.kinds.specs.declared.refusal.Refusal.{Refusal}
use Rattle.kinds.specs.declared.refusal.Refusal.TheVariants.{Memory}

abbrev pub printed : ℕ → List ℕ → List ℕ → Result ℕ Refusal
printed longest text memory = cond (nat_le longest (length memory)) (Ok (length text)) (Err Memory)

abbrev pub memory_after : ℕ → List ℕ → List ℕ → List ℕ
memory_after longest text memory = cond (nat_le longest (length memory)) (over 0 text memory) memory
