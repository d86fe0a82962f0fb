-- Checks in a row, of which the first that fails decides. Assumes nothing.
--     Check             a test, and the refusal where it fails
--     judged cs         Ok where every check of cs holds, else the refusal of the first that fails
--     after r next      what next gives where r is Ok, else the refusal of r
--     if_passed r x y   x where r is Ok, else y
use Rattle.std.specs.Prelude.{Bool, true, false, List, [], ◌∷◌, Ok, Err, Result}
use Rattle.sheet.specs.declared.refusal.Refusal.{Refusal}

abbrev pub Check : Type 0
Check = Bool × Refusal

abbrev pub judged : List Check → Result (Unit {0}) Refusal
judged [] = Ok tt
judged (c ∷ cs) = elim c.0 [ true ↦ judged cs | false ↦ Err c.1 ]

abbrev pub after : {X : Type 0} → Result (Unit {0}) Refusal → (Unit {0} → Result X Refusal) → Result X Refusal
after (Ok u) next = next u
after (Err e) next = Err e

abbrev pub if_passed : {X : Type 0} → Result (Unit {0}) Refusal → X → X → X
if_passed (Ok u) x y = x
if_passed (Err e) x y = y
