use Rattle.std.proofs.Common.{◌≡◌, ℕ, List, ◌++◌}
use Rattle.std.specs.Fmt.{HasWritten, IsPlainFormatter}
use Rattle.std.specs.List.{flat_map}
use Rattle.listing.specs.Listing.{next_text, sum_text}
use Rattle.listing.proofs.Terms.{terms_left}
use Rattle.listing.proofs.SumDisplay.fmt.Given as goal

-- what is written, and what is left to write, is the whole sum
abbrev pub invariant-loop-k : goal.invariant-loop-k
invariant-loop-k g l =
    (goal.iterator-loop-k g).can_next l.k-iterator
    × (goal.iterator-loop-k g).is_finite l.k-iterator
    × (IsPlainFormatter l.fn.f → (done : List ℕ) × HasWritten g.W.Write.write_str_gives l.fn.f done l.f
    × (done ++ flat_map next_text (terms_left l.k-iterator) ≡ sum_text l.fn.self.0.now))
