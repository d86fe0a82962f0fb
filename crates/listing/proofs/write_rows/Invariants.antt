use Rattle.std.specs.Fmt.{HasWritten, IsPlainFormatter}
use Rattle.std.specs.Iterator.Adapters.{enumerate_source, enumerate_count}
use Rattle.std.specs.Slice.Iter.{chunks_exact_rest, chunks_exact_size}
use Rattle.listing.proofs.Rows.{IsAtRow, first_rows}
use Rattle.listing.proofs.write_rows.Given as goal

abbrev pub invariant-loop-i : goal.invariant-loop-i
invariant-loop-i g l =
    (goal.iterator-loop-i g).can_next l.i-iterator
    × (goal.iterator-loop-i g).is_finite l.i-iterator
    × IsAtRow (chunks_exact_size l.fn.rows) (chunks_exact_rest l.fn.rows) (enumerate_count l.i-iterator) (enumerate_source l.i-iterator)
    × (IsPlainFormatter l.fn.f → HasWritten g.W.Write.write_str_gives l.fn.f (first_rows l.name l.unknowns (chunks_exact_size l.fn.rows) (chunks_exact_rest l.fn.rows) (enumerate_count l.i-iterator)) l.f)
