-- Rows of numbers, to be gone through one by one. Assumes nothing.
--     IsRowsOf zs h w rows    `rows` gives the numbers zs as h rows of w
use Rattle.std.specs.Prelude.{◌≡◌, ℕ, ◌*◌, ◌<◌, List, [], length, ℤ}
use Rattle.std.specs.Slice.Iter.{chunks_exact_rest, chunks_exact_size, chunks_exact_remainder, chunks_exact_steps}
use Rattle.std.specs.Iterator.Runs.{EveryRun, IsChunksExactRun}
use Rattle.std.specs.declared.slice.ChunksExact.{ChunksExact}

-- all of zs is still to come, w numbers at a time, and nothing is left over
pub record IsRowsOf (zs : List ℤ) (h w : ℕ) (rows : ChunksExact ℤ) : Type 0 where
  pub rest : chunks_exact_rest rows ≡ zs
  pub size : chunks_exact_size rows ≡ w
  pub some : 0 < chunks_exact_size rows
  pub count : length (chunks_exact_rest rows) ≡ h * chunks_exact_size rows
  pub remainder : chunks_exact_remainder rows ≡ []
  pub runs : EveryRun (chunks_exact_steps {A = ℤ}) (λ p. 0 < chunks_exact_size p.from → IsChunksExactRun p (chunks_exact_size p.from) (chunks_exact_rest p.from))
