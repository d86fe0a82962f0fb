use Rattle.std.proofs.Common.{◌≡◌, ◌+◌, ◌++◌, take, slice_get, sym, ap, subst, ◌∙◌, rules}
use Rattle.std.proofs.Output.{has_written_append, has_written_of_eq}
use Rattle.std.specs.Iterator.Adapters.{enumerate_source, enumerate_count}
use Rattle.std.specs.Slice.Iter.{chunks_exact_rest, chunks_exact_size}
use Rattle.listing.specs.Listing.{row_text}
use Rattle.listing.proofs.Rows.{IsAtRow, this_row, next_row, last_row, first_rows, first_rows-more}
use Rattle.listing.proofs.write_rows.Goals as goal

pub loop-i-preserved : goal.loop-i-preserved
loop-i-preserved g c =
    let name = c.args.name.now in
    let u = c.args.unknowns in
    let w = chunks_exact_size c.args.rows in
    let zs = chunks_exact_rest c.args.rows in
    let i = enumerate_count c.loop-i.i-iterator in
    let steps = c.in-Some.ensures.steps in
    let s = enumerate_source c.loop-i.i-iterator in
    let t = enumerate_source c.next.new.self in
    let at = c.loop-i.invariant.2 in
    let numbers = c.in-Some.row.now in
    let row = c.new.result in
    let text : row_text row.name.now row.number row.sum.0.now row.right ≡ row_text name (i + 1) (take u numbers) (slice_get numbers u) =
    λ j. row_text (c.new.ensures.name j) ((c.new.ensures.number ∙ ap (λ n. n + 1) steps.1) j) (c.new.ensures.sum j) (c.new.ensures.right j) in (
      search rules,
      search rules,
      subst (λ n. IsAtRow w zs n t) (sym steps.2) (next_row w zs i s t at c.in-Some.row steps.0),
      λ plain.
          let so_far = c.loop-i.invariant.3 plain in
          has_written_of_eq _ _ _ _ _
          (ap (λ l. first_rows name u w zs i ++ l) text ∙ first_rows-more name u w zs i numbers (this_row w zs i s t at c.in-Some.row steps.0) ∙ ap (first_rows name u w zs) (sym steps.2))
          (has_written_append _ _ _ _ (row_text row.name.now row.number row.sum.0.now row.right) _ so_far (search rules)),
    )

pub returns : goal.returns
returns g c = λ plain _.
    let w = chunks_exact_size c.args.rows in
    let zs = chunks_exact_rest c.args.rows in
    let i = enumerate_count c.loop-i.i-iterator in
    let s = enumerate_source c.loop-i.i-iterator in
    let t = enumerate_source c.next.new.self in
    let all = last_row w zs i s t c.loop-i.invariant.2 c.in-None.ensures.steps.0 in
    has_written_of_eq _ _ _ _ _ (ap (first_rows c.args.name.now c.args.unknowns w zs) (sym all)) (c.loop-i.invariant.3 plain)
