use Rattle.std.proofs.Common.{◌≡◌, ◌+◌, ◌*◌, Err, sym, ap, ◌∙◌, arith, w32, SFits, rules, below_more}
use Rattle.std.proofs.lemmas.Int.{to_z-of_z}
use Rattle.sheet.proofs.Blocks.{inside, fine_all, fine_stops, in_column, copied_more, copied_all}
use Rattle.sheet.proofs.block.Block.read_into.Goals as goal

pub loop-column-preserved : goal.loop-column-preserved
loop-column-preserved c =
    let h = inside c.rows.row c.args.self.width c.loop-column.column c.args.self.rows c.rows-test.true c.loop-column-test.true in
    let f : SFits w32 c.number-x.result = search rules in
    let here = in_column c.args.self.unknowns c.args.self.width c.rows.row c.loop-column.column _ _ _ c.loop-column-test.true f c.number-x.ensures c.takes.ensures ∙ c.if-not-takes.false in (
      c.loop-column.invariant.0,
      (λ t l. below_more _ _ c.loop-column.invariant.1 here t (omega arith)),
      λ t l. copied_more _ _ _ _ _ (omega arith) (to_z-of_z w32 c.number-x.result f ∙ c.number-x.ensures) c.loop-column.invariant.2 t (omega arith),
    )

pub returns-after-rows : goal.returns-after-rows
returns-after-rows c =
    let e : c.rows.row ≡ c.args.self.rows = omega arith in
    let count = c.args.self.rows * c.args.self.width in
    let fine = fine_all _ _ _ _ count (rw e at c.rows.invariant.1) in
    record { verdict = c.rows.invariant.0 ∙ sym fine; read = rw c.rows.invariant.0 (copied_all _ _ _ count (c.rows.auto.into ∙ c.requires.room) (rw e at c.rows.invariant.2)) }

pub returns-then-not-takes : goal.returns-then-not-takes
returns-then-not-takes c =
    let f : SFits w32 c.number-x.result = search rules in
    let h = inside c.rows.row c.args.self.width c.loop-column.column c.args.self.rows c.rows-test.true c.loop-column-test.true in
    let here = in_column c.args.self.unknowns c.args.self.width c.rows.row c.loop-column.column _ _ _ c.loop-column-test.true f c.number-x.ensures c.takes.ensures ∙ c.if-not-takes.true in
    let at = c.rows.row * c.args.self.width + c.loop-column.column in
    record { verdict = ap Err c.refusal.ensures ∙ sym (fine_stops _ _ _ _ (c.args.self.rows * c.args.self.width) at (omega arith) c.loop-column.invariant.1 here); read = tt }
