use Rattle.std.proofs.Common.{◌%◌, Err, get_or, pos, sym, ap, ◌∙◌, arith, w32, SFits, rules}
use Rattle.std.proofs.lemmas.Int.{to_z-of_z}
use Rattle.sheet.specs.Numbers.{in_range}
use Rattle.sheet.proofs.Blocks.{block_stops, block_passed}
use Rattle.sheet.proofs.block.Block.check.Goals as goal

pub returns-then-not-takes : goal.returns-then-not-takes
returns-then-not-takes c =
    let x = get_or c.args.numbers.now c.loop-k.k (pos 0) in
    let f : SFits w32 x = search rules in
    ap Err c.refusal.ensures ∙ sym (block_stops c.args.self.unknowns c.args.self.width c.args.self.start c.args.numbers.now c.loop-k.k c.loop-k-test.true c.loop-k.invariant
    (ap (in_range c.args.self.unknowns (c.loop-k.k % c.args.self.width)) (sym (to_z-of_z w32 x f)) ∙ sym c.takes.ensures ∙ c.if-not-takes.true))

pub returns : goal.returns
returns c = sym (block_passed c.args.self.unknowns c.args.self.width c.args.self.start c.args.numbers.now (λ t l. c.loop-k.invariant t (omega arith)))
