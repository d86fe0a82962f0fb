use Rattle.std.proofs.Common.{◌≡◌, ℕ, suc, ◌+◌, ◌-◌, ◌/◌, sym, ap, ◌∙◌, arith}
use Rattle.memory.specs.Over.{over}
use Rattle.texts.specs.Texts.{padded}
use Rattle.memory.proofs.Pieces.{over_none, over_before}
use Rattle.texts.proofs.Spelling.{length-padded}
use Rattle.printing.proofs.digits.put_padded.Goals as goal

pub loop-left-preserved : goal.loop-left-preserved
loop-left-preserved c =
    let one : c.loop-left.left ≡ suc (c.loop-left.left - 1) = omega arith in (
      over_before c.args.at _ (padded (c.loop-left.left - 1) (c.loop-left.rest / 10)) c.loop-left.memory (c.args.at + (c.loop-left.left - 1)) (ap (λ (n : ℕ). c.args.at + n) (length-padded (c.loop-left.left - 1) (c.loop-left.rest / 10))) (omega arith)
          ∙ ap (λ (k : ℕ). over c.args.at (padded k c.loop-left.rest) c.loop-left.memory) (sym one)
          ∙ c.loop-left.invariant.0,
      omega arith,
    )

pub returns : goal.returns
returns c =
    let none : c.loop-left.left ≡ 0 = omega arith in
    sym (over_none c.args.at c.loop-left.memory)
    ∙ ap (λ (k : ℕ). over c.args.at (padded k c.loop-left.rest) c.loop-left.memory) (sym none)
    ∙ c.loop-left.invariant.0
