use Rattle.std.proofs.Common.{rules, ◌∙◌}
use Rattle.sheet.proofs.Blocks.{no_remainder}
use Rattle.sheet.proofs.rows.rows_of.Goals as goal

pub returns : goal.returns
returns c =
    let cut = c.chunks_exact.ensures in
    let h = c.args.block.rows in
    let w = c.args.block.width in
    record {
      rest = search rules;
      size = cut.size;
      some = search rules;
      count = search rules;
      remainder = cut.remainder ∙ no_remainder _ h w (search rules);
      runs = cut.runs;
    }
