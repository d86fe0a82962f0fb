use Rattle.std.proofs.Common.{ap, ◌∙◌, arith}
use Rattle.memory.proofs.Pieces.{pieces_more}
use Rattle.sheet.proofs.word.put_words.Goals as goal

pub loop-k-preserved : goal.loop-k-preserved
loop-k-preserved g c =
    pieces_more g.W.Word.bytes_of _ g.met.W.Word.sized c.args.at c.args.words.now c.args.memory.now c.loop-k.k c.index-words-k.result c.loop-k-test.true c.requires
    _ c.loop-k.invariant _ (omega arith) _ (c.copy_from_slice.ensures.after ∙ c.to_bytes.ensures ∙ ap g.W.Word.bytes_of c.index-words-k.is)
