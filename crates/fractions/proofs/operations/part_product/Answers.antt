use Rattle.std.proofs.Common.{rules}
use Rattle.fractions.proofs.Wide.{parts_fit, parts_kept}
use Rattle.fractions.proofs.operations.part_product.Goals as goal

pub overflow_mul-result : goal.overflow_mul-result
overflow_mul-result c = parts_fit _ _ _ _ _ _ c.ranges.a c.ranges.c c.part.ensures.value c.part-2.ensures.value (search rules) (search rules)

pub returns : goal.returns
returns c = parts_kept _ _ _ _ _ _ c.ranges.a c.ranges.c c.part.ensures.value c.part-2.ensures.value (search rules) (search rules)
