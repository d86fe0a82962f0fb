use Rattle.std.proofs.Common.{IsUtf8, sym, refl, subst}
use lib.Utf8.{encode}
use Rattle.sheet.specs.declared.format.Mark.{Mark}
use Rattle.sheet.specs.declared.format.Mark.TheVariants.{Frac, Rest}
use Rattle.sheet.specs.Format.{letters}
use Rattle.sheet.proofs.format.Mark.text.Goals as goal

letters-utf8 : (m : Mark) → IsUtf8 (letters m)
unfolding encode
letters-utf8 Frac = (letters Frac, (refl, refl))
letters-utf8 Rest = (letters Rest, (refl, refl))

pub unreachable-requires : goal.unreachable-requires
unreachable-requires c = c.in-Err.ensures.cases.0 (subst IsUtf8 (sym c.letters.ensures) (letters-utf8 c.args.self))
