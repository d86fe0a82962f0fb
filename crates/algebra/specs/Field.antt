-- A field with a weight: what the exact values of a kind of number are. Assumes nothing.
--     Field Value      operations on Value and the laws that they keep
--     zero, one        the neutral values of sum and product
--     plus, times      sum and product
--     minus, over      the negative and the reciprocal; the reciprocal of zero is of no meaning
--     heavier a b      a is heavier than b, which decides which of two values makes the better pivot
use Rattle.std.specs.Prelude.{◌≡◌, Bool, true, false, ◌≢◌}

pub record Field (Value : Type 0) : Type 0 where
  pub is_set : IsSet Value
  pub zero : Value
  pub one : Value
  pub plus : Value → Value → Value
  pub times : Value → Value → Value
  pub minus : Value → Value
  pub over : Value → Value
  pub heavier : Value → Value → Bool
  pub plus_assoc : (a b c : Value) → plus (plus a b) c ≡ plus a (plus b c)
  pub plus_comm : (a b : Value) → plus a b ≡ plus b a
  pub plus_zero : (a : Value) → plus a zero ≡ a
  pub plus_minus : (a : Value) → plus a (minus a) ≡ zero
  pub times_assoc : (a b c : Value) → times (times a b) c ≡ times a (times b c)
  pub times_comm : (a b : Value) → times a b ≡ times b a
  pub times_one : (a : Value) → times a one ≡ a
  pub times_plus : (a b c : Value) → times a (plus b c) ≡ plus (times a b) (times a c)
  pub times_over : (a : Value) → a ≢ zero → times a (over a) ≡ one
  pub one_zero : one ≢ zero
  -- strict and transitive, and its absence transitive
  pub heavier_irr : (a : Value) → heavier a a ≡ false
  pub heavier_trans : (a b c : Value) → heavier a b ≡ true → heavier b c ≡ true → heavier a c ≡ true
  pub heavier_neg : (a b c : Value) → heavier a b ≡ false → heavier b c ≡ false → heavier a c ≡ false
  -- every value but zero is heavier than zero, and zero than nothing
  pub heavier_zero : (a : Value) → heavier a zero ≡ false → a ≡ zero
  pub zero_heavier : (a : Value) → heavier zero a ≡ false

-- a less b, and a divided by b
abbrev pub less : {Value : Type 0} → Field Value → Value → Value → Value
less F a b = F.plus a (F.minus b)

abbrev pub divided : {Value : Type 0} → Field Value → Value → Value → Value
divided F a b = F.times a (F.over b)
