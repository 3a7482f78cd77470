-- What a field on the codes 0 .. order - 1 is: 0 is its zero, 1 its one. Assumes nothing.
use Rattle.std.specs.Prelude.{◌≡◌, ℕ, ◌^◌, ◌<◌, ◌≤◌, ◌≢◌, List, length, slice_index}

-- the numbers and the operations of a field; elements are given by their codes
pub record Ops : Type 0 where
  -- the field code: the number by which a piece says which field it was cut with
  pub code : ℕ
  -- how many codes there are
  pub order : ℕ
  -- bits that a code takes where it is stored
  pub width : ℕ
  pub add : ℕ → ℕ → ℕ
  pub mul : ℕ → ℕ → ℕ
  pub neg : ℕ → ℕ
  pub inv : ℕ → ℕ

-- the codes below the order are a field
pub record FieldLaws (K : Ops) : Type 0 where
  pub one_below : 1 < K.order
  pub add_below : (a b : ℕ) → a < K.order → b < K.order → K.add a b < K.order
  pub mul_below : (a b : ℕ) → a < K.order → b < K.order → K.mul a b < K.order
  pub neg_below : (a : ℕ) → a < K.order → K.neg a < K.order
  pub inv_below : (a : ℕ) → a < K.order → K.inv a < K.order
  pub add_assoc : (a b c : ℕ) → a < K.order → b < K.order → c < K.order → K.add (K.add a b) c ≡ K.add a (K.add b c)
  pub add_comm : (a b : ℕ) → a < K.order → b < K.order → K.add a b ≡ K.add b a
  pub add-zero : (a : ℕ) → a < K.order → K.add a 0 ≡ a
  pub add_neg : (a : ℕ) → a < K.order → K.add a (K.neg a) ≡ 0
  pub mul_assoc : (a b c : ℕ) → a < K.order → b < K.order → c < K.order → K.mul (K.mul a b) c ≡ K.mul a (K.mul b c)
  pub mul_comm : (a b : ℕ) → a < K.order → b < K.order → K.mul a b ≡ K.mul b a
  pub mul-one : (a : ℕ) → a < K.order → K.mul a 1 ≡ a
  pub mul_inv : (a : ℕ) → a < K.order → a ≢ 0 → K.mul a (K.inv a) ≡ 1
  pub mul-add : (a b c : ℕ) → a < K.order → b < K.order → c < K.order → K.mul a (K.add b c) ≡ K.add (K.mul a b) (K.mul a c)

-- the bounds of a field's numbers, which the algebra does not use
pub record Bounds (K : Ops) : Type 0 where
  pub code_most : K.code < 4
  pub order_least : 256 ≤ K.order
  pub order_most : K.order ≤ 512
  pub width_least : 8 ≤ K.width
  pub width_most : K.width ≤ 9
  pub order_fits : K.order ≤ 2 ^ K.width

-- a list of codes below q
abbrev pub Codes : ℕ → List ℕ → Type 0
Codes q xs = (k : ℕ) → k < length xs → slice_index xs k < q
