-- The integers modulo 257 are a field. Assumes nothing.
use Rattle.std.specs.Prelude.{◌≡◌, ℕ, ◌+◌, ◌-◌, ◌*◌, ◌%◌, ◌<◌, T, List, [], ◌∷◌, nat_eq, slice_index_or, refl}
use Rattle.std.proofs.Common.{sym, ap, ◌∙◌, mod-lt, mod-eq_of_lt, add_assoc, add_comm, add-zero, mul_assoc, mul_comm, mul-one, mul-add, arith, lit<, lit≤}
use Rattle.std.proofs.Math.Nat.{mod-add-mod, add-mod-mod, add-mod}
use Rattle.field.specs.Laws.{FieldLaws, Bounds}
use Rattle.field.specs.Digits.{Digits}
use Rattle.field.specs.Mod257.{times, inverse, mod257}
use Rattle.field.specs.Search.{found}
use Rattle.field.specs.Every.{every, at}
use Rattle.field.specs.Found.{found_below, found_inverse, rule}
use Rattle.field.specs.ModN.{mul_mod_l, mul_mod_r}

pos : 0 < 257
pos = lit< tt

-- the inverse of each code, and 0 at 0
unfoldable pub table : List ℕ
table = 0 ∷ 1 ∷ 129 ∷ 86 ∷ 193 ∷ 103 ∷ 43 ∷ 147 ∷ 225 ∷ 200 ∷ 180 ∷ 187 ∷ 150 ∷ 178 ∷ 202 ∷ 120 ∷ 241 ∷ 121 ∷ 100 ∷ 230 ∷ 90 ∷ 49 ∷ 222 ∷ 190 ∷ 75 ∷ 72 ∷ 89 ∷ 238 ∷ 101 ∷ 195 ∷ 60 ∷ 199 ∷ 249 ∷ 148 ∷ 189 ∷ 235 ∷ 50 ∷ 132 ∷ 115 ∷ 145 ∷ 45 ∷ 163 ∷ 153 ∷ 6 ∷ 111 ∷ 40 ∷ 95 ∷ 175 ∷ 166 ∷ 21 ∷ 36 ∷ 126 ∷ 173 ∷ 97 ∷ 119 ∷ 243 ∷ 179 ∷ 248 ∷ 226 ∷ 61 ∷ 30 ∷ 59 ∷ 228 ∷ 102 ∷ 253 ∷ 87 ∷ 74 ∷ 234 ∷ 223 ∷ 149 ∷ 246 ∷ 181 ∷ 25 ∷ 169 ∷ 66 ∷ 24 ∷ 186 ∷ 247 ∷ 201 ∷ 244 ∷ 151 ∷ 165 ∷ 210 ∷ 96 ∷ 205 ∷ 127 ∷ 3 ∷ 65 ∷ 184 ∷ 26 ∷ 20 ∷ 209 ∷ 176 ∷ 152 ∷ 216 ∷ 46 ∷ 83 ∷ 53 ∷ 139 ∷ 135 ∷ 18 ∷ 28 ∷ 63 ∷ 5 ∷ 215 ∷ 164 ∷ 177 ∷ 245 ∷ 188 ∷ 224 ∷ 250 ∷ 44 ∷ 218 ∷ 116 ∷ 124 ∷ 38 ∷ 113 ∷ 134 ∷ 159 ∷ 54 ∷ 15 ∷ 17 ∷ 158 ∷ 140 ∷ 114 ∷ 220 ∷ 51 ∷ 85 ∷ 255 ∷ 2 ∷ 172 ∷ 206 ∷ 37 ∷ 143 ∷ 117 ∷ 99 ∷ 240 ∷ 242 ∷ 203 ∷ 98 ∷ 123 ∷ 144 ∷ 219 ∷ 133 ∷ 141 ∷ 39 ∷ 213 ∷ 7 ∷ 33 ∷ 69 ∷ 12 ∷ 80 ∷ 93 ∷ 42 ∷ 252 ∷ 194 ∷ 229 ∷ 239 ∷ 122 ∷ 118 ∷ 204 ∷ 174 ∷ 211 ∷ 41 ∷ 105 ∷ 81 ∷ 48 ∷ 237 ∷ 231 ∷ 73 ∷ 192 ∷ 254 ∷ 130 ∷ 52 ∷ 161 ∷ 47 ∷ 92 ∷ 106 ∷ 13 ∷ 56 ∷ 10 ∷ 71 ∷ 233 ∷ 191 ∷ 88 ∷ 232 ∷ 76 ∷ 11 ∷ 108 ∷ 34 ∷ 23 ∷ 183 ∷ 170 ∷ 4 ∷ 155 ∷ 29 ∷ 198 ∷ 227 ∷ 196 ∷ 31 ∷ 9 ∷ 78 ∷ 14 ∷ 138 ∷ 160 ∷ 84 ∷ 131 ∷ 221 ∷ 236 ∷ 91 ∷ 82 ∷ 162 ∷ 217 ∷ 146 ∷ 251 ∷ 104 ∷ 94 ∷ 212 ∷ 112 ∷ 142 ∷ 125 ∷ 207 ∷ 22 ∷ 68 ∷ 109 ∷ 8 ∷ 58 ∷ 197 ∷ 62 ∷ 156 ∷ 19 ∷ 168 ∷ 185 ∷ 182 ∷ 67 ∷ 35 ∷ 208 ∷ 167 ∷ 27 ∷ 157 ∷ 136 ∷ 16 ∷ 137 ∷ 55 ∷ 79 ∷ 107 ∷ 70 ∷ 77 ∷ 57 ∷ 32 ∷ 110 ∷ 214 ∷ 154 ∷ 64 ∷ 171 ∷ 128 ∷ 256 ∷ []

-- the table's rule, at all of its entries
pub all_rule : T (every (rule times 257 table) 257)
unfolding table
all_rule = tt

-- 0 has no inverse, and 0 in its place
pub none : slice_index_or table 0 0 ≡ mod257.inv 0
unfolding table found inverse
none = refl

pub laws257 : FieldLaws mod257
unfolding inverse
laws257 = record {
  one_below = lit< tt;
  add_below = λ a b _ _. mod-lt (a + b) pos;
  mul_below = λ a b _ _. mod-lt (a * b) pos;
  neg_below = λ a _. mod-lt (257 - a) pos;
  inv_below = λ a _. found_below (λ b. nat_eq (times a b) 1) 256;
  add_assoc = λ a b c _ _ _. mod-add-mod (a + b) 257 c ∙ ap (λ (x : ℕ). x % 257) (add_assoc a b c) ∙ sym (add-mod-mod a (b + c) 257);
  add_comm = λ a b _ _. ap (λ (x : ℕ). x % 257) (add_comm a b);
  add-zero = λ a h. ap (λ (x : ℕ). x % 257) (add-zero a) ∙ mod-eq_of_lt h;
  add_neg = λ a h. omega arith;
  mul_assoc = λ a b c _ _ _. mul_mod_l (a * b) c 257 ∙ ap (λ (x : ℕ). x % 257) (mul_assoc a b c) ∙ sym (mul_mod_r a (b * c) 257);
  mul_comm = λ a b _ _. ap (λ (x : ℕ). x % 257) (mul_comm a b);
  mul-one = λ a h. ap (λ (x : ℕ). x % 257) (mul-one a) ∙ mod-eq_of_lt h;
  mul_inv = λ a h n. found_inverse times 257 table a n (at (rule times 257 table) 257 all_rule a h);
  mul-add = λ a b c _ _ _. mul_mod_r a (b + c) 257 ∙ ap (λ (x : ℕ). x % 257) (mul-add a b c) ∙ add-mod (a * b) (a * c) 257;
}

pub bounds257 : Bounds mod257
bounds257 = record {
  code_most = lit< tt;
  order_least = lit≤ tt;
  order_most = lit≤ tt;
  width_least = lit≤ tt;
  width_most = lit≤ tt;
  order_fits = lit≤ tt;
}

pub digits257 : Digits mod257
digits257 = record {
  two_below = lit< tt;
  width_most = lit≤ tt;
  order_fits = lit≤ tt;
  binary = λ a h. omega arith;
}
