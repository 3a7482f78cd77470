-- The 256 codes are a field. Assumes nothing.
use Rattle.std.specs.Prelude.{◌≡◌, ℕ, zero, suc, ◌+◌, ◌-◌, ◌*◌, ◌/◌, ◌%◌, ◌^◌, ◌<◌, ◌≤◌, Bool, T, List, [], ◌∷◌, ◌==◌, bit_xor, nat_eq, nat_lt, slice_index_or, refl}
use Rattle.std.proofs.Common.{sym, ap, ap₂, ◌∙◌, mod-lt, arith, eqb→eq, ltb→lt, lit<, lit≤}
use Rattle.std.specs.Int.Bits.{xor_assoc, xor_self, xor_zero_r}
use Rattle.std.proofs.lemmas.Nat.{xor_comm, xor_shr, xor_mod, xor_lt}
use Rattle.field.specs.Laws.{FieldLaws, Bounds}
use Rattle.field.specs.Digits.{Digits}
use Rattle.field.specs.Gf256.{over_bits, xtime, times, inverse, gf256}
use Rattle.field.specs.Search.{found}
use Rattle.field.specs.Every.{every, at}
use Rattle.field.specs.Found.{found_below, found_inverse, rule}
use Rattle.field.specs.Linear.{Linear, zero_at, agree, agree8, compose, xor_swap, scale_bit, double, over_left, over_right}

bit : (a : ℕ) → a % 2 < 2
bit a = mod-lt a (lit< tt)

pub xtime_sums : (a b : ℕ) → xtime (bit_xor a b) ≡ bit_xor (xtime a) (xtime b)
xtime_sums a b =
    ap₂ bit_xor (double a b)
    (ap (λ (x : ℕ). x % 2 * 0x11B) (xor_shr a b 7) ∙ ap (λ (x : ℕ). x * 0x11B) (xor_mod (a / 128) (b / 128) 1)
    ∙ scale_bit 0x11B (a / 128 % 2) (b / 128 % 2) (bit (a / 128)) (bit (b / 128)))
    ∙ xor_swap (a * 2) (b * 2) (a / 128 % 2 * 0x11B) (b / 128 % 2 * 0x11B)

xtime_linear : Linear xtime
xtime_linear = record { sums = xtime_sums }

pub left : (b : ℕ) → Linear (λ a. times a b)
left b = over_left xtime_linear 8 b

pub right : (a : ℕ) → Linear (times a)
right a = over_right xtime 8 a

pub xtime_lt : (a : ℕ) → a < 256 → xtime a < 256
xtime_lt a h = ltb→lt (xtime a) 256 (at (λ k. nat_lt (xtime k) 256) 256 tt a h)

bit_lt : (x a : ℕ) → x < 2 → a < 256 → x * a < 256
bit_lt zero a hx h = omega arith
bit_lt (suc zero) a hx h = omega arith
bit_lt (suc (suc n)) a hx h = absurd (omega arith)

steps_lt : (k a b : ℕ) → a < 256 → over_bits xtime k a b < 256
unfolding over_bits
steps_lt zero a b h = lit< tt
steps_lt (suc k) a b h = xor_lt 8 (b % 2 * a) (over_bits xtime k (xtime a) (b / 2)) (bit_lt (b % 2) a (bit b) h) (steps_lt k (xtime a) (b / 2) (xtime_lt a h))

one_right : (a : ℕ) → a < 256 → times a 1 ≡ a
unfolding over_bits
one_right a h = agree8 {g = λ x. x} (left 1) (record { sums = λ x y. refl }) tt a h

-- the product is commutative: 64 tests
comm_test : ℕ → ℕ → Bool
unfolding over_bits
comm_test i j = times (2 ^ i) (2 ^ j) == times (2 ^ j) (2 ^ i)

comm_all : T (every (λ i. every (comm_test i) 8) 8)
unfolding over_bits comm_test
comm_all = tt

comm_at : (i j : ℕ) → i < 8 → j < 8 → times (2 ^ i) (2 ^ j) ≡ times (2 ^ j) (2 ^ i)
unfolding comm_test
comm_at i j hi hj =
    eqb→eq (times (2 ^ i) (2 ^ j)) (times (2 ^ j) (2 ^ i)) (at (comm_test i) 8 (at (λ n. every (comm_test n) 8) 8 comm_all i hi) j hj)

times_comm : (a b : ℕ) → a < 256 → b < 256 → times a b ≡ times b a
times_comm a b ha hb =
    agree (left b) (right b) 8 (λ i hi. agree (right (2 ^ i)) (left (2 ^ i)) 8 (λ j hj. comm_at i j hi hj) b hb) a ha

-- and associative: 512 tests
assoc_test : ℕ → ℕ → ℕ → Bool
unfolding over_bits
assoc_test i j k = times (times (2 ^ i) (2 ^ j)) (2 ^ k) == times (2 ^ i) (times (2 ^ j) (2 ^ k))

assoc_all : T (every (λ i. every (λ j. every (assoc_test i j) 8) 8) 8)
unfolding over_bits assoc_test
assoc_all = tt

assoc_at : (i j k : ℕ) → i < 8 → j < 8 → k < 8 → times (times (2 ^ i) (2 ^ j)) (2 ^ k) ≡ times (2 ^ i) (times (2 ^ j) (2 ^ k))
unfolding assoc_test
assoc_at i j k hi hj hk =
    eqb→eq (times (times (2 ^ i) (2 ^ j)) (2 ^ k)) (times (2 ^ i) (times (2 ^ j) (2 ^ k)))
    (at (assoc_test i j) 8 (at (λ m. every (assoc_test i m) 8) 8 (at (λ n. every (λ m. every (assoc_test n m) 8) 8) 8 assoc_all i hi) j hj) k hk)

times_assoc : (a b c : ℕ) → a < 256 → b < 256 → c < 256 → times (times a b) c ≡ times a (times b c)
times_assoc a b c ha hb hc =
    agree (compose (left c) (left b)) (left (times b c)) 8
    (λ i hi. agree (compose (left c) (right (2 ^ i))) (compose (right (2 ^ i)) (left c)) 8
    (λ j hj. agree (right (times (2 ^ i) (2 ^ j))) (compose (right (2 ^ i)) (right (2 ^ j))) 8
    (λ k hk. assoc_at i j k hi hj hk) c hc) b hb) a ha

-- the inverse of each code, and 0 at 0
unfoldable pub table : List ℕ
table = 0 ∷ 1 ∷ 141 ∷ 246 ∷ 203 ∷ 82 ∷ 123 ∷ 209 ∷ 232 ∷ 79 ∷ 41 ∷ 192 ∷ 176 ∷ 225 ∷ 229 ∷ 199 ∷ 116 ∷ 180 ∷ 170 ∷ 75 ∷ 153 ∷ 43 ∷ 96 ∷ 95 ∷ 88 ∷ 63 ∷ 253 ∷ 204 ∷ 255 ∷ 64 ∷ 238 ∷ 178 ∷ 58 ∷ 110 ∷ 90 ∷ 241 ∷ 85 ∷ 77 ∷ 168 ∷ 201 ∷ 193 ∷ 10 ∷ 152 ∷ 21 ∷ 48 ∷ 68 ∷ 162 ∷ 194 ∷ 44 ∷ 69 ∷ 146 ∷ 108 ∷ 243 ∷ 57 ∷ 102 ∷ 66 ∷ 242 ∷ 53 ∷ 32 ∷ 111 ∷ 119 ∷ 187 ∷ 89 ∷ 25 ∷ 29 ∷ 254 ∷ 55 ∷ 103 ∷ 45 ∷ 49 ∷ 245 ∷ 105 ∷ 167 ∷ 100 ∷ 171 ∷ 19 ∷ 84 ∷ 37 ∷ 233 ∷ 9 ∷ 237 ∷ 92 ∷ 5 ∷ 202 ∷ 76 ∷ 36 ∷ 135 ∷ 191 ∷ 24 ∷ 62 ∷ 34 ∷ 240 ∷ 81 ∷ 236 ∷ 97 ∷ 23 ∷ 22 ∷ 94 ∷ 175 ∷ 211 ∷ 73 ∷ 166 ∷ 54 ∷ 67 ∷ 244 ∷ 71 ∷ 145 ∷ 223 ∷ 51 ∷ 147 ∷ 33 ∷ 59 ∷ 121 ∷ 183 ∷ 151 ∷ 133 ∷ 16 ∷ 181 ∷ 186 ∷ 60 ∷ 182 ∷ 112 ∷ 208 ∷ 6 ∷ 161 ∷ 250 ∷ 129 ∷ 130 ∷ 131 ∷ 126 ∷ 127 ∷ 128 ∷ 150 ∷ 115 ∷ 190 ∷ 86 ∷ 155 ∷ 158 ∷ 149 ∷ 217 ∷ 247 ∷ 2 ∷ 185 ∷ 164 ∷ 222 ∷ 106 ∷ 50 ∷ 109 ∷ 216 ∷ 138 ∷ 132 ∷ 114 ∷ 42 ∷ 20 ∷ 159 ∷ 136 ∷ 249 ∷ 220 ∷ 137 ∷ 154 ∷ 251 ∷ 124 ∷ 46 ∷ 195 ∷ 143 ∷ 184 ∷ 101 ∷ 72 ∷ 38 ∷ 200 ∷ 18 ∷ 74 ∷ 206 ∷ 231 ∷ 210 ∷ 98 ∷ 12 ∷ 224 ∷ 31 ∷ 239 ∷ 17 ∷ 117 ∷ 120 ∷ 113 ∷ 165 ∷ 142 ∷ 118 ∷ 61 ∷ 189 ∷ 188 ∷ 134 ∷ 87 ∷ 11 ∷ 40 ∷ 47 ∷ 163 ∷ 218 ∷ 212 ∷ 228 ∷ 15 ∷ 169 ∷ 39 ∷ 83 ∷ 4 ∷ 27 ∷ 252 ∷ 172 ∷ 230 ∷ 122 ∷ 7 ∷ 174 ∷ 99 ∷ 197 ∷ 219 ∷ 226 ∷ 234 ∷ 148 ∷ 139 ∷ 196 ∷ 213 ∷ 157 ∷ 248 ∷ 144 ∷ 107 ∷ 177 ∷ 13 ∷ 214 ∷ 235 ∷ 198 ∷ 14 ∷ 207 ∷ 173 ∷ 8 ∷ 78 ∷ 215 ∷ 227 ∷ 93 ∷ 80 ∷ 30 ∷ 179 ∷ 91 ∷ 35 ∷ 56 ∷ 52 ∷ 104 ∷ 70 ∷ 3 ∷ 140 ∷ 221 ∷ 156 ∷ 125 ∷ 160 ∷ 205 ∷ 26 ∷ 65 ∷ 28 ∷ []

-- the table's rule, at all of its entries
pub all_rule : T (every (rule times 256 table) 256)
unfolding over_bits table
all_rule = tt

-- 0 has no inverse, and 0 in its place
pub none : slice_index_or table 0 0 ≡ gf256.inv 0
unfolding over_bits table found inverse
none = refl

pub laws256 : FieldLaws gf256
unfolding inverse
laws256 = record {
  one_below = lit< tt;
  add_below = λ a b. xor_lt 8 a b;
  mul_below = λ a b ha _. steps_lt 8 a b ha;
  neg_below = λ a h. h;
  inv_below = λ a _. found_below (λ b. nat_eq (times a b) 1) 255;
  add_assoc = λ a b c _ _ _. xor_assoc a b c;
  add_comm = λ a b _ _. xor_comm a b;
  add-zero = λ a _. xor_zero_r a;
  add_neg = λ a _. xor_self a;
  mul_assoc = times_assoc;
  mul_comm = times_comm;
  mul-one = one_right;
  mul_inv = λ a h n. found_inverse times 256 table a n (at (rule times 256 table) 256 all_rule a h);
  mul-add = λ a b c _ _ _. (right a).sums b c;
}

-- one turn of the loop that multiplies
pub turn : (i r x y t s : ℕ) → i < 8 → bit_xor r (over_bits xtime (8 - i) x y) ≡ t → s ≡ bit_xor r (y % 2 * x) → bit_xor s (over_bits xtime (8 - (i + 1)) (xtime x) (y / 2)) ≡ t
unfolding over_bits
turn i r x y t s h inv e =
    let less : 8 - i ≡ suc (8 - (i + 1)) = omega arith in
    ap (λ (n : ℕ). bit_xor n (over_bits xtime (8 - (i + 1)) (xtime x) (y / 2))) e
    ∙ xor_assoc r (y % 2 * x) (over_bits xtime (8 - (i + 1)) (xtime x) (y / 2))
    ∙ sym (ap (λ (n : ℕ). bit_xor r (over_bits xtime n x y)) less)
    ∙ inv

pub end : (i r x y t : ℕ) → 8 ≤ i → bit_xor r (over_bits xtime (8 - i) x y) ≡ t → r ≡ t
unfolding over_bits
end i r x y t h inv =
    let none : 8 - i ≡ 0 = omega arith in
    sym (xor_zero_r r) ∙ sym (ap (λ (n : ℕ). bit_xor r (over_bits xtime n x y)) none) ∙ inv

pub zero_times : (b : ℕ) → times 0 b ≡ 0
zero_times b = zero_at (left b)

pub times_zero : (a : ℕ) → times a 0 ≡ 0
times_zero a = zero_at (right a)

pub bounds256 : Bounds gf256
bounds256 = record {
  code_most = lit< tt;
  order_least = lit≤ tt;
  order_most = lit≤ tt;
  width_least = lit≤ tt;
  width_most = lit≤ tt;
  order_fits = lit≤ tt;
}

pub digits256 : Digits gf256
unfolding over_bits
digits256 = record {
  two_below = lit< tt;
  width_most = lit≤ tt;
  order_fits = lit≤ tt;
  binary = λ a h. eqb→eq _ _ (at (λ k. nat_eq (bit_xor (k % 2) (times 2 (k / 2))) k) 256 tt a h);
}

-- the element coded 2 is x
pub two_times : (a : ℕ) → a < 256 → xtime a ≡ times 2 a
unfolding over_bits
two_times a h = agree8 xtime_linear (right 2) tt a h
