-- The fields of the ten header bytes. Assumes nothing.
use Rattle.std.proofs.Common.{◌≡◌, ℕ, ◌+◌, ◌*◌, ◌/◌, ◌%◌, ◌<◌, ◌≤◌, List, [], ◌∷◌, ◌++◌, length, get_or, take, drop, sym, refl, ap, ◌∙◌, subst, arith}
use Rattle.piece.specs.Bits.{bits_of, worth_after, worth}
use Rattle.piece.specs.Reading.{code_in, header_in, field_in}
use Rattle.piece.specs.declared.Header.{Header}

-- a byte more
after_byte : (n x : ℕ) → x < 256 → worth_after n (bits_of 8 x) ≡ n * 256 + x
unfolding bits_of worth_after
after_byte n x h = omega arith

-- and two, behind bits that write n
after_two : (n x y : ℕ) → x < 256 → y < 256 → worth_after n (bits_of 8 x ++ bits_of 8 y) ≡ (n * 256 + x) * 256 + y
unfolding bits_of worth_after
after_two n x y hx hy = unfolded
  where
    unfolded : worth_after (worth_after n (bits_of 8 x)) (bits_of 8 y) ≡ (n * 256 + x) * 256 + y
    unfolded = after_byte (worth_after n (bits_of 8 x)) y hy ∙ ap (λ (k : ℕ). k * 256 + y) (after_byte n x hx)

module _ (a b c d e f g h i j : ℕ) (rest : List ℕ)
    (ha : a < 256) (hb : b < 256) (hc : c < 256) (hd : d < 256) (he : e < 256) (hf : f < 256) (hg : g < 256) (hh : h < 256) (hi : i < 256) (hj : j < 256) where
  abbrev bytes : List ℕ
  bytes = a ∷ b ∷ c ∷ d ∷ e ∷ f ∷ g ∷ h ∷ i ∷ j ∷ rest

  pub code_is : code_in bytes ≡ a / 64
  unfolding code_in bits_of worth_after
  code_is = omega arith

  rows_is : field_in 2 2 bytes ≡ a / 16 % 4
  unfolding bits_of worth_after
  rows_is = omega arith

  m_is : field_in 4 4 bytes ≡ a % 16
  unfolding bits_of worth_after
  m_is = omega arith

  n_is : field_in 8 5 bytes ≡ b / 8
  unfolding bits_of worth_after
  n_is = omega arith

  number_is : field_in 13 5 bytes ≡ b % 8 * 4 + c / 64
  unfolding bits_of worth_after
  number_is = omega arith

  length_is : field_in 18 14 bytes ≡ c % 64 * 256 + d
  unfolding bits_of worth_after
  length_is =
      let low : worth (take 6 (drop 2 (bits_of 8 c))) ≡ c % 64 = omega arith in
      after_byte (worth (take 6 (drop 2 (bits_of 8 c)))) d hd ∙ ap (λ (k : ℕ). k * 256 + d) low

  job_is : field_in 32 16 bytes ≡ e * 256 + f
  unfolding bits_of worth_after
  job_is = after_two 0 e f he hf ∙ omega arith

  stamp_is : field_in 48 32 bytes ≡ g * 16777216 + h * 65536 + i * 256 + j
  unfolding bits_of worth_after
  stamp_is = after_two (worth_after 0 (bits_of 8 g ++ bits_of 8 h)) i j hi hj ∙ (let t = after_two 0 g h hg hh in omega arith)

  pub header_is : header_in bytes ≡ record {
    settings = record { rows = a / 16 % 4; m = a % 16 + 1; n = b / 8 + 1 };
    number = b % 8 * 4 + c / 64 + 1;
    length = c % 64 * 256 + d;
    job = e * 256 + f;
    stamp = g * 16777216 + h * 65536 + i * 256 + j;
  }
  unfolding header_in
  header_is = rw (rows_is, m_is, n_is, number_is, length_is, job_is, stamp_is) refl

-- ten bytes and the rest
pub ten_front : (xs : List ℕ) → 10 ≤ length xs
    → xs ≡ get_or xs 0 0 ∷ get_or xs 1 0 ∷ get_or xs 2 0 ∷ get_or xs 3 0 ∷ get_or xs 4 0 ∷ get_or xs 5 0 ∷ get_or xs 6 0 ∷ get_or xs 7 0 ∷ get_or xs 8 0 ∷ get_or xs 9 0 ∷ drop 10 xs
ten_front [] l = absurd (omega arith)
ten_front (a ∷ []) l = absurd (omega arith)
ten_front (a ∷ b ∷ []) l = absurd (omega arith)
ten_front (a ∷ b ∷ c ∷ []) l = absurd (omega arith)
ten_front (a ∷ b ∷ c ∷ d ∷ []) l = absurd (omega arith)
ten_front (a ∷ b ∷ c ∷ d ∷ e ∷ []) l = absurd (omega arith)
ten_front (a ∷ b ∷ c ∷ d ∷ e ∷ f ∷ []) l = absurd (omega arith)
ten_front (a ∷ b ∷ c ∷ d ∷ e ∷ f ∷ g ∷ []) l = absurd (omega arith)
ten_front (a ∷ b ∷ c ∷ d ∷ e ∷ f ∷ g ∷ h ∷ []) l = absurd (omega arith)
ten_front (a ∷ b ∷ c ∷ d ∷ e ∷ f ∷ g ∷ h ∷ i ∷ []) l = absurd (omega arith)
ten_front (a ∷ b ∷ c ∷ d ∷ e ∷ f ∷ g ∷ h ∷ i ∷ j ∷ rest) l = refl

module _ (xs : List ℕ) (l : 10 ≤ length xs) (small : (k : ℕ) → get_or xs k 0 < 256) where
  at : (F : List ℕ → Type 0) → F (get_or xs 0 0 ∷ get_or xs 1 0 ∷ get_or xs 2 0 ∷ get_or xs 3 0 ∷ get_or xs 4 0 ∷ get_or xs 5 0 ∷ get_or xs 6 0 ∷ get_or xs 7 0 ∷ get_or xs 8 0 ∷ get_or xs 9 0 ∷ drop 10 xs) → F xs
  at F p = subst F (sym (ten_front xs l)) p

  -- the fields by the bytes of a list
  pub code_of : code_in xs ≡ get_or xs 0 0 / 64
  code_of = at (λ ys. code_in ys ≡ get_or xs 0 0 / 64)
      (code_is _ _ _ _ _ _ _ _ _ _ (drop 10 xs) (small 0) (small 1) (small 2) (small 3) (small 4) (small 5) (small 6) (small 7) (small 8) (small 9))

  abbrev pub fields : Header
  fields = record {
    settings = record { rows = get_or xs 0 0 / 16 % 4; m = get_or xs 0 0 % 16 + 1; n = get_or xs 1 0 / 8 + 1 };
    number = get_or xs 1 0 % 8 * 4 + get_or xs 2 0 / 64 + 1;
    length = get_or xs 2 0 % 64 * 256 + get_or xs 3 0;
    job = get_or xs 4 0 * 256 + get_or xs 5 0;
    stamp = get_or xs 6 0 * 16777216 + get_or xs 7 0 * 65536 + get_or xs 8 0 * 256 + get_or xs 9 0;
  }

  pub header_of : header_in xs ≡ fields
  header_of = at (λ ys. header_in ys ≡ fields)
      (header_is _ _ _ _ _ _ _ _ _ _ (drop 10 xs) (small 0) (small 1) (small 2) (small 3) (small 4) (small 5) (small 6) (small 7) (small 8) (small 9))
