-- The header's bytes. Assumes nothing.
use Rattle.std.proofs.Common.{◌≡◌, ℕ, ◌+◌, ◌-◌, ◌*◌, ◌/◌, ◌%◌, ◌^◌, ◌<◌, ◌≤◌, List, [], ◌∷◌, ◌++◌, sym, refl, ap, ◌∙◌, subst, ap₂, append_assoc, append-nil, arith, pow-add}
use lib.Arith.{digits_lt}
use Rattle.piece.proofs.Octets.{bits_join, bits_cut, octets_byte, octets_none}
use Rattle.piece.specs.Bits.{bits_of, octets}
use Rattle.piece.specs.Pieces.{header, Lawful}
use Rattle.piece.specs.declared.Settings.{Settings}

-- eight bits of two fields make a byte
byte_two : (a b x y : ℕ) (rest : List ℕ) → a + b ≡ 8 → x < 2 ^ a → y < 2 ^ b → octets (bits_of a x ++ (bits_of b y ++ rest)) ≡ (x * 2 ^ b + y) ∷ octets rest
byte_two a b x y rest e hx hy =
    let small : x * 2 ^ b + y < 256 = subst (λ (n : ℕ). x * 2 ^ b + y < 2 ^ n) e (rw (pow-add 2 a b) (digits_lt hx hy)) in
    ap octets (sym (append_assoc (bits_of a x) (bits_of b y) rest) ∙ ap (λ (bits : List ℕ). bits ++ rest) (sym (bits_join a b x y hy) ∙ ap (λ (n : ℕ). bits_of n (x * 2 ^ b + y)) e))
    ∙ octets_byte (x * 2 ^ b + y) rest small

-- a field of w = a + b bits in two parts, where other bits follow
parted : (a b n : ℕ) (rest : List ℕ) → bits_of (a + b) n ++ rest ≡ bits_of a (n / 2 ^ b) ++ (bits_of b (n % 2 ^ b) ++ rest)
parted a b n rest = ap (λ (bits : List ℕ). bits ++ rest) (bits_cut a b n) ∙ append_assoc (bits_of a (n / 2 ^ b)) (bits_of b (n % 2 ^ b)) rest

-- two bytes
two_bytes : (n : ℕ) (rest : List ℕ) → n < 65536 → octets (bits_of 16 n ++ rest) ≡ n / 256 ∷ n % 256 ∷ octets rest
two_bytes n rest h =
    let hi : n / 256 < 256 = omega arith in
    let lo : n % 256 < 256 = omega arith in
    ap octets (parted 8 8 n rest) ∙ octets_byte (n / 256) _ hi ∙ ap (λ (xs : List ℕ). n / 256 ∷ xs) (octets_byte (n % 256) rest lo)

-- four bytes
four_bytes : (n : ℕ) → n < 4294967296 → octets (bits_of 32 n) ≡ n / 16777216 ∷ n / 65536 % 256 ∷ n / 256 % 256 ∷ n % 256 ∷ []
four_bytes n h =
    let hi : n / 65536 < 65536 = omega arith in
    let lo : n % 65536 < 65536 = omega arith in
    let a : n / 65536 / 256 ≡ n / 16777216 = omega arith in
    let c : n % 65536 / 256 ≡ n / 256 % 256 = omega arith in
    let d : n % 65536 % 256 ≡ n % 256 = omega arith in
    ap octets (bits_cut 16 16 n) ∙ two_bytes (n / 65536) (bits_of 16 (n % 65536)) hi
    ∙ ap (λ (xs : List ℕ). n / 65536 / 256 ∷ n / 65536 % 256 ∷ xs)
    (ap octets (sym (append-nil (bits_of 16 (n % 65536)))) ∙ two_bytes (n % 65536) [] lo ∙ ap (λ (xs : List ℕ). n % 65536 / 256 ∷ n % 65536 % 256 ∷ xs) octets_none)
    ∙ ap₂ (λ (x : ℕ) (xs : List ℕ). x ∷ n / 65536 % 256 ∷ xs) a (ap₂ (λ (x y : ℕ). x ∷ y ∷ []) c d)

pub header_bytes : (code : ℕ) (S : Settings) (i len jn st : ℕ) → code < 4 → Lawful S → 1 ≤ i → i ≤ 32 → len ≤ 4096 → jn < 65536 → st < 4294967296
    → octets (header code S i len jn st)
    ≡ (code * 64 + S.rows * 16 + (S.m - 1)) ∷ ((S.n - 1) * 8 + (i - 1) / 4) ∷ ((i - 1) % 4 * 64 + len / 256) ∷ len % 256
    ∷ jn / 256 ∷ jn % 256 ∷ st / 16777216 ∷ st / 65536 % 256 ∷ st / 256 % 256 ∷ st % 256 ∷ []
unfolding header
header_bytes code S i len jn st hc L hi ti hl hj hs =
    let rows : S.rows < 2 ^ 2 = omega (arith, L.kind) in
    let first : code * 4 + S.rows < 2 ^ 4 = omega (arith, L.kind) in
    let m : S.m - 1 < 2 ^ 4 = omega (arith, L.needed) in
    let n : S.n - 1 < 2 ^ 5 = omega (arith, L.made) in
    let up : (i - 1) / 4 < 2 ^ 3 = omega arith in
    let low : (i - 1) % 4 < 2 ^ 2 = omega arith in
    let top : len / 256 < 2 ^ 6 = omega arith in
    let last : len % 256 < 256 = omega arith in
    let b0 : (code * 4 + S.rows) * 16 + (S.m - 1) ≡ code * 64 + S.rows * 16 + (S.m - 1) = omega arith in
    ap octets (sym (append_assoc (bits_of 2 code) (bits_of 2 S.rows) _) ∙ ap (λ (bits : List ℕ). bits ++ (bits_of 4 (S.m - 1) ++ (bits_of 5 (S.n - 1) ++ (bits_of 5 (i - 1) ++ (bits_of 14 len ++ (bits_of 16 jn ++ bits_of 32 st)))))) (sym (bits_join 2 2 code S.rows rows)))
    ∙ byte_two 4 4 (code * 4 + S.rows) (S.m - 1) _ refl first m
    ∙ ap₂ (λ (x : ℕ) (xs : List ℕ). x ∷ xs) b0
    (ap octets (ap (λ (bits : List ℕ). bits_of 5 (S.n - 1) ++ bits) (parted 3 2 (i - 1) (bits_of 14 len ++ (bits_of 16 jn ++ bits_of 32 st))))
    ∙ byte_two 5 3 (S.n - 1) ((i - 1) / 4) _ refl n up
    ∙ ap (λ (xs : List ℕ). ((S.n - 1) * 8 + (i - 1) / 4) ∷ xs)
    (ap octets (ap (λ (bits : List ℕ). bits_of 2 ((i - 1) % 4) ++ bits) (parted 6 8 len (bits_of 16 jn ++ bits_of 32 st)))
    ∙ byte_two 2 6 ((i - 1) % 4) (len / 256) _ refl low top
    ∙ ap (λ (xs : List ℕ). ((i - 1) % 4 * 64 + len / 256) ∷ xs)
    (octets_byte (len % 256) _ last
    ∙ ap (λ (xs : List ℕ). len % 256 ∷ xs)
    (two_bytes jn (bits_of 32 st) hj ∙ ap (λ (xs : List ℕ). jn / 256 ∷ jn % 256 ∷ xs) (four_bytes st hs)))))
