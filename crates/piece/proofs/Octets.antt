-- Numbers in bits and bits in bytes, as lists. Assumes nothing.
use Rattle.std.proofs.Common.{◌≡◌, ℕ, zero, suc, ◌+◌, ◌-◌, ◌*◌, ◌/◌, ◌%◌, ◌^◌, ◌<◌, ◌≤◌, List, [], ◌∷◌, ◌++◌, length, get_or, take, drop, replicate, sym, refl, ap, ◌∙◌, ap₂, append_assoc, add-suc, mod-lt, mul_assoc, mul_comm, add-mul, arith, take-add, pow_pos, pow_mono}
use native.Mathlib.Nat.{pow-succ'}
use native.Mathlib.Decide.{ℕ_discrete}
use Rattle.std.specs.List.{flat_map}
use Rattle.std.specs.Int.Digits.{AllBelowBase, number_from_digits_after}
use Rattle.std.proofs.lemmas.Int.Digits.{number_lt}
use Rattle.std.proofs.lemmas.List.{append-nil, length-append, length_push, length-take, length-take-le, length-drop, take_at, drop_at, drop-drop, take-append-drop, ext_get_or, get_or_push, get_or_append_left}
use Rattle.std.proofs.ByRecursion.{All-append, All-push, All-take, All-drop}
use Rattle.std.proofs.lemmas.Grind.{flat_map-append}
use Rattle.std.proofs.lemmas.Nat.{shr_split}
use Rattle.piece.specs.Bits.{bits_of, octet, octets, packed, bits_in, worth_after, worth, value_in, bytes_for, Padded}
use Rattle.piece.specs.Pieces.{listed}

-- bits of a number

pub length_bits_of : (w n : ℕ) → length (bits_of w n) ≡ w
unfolding bits_of
length_bits_of zero n = refl
length_bits_of (suc w) n = length_push (bits_of w (n / 2)) (n % 2) ∙ omega (arith, length_bits_of w (n / 2))

pub under_bits_of : (w n : ℕ) → AllBelowBase 2 (bits_of w n)
unfolding bits_of
under_bits_of zero n = tt
under_bits_of (suc w) n = All-push (λ d. d < 2) (bits_of w (n / 2)) (n % 2) (under_bits_of w (n / 2)) (omega arith)

pub bits_none : (n : ℕ) → bits_of 0 n ≡ []
unfolding bits_of
bits_none n = refl

-- the bits of x and behind them b bits of y
pub bits_join : (a b x y : ℕ) → y < 2 ^ b → bits_of (a + b) (x * 2 ^ b + y) ≡ bits_of a x ++ bits_of b y
unfolding bits_of
bits_join a zero x y h =
    let e : a + zero ≡ a = omega arith in
    let f : x * 2 ^ zero + y ≡ x = omega arith in
    ap₂ bits_of e f ∙ sym (append-nil (bits_of a x))
bits_join a (suc b) x y h =
    let p = pow-succ' 2 b in
    let q : x * 2 ^ suc b ≡ 2 * (x * 2 ^ b) = omega (arith, ap (λ t. x * t) p, mul_assoc x 2 (2 ^ b), mul_comm x 2, mul_assoc 2 x (2 ^ b), ap (λ t. t * 2 ^ b) (mul_comm x 2)) in
    let e : a + suc b ≡ suc (a + b) = add-suc a b in
    let hi : (x * 2 ^ suc b + y) / 2 ≡ x * 2 ^ b + y / 2 = omega arith in
    let lo : (x * 2 ^ suc b + y) % 2 ≡ y % 2 = omega arith in
    let i : bits_of (a + b) (x * 2 ^ b + y / 2) ≡ bits_of a x ++ bits_of b (y / 2) = bits_join a b x (y / 2) (omega arith) in
    ap (λ t. bits_of t (x * 2 ^ suc b + y)) e
    ∙ (ap₂ (λ (m d : ℕ). bits_of (a + b) m ++ (d ∷ [])) hi lo
    ∙ (ap (λ (xs : List ℕ). xs ++ (y % 2 ∷ [])) i ∙ append_assoc (bits_of a x) (bits_of b (y / 2)) (y % 2 ∷ [])))

-- the last b bits cut off
pub bits_cut : (a b n : ℕ) → bits_of (a + b) n ≡ bits_of a (n / 2 ^ b) ++ bits_of b (n % 2 ^ b)
bits_cut a b n = ap (bits_of (a + b)) (sym (shr_split n b)) ∙ bits_join a b (n / 2 ^ b) (n % 2 ^ b) (mod-lt n (pow_pos b))

pub bits_zero : (w : ℕ) → bits_of w 0 ≡ replicate w 0
unfolding bits_of
bits_zero zero = refl
bits_zero (suc w) = let i : bits_of (1 + w) (0 * 2 ^ w + 0) ≡ bits_of 1 0 ++ bits_of w 0 = bits_join 1 w 0 0 (pow_pos w) in
    let e : 1 + w ≡ suc w = omega arith in
    let z : 0 * 2 ^ w + 0 ≡ 0 = omega arith in
    sym (ap₂ bits_of e z) ∙ (i ∙ ap (λ (xs : List ℕ). 0 ∷ xs) (bits_zero w))

-- the number that bits write

pub worth_append : (n : ℕ) (xs ys : List ℕ) → worth_after n (xs ++ ys) ≡ worth_after (worth_after n xs) ys
unfolding worth_after
worth_append n [] ys = refl
worth_append n (x ∷ xs) ys = worth_append (n * 2 + x) xs ys

worth_bits_after : (w m n : ℕ) → n < 2 ^ w → worth_after m (bits_of w n) ≡ m * 2 ^ w + n
unfolding bits_of worth_after
worth_bits_after zero m n h = omega arith
worth_bits_after (suc w) m n h =
    let p = pow-succ' 2 w in
    let i = worth_bits_after w m (n / 2) (omega arith) in
    worth_append m (bits_of w (n / 2)) (n % 2 ∷ []) ∙ omega (arith, i, p, ap (λ t. m * t) p, mul_comm 2 (2 ^ w), sym (mul_assoc m (2 ^ w) 2), ap (λ t. m * t) (mul_comm 2 (2 ^ w)))

pub worth_bits : (w n : ℕ) → n < 2 ^ w → worth (bits_of w n) ≡ n
worth_bits w n h = worth_bits_after w 0 n h ∙ omega arith

bits_worth_after : (w n : ℕ) (xs : List ℕ) → AllBelowBase 2 xs → bits_of (w + length xs) (worth_after n xs) ≡ bits_of w n ++ xs
unfolding bits_of worth_after
bits_worth_after w n [] u = let e : w + 0 ≡ w = omega arith in ap (λ t. bits_of t n) e ∙ sym (append-nil (bits_of w n))
bits_worth_after w n (x ∷ xs) u =
    let k : x < 2 = u.0 in
    let e : w + suc (length xs) ≡ suc w + length xs = omega arith in
    let hi : (n * 2 + x) / 2 ≡ n = omega arith in
    let lo : (n * 2 + x) % 2 ≡ x = omega arith in
    ap (λ t. bits_of t (worth_after (n * 2 + x) xs)) e
    ∙ (bits_worth_after (suc w) (n * 2 + x) xs u.1
    ∙ (ap₂ (λ (m d : ℕ). (bits_of w m ++ (d ∷ [])) ++ xs) hi lo ∙ append_assoc (bits_of w n) (x ∷ []) xs))

pub bits_worth : (w : ℕ) (xs : List ℕ) → length xs ≡ w → AllBelowBase 2 xs → bits_of w (worth xs) ≡ xs
unfolding bits_of
bits_worth w xs l u =
    let e : 0 + length xs ≡ w = omega arith in
    ap (λ t. bits_of t (worth xs)) (sym e) ∙ bits_worth_after 0 0 xs u

-- many values

pub length_joined : (w : ℕ) (xs : List ℕ) → length (flat_map (bits_of w) xs) ≡ length xs * w
length_joined w [] = omega arith
length_joined w (x ∷ xs) = length-append (bits_of w x) (flat_map (bits_of w) xs) ∙ omega (arith, length_bits_of w x, length_joined w xs, add-mul (length xs) 1 w)

pub under_joined : (w : ℕ) (xs : List ℕ) → AllBelowBase 2 (flat_map (bits_of w) xs)
under_joined w [] = tt
under_joined w (x ∷ xs) = All-append (λ d. d < 2) (bits_of w x) (flat_map (bits_of w) xs) (under_bits_of w x) (under_joined w xs)

pub joined_push : (w : ℕ) (xs : List ℕ) (x : ℕ) → flat_map (bits_of w) (xs ++ (x ∷ [])) ≡ flat_map (bits_of w) xs ++ bits_of w x
joined_push w xs x = flat_map-append (bits_of w) xs (x ∷ []) ∙ ap (λ (t : List ℕ). flat_map (bits_of w) xs ++ t) (append-nil (bits_of w x))

-- value k stands at the bit k * w
pub bits_at : (w : ℕ) (vs tail : List ℕ) (k : ℕ) → k < length vs → take w (drop (k * w) (flat_map (bits_of w) vs ++ tail)) ≡ bits_of w (get_or vs k 0)
bits_at w [] tail k h = absurd (omega arith)
bits_at w (v ∷ vs) tail zero h =
    let e : zero * w ≡ 0 = omega arith in
    let l = length_bits_of w v in
    ap (λ (t : ℕ). take w (drop t ((bits_of w v ++ flat_map (bits_of w) vs) ++ tail))) e
    ∙ (ap (take w) (append_assoc (bits_of w v) (flat_map (bits_of w) vs) tail) ∙ take_at (bits_of w v) (flat_map (bits_of w) vs ++ tail) w l)
bits_at w (v ∷ vs) tail (suc k) h =
    let e : suc k * w ≡ w + k * w = omega (arith, add-mul k 1 w) in
    let l = length_bits_of w v in
    let all = (bits_of w v ++ flat_map (bits_of w) vs) ++ tail in
    let d : drop w all ≡ flat_map (bits_of w) vs ++ tail = ap (drop w) (append_assoc (bits_of w v) (flat_map (bits_of w) vs) tail) ∙ drop_at (bits_of w v) (flat_map (bits_of w) vs ++ tail) w l in
    ap (λ (t : ℕ). take w (drop t all)) e
    ∙ (ap (take w) (sym (drop-drop (k * w) w all) ∙ ap (drop (k * w)) d) ∙ bits_at w vs tail k (omega arith))

-- bits cut into values, and the values' bits joined
pub joined_listed : (w m : ℕ) (bits : List ℕ) → AllBelowBase 2 bits → m * w ≤ length bits
    → flat_map (bits_of w) (listed m (λ k. worth (take w (drop (k * w) bits)))) ≡ take (m * w) bits
unfolding listed
joined_listed w zero bits u h = let e : zero * w ≡ 0 = omega arith in ap (λ (t : ℕ). take t bits) (sym e)
joined_listed w (suc m) bits u h =
    let e : suc m * w ≡ m * w + w = omega (arith, add-mul m 1 w) in
    let f : ℕ → ℕ = λ k. worth (take w (drop (k * w) bits)) in
    let r = drop (m * w) bits in
    let l : w ≤ length r = simp length-drop (omega arith) in
    let v : bits_of w (f m) ≡ take w r = bits_worth w (take w r) (length-take-le w r l) (All-take (λ d. d < 2) w r (All-drop (λ d. d < 2) (m * w) bits u)) in
    joined_push w (listed m f) (f m)
    ∙ (ap₂ (λ (a b : List ℕ). a ++ b) (joined_listed w m bits u (omega arith)) v
    ∙ (sym (take-add (m * w) w bits) ∙ ap (λ (t : ℕ). take t bits) (sym e)))

pub length_listed : (m : ℕ) (f : ℕ → ℕ) → length (listed m f) ≡ m
unfolding listed
length_listed zero f = refl
length_listed (suc m) f = length_push (listed m f) (f m) ∙ omega (arith, length_listed m f)

-- bits in bytes

pub length_octets : (xs : List ℕ) → length (octets xs) ≡ (length xs + 7) / 8
unfolding octets
length_octets [] = refl
length_octets (a ∷ []) = refl
length_octets (a ∷ b ∷ []) = refl
length_octets (a ∷ b ∷ c ∷ []) = refl
length_octets (a ∷ b ∷ c ∷ d ∷ []) = refl
length_octets (a ∷ b ∷ c ∷ d ∷ e ∷ []) = refl
length_octets (a ∷ b ∷ c ∷ d ∷ e ∷ f ∷ []) = refl
length_octets (a ∷ b ∷ c ∷ d ∷ e ∷ f ∷ g ∷ []) = refl
length_octets (a ∷ b ∷ c ∷ d ∷ e ∷ f ∷ g ∷ h ∷ rest) = omega (arith, length_octets rest)

pub length_packed : (w : ℕ) (vs : List ℕ) → length (packed w vs) ≡ bytes_for w (length vs)
length_packed w vs = length_octets (flat_map (bits_of w) vs) ∙ ap (λ n. (n + 7) / 8) (length_joined w vs)

pub octets_byte : (x : ℕ) (rest : List ℕ) → x < 256 → octets (bits_of 8 x ++ rest) ≡ x ∷ octets rest
unfolding bits_of octets
octets_byte x rest h = ap (λ (t : ℕ). t ∷ octets rest) (omega arith)

-- whole bytes first
pub octets_bytes : (bytes rest : List ℕ) → AllBelowBase 256 bytes → octets (bits_in bytes ++ rest) ≡ bytes ++ octets rest
octets_bytes [] rest u = refl
octets_bytes (x ∷ bytes) rest u =
    ap octets (append_assoc (bits_of 8 x) (bits_in bytes) rest)
    ∙ (octets_byte x (bits_in bytes ++ rest) u.0 ∙ ap (λ (t : List ℕ). x ∷ t) (octets_bytes bytes rest u.1))

pub octets_none : octets [] ≡ []
unfolding octets
octets_none = refl

pub octets_bits_in : (bytes : List ℕ) → AllBelowBase 256 bytes → octets (bits_in bytes) ≡ bytes
octets_bits_in bytes u =
    ap octets (sym (append-nil (bits_in bytes))) ∙ (octets_bytes bytes [] u ∙ (ap (λ (t : List ℕ). bytes ++ t) octets_none ∙ append-nil bytes))

-- bits 0 up to a whole byte change nothing
pub octets_pad : (xs : List ℕ) (p m : ℕ) → p < 8 → length xs + p ≡ 8 * m → octets (xs ++ replicate p 0) ≡ octets xs
unfolding octets
octets_pad [] p m h s = let e : p ≡ 0 = omega arith in ap (λ (t : ℕ). octets (replicate t 0)) e
octets_pad (a ∷ []) p m h s = let e : p ≡ 7 = omega arith in ap (λ (t : ℕ). octets (a ∷ replicate t 0)) e
octets_pad (a ∷ b ∷ []) p m h s = let e : p ≡ 6 = omega arith in ap (λ (t : ℕ). octets (a ∷ b ∷ replicate t 0)) e
octets_pad (a ∷ b ∷ c ∷ []) p m h s = let e : p ≡ 5 = omega arith in ap (λ (t : ℕ). octets (a ∷ b ∷ c ∷ replicate t 0)) e
octets_pad (a ∷ b ∷ c ∷ d ∷ []) p m h s = let e : p ≡ 4 = omega arith in ap (λ (t : ℕ). octets (a ∷ b ∷ c ∷ d ∷ replicate t 0)) e
octets_pad (a ∷ b ∷ c ∷ d ∷ e ∷ []) p m h s = let i : p ≡ 3 = omega arith in ap (λ (t : ℕ). octets (a ∷ b ∷ c ∷ d ∷ e ∷ replicate t 0)) i
octets_pad (a ∷ b ∷ c ∷ d ∷ e ∷ f ∷ []) p m h s = let i : p ≡ 2 = omega arith in ap (λ (t : ℕ). octets (a ∷ b ∷ c ∷ d ∷ e ∷ f ∷ replicate t 0)) i
octets_pad (a ∷ b ∷ c ∷ d ∷ e ∷ f ∷ g ∷ []) p m h s = let i : p ≡ 1 = omega arith in ap (λ (t : ℕ). octets (a ∷ b ∷ c ∷ d ∷ e ∷ f ∷ g ∷ replicate t 0)) i
octets_pad (a ∷ b ∷ c ∷ d ∷ e ∷ f ∷ g ∷ h ∷ rest) p m l s =
    ap (λ (t : List ℕ). octet a b c d e f g h ∷ t) (octets_pad rest p (m - 1) l (omega arith))

bits_octet : (a b c d e f g h : ℕ) → AllBelowBase 2 (a ∷ b ∷ c ∷ d ∷ e ∷ f ∷ g ∷ h ∷ []) → bits_of 8 (octet a b c d e f g h) ≡ a ∷ b ∷ c ∷ d ∷ e ∷ f ∷ g ∷ h ∷ []
unfolding worth_after
bits_octet a b c d e f g h u = ap (bits_of 8) (omega arith) ∙ bits_worth 8 (a ∷ b ∷ c ∷ d ∷ e ∷ f ∷ g ∷ h ∷ []) refl u

under_zeros : (p : ℕ) → AllBelowBase 2 (replicate p 0)
under_zeros zero = tt
under_zeros (suc p) = (omega arith, under_zeros p)

short : (xs : List ℕ) (p n : ℕ) → AllBelowBase 2 xs → p < 8 → (AllBelowBase 2 (xs ++ replicate p 0) → bits_of 8 n ≡ xs ++ replicate p 0) → Padded xs (bits_of 8 n ++ [])
short xs p n u h v =
    record { pad = p; short = h; same = append-nil (bits_of 8 n) ∙ v (All-append (λ x. x < 2) xs (replicate p 0) u (under_zeros p)) }

pub bits_octets : (xs : List ℕ) → AllBelowBase 2 xs → Padded xs (bits_in (octets xs))
unfolding octets
bits_octets [] u = record { pad = 0; short = omega arith; same = refl }
bits_octets (a ∷ []) u = short (a ∷ []) 7 (octet a 0 0 0 0 0 0 0) u (omega arith) (bits_octet a 0 0 0 0 0 0 0)
bits_octets (a ∷ b ∷ []) u = short (a ∷ b ∷ []) 6 (octet a b 0 0 0 0 0 0) u (omega arith) (bits_octet a b 0 0 0 0 0 0)
bits_octets (a ∷ b ∷ c ∷ []) u = short (a ∷ b ∷ c ∷ []) 5 (octet a b c 0 0 0 0 0) u (omega arith) (bits_octet a b c 0 0 0 0 0)
bits_octets (a ∷ b ∷ c ∷ d ∷ []) u = short (a ∷ b ∷ c ∷ d ∷ []) 4 (octet a b c d 0 0 0 0) u (omega arith) (bits_octet a b c d 0 0 0 0)
bits_octets (a ∷ b ∷ c ∷ d ∷ e ∷ []) u = short (a ∷ b ∷ c ∷ d ∷ e ∷ []) 3 (octet a b c d e 0 0 0) u (omega arith) (bits_octet a b c d e 0 0 0)
bits_octets (a ∷ b ∷ c ∷ d ∷ e ∷ f ∷ []) u = short (a ∷ b ∷ c ∷ d ∷ e ∷ f ∷ []) 2 (octet a b c d e f 0 0) u (omega arith) (bits_octet a b c d e f 0 0)
bits_octets (a ∷ b ∷ c ∷ d ∷ e ∷ f ∷ g ∷ []) u = short (a ∷ b ∷ c ∷ d ∷ e ∷ f ∷ g ∷ []) 1 (octet a b c d e f g 0) u (omega arith) (bits_octet a b c d e f g 0)
bits_octets (a ∷ b ∷ c ∷ d ∷ e ∷ f ∷ g ∷ h ∷ rest) u =
    let i = bits_octets rest (All-drop (λ x. x < 2) 8 (a ∷ b ∷ c ∷ d ∷ e ∷ f ∷ g ∷ h ∷ rest) u) in
    let v = bits_octet a b c d e f g h (All-take (λ x. x < 2) 8 (a ∷ b ∷ c ∷ d ∷ e ∷ f ∷ g ∷ h ∷ rest) u) in
    record { pad = i.pad; short = i.short; same = ap₂ (λ (x y : List ℕ). x ++ y) v i.same }

-- what is packed is read back
pub value_packed : (w : ℕ) (vs : List ℕ) (k : ℕ) → k < length vs → get_or vs k 0 < 2 ^ w → value_in w (packed w vs) k ≡ get_or vs k 0
value_packed w vs k h f =
    let p = bits_octets (flat_map (bits_of w) vs) (under_joined w vs) in
    ap (λ (t : List ℕ). worth (take w (drop (k * w) t))) p.same
    ∙ (ap worth (bits_at w vs (replicate p.pad 0) k h) ∙ worth_bits w (get_or vs k 0) f)

-- the values are known by their bytes
pub same_packed : (w : ℕ) (us vs : List ℕ) → length us ≡ length vs
    → ((k : ℕ) → k < length us → get_or us k 0 < 2 ^ w) → ((k : ℕ) → k < length vs → get_or vs k 0 < 2 ^ w)
    → packed w us ≡ packed w vs → us ≡ vs
same_packed w us vs l f g e = ext_get_or 0 us vs l (λ k h.
    let i : k < length vs = omega arith in
    sym (value_packed w us k h (f k h)) ∙ (ap (λ (t : List ℕ). value_in w t k) e ∙ value_packed w vs k i (g k i)))

-- values of 8 bits are the bytes
pub value_eight : (bytes : List ℕ) (k : ℕ) → k < length bytes → get_or bytes k 0 < 256 → value_in 8 bytes k ≡ get_or bytes k 0
value_eight bytes k h f =
    ap (λ (t : List ℕ). worth (take 8 (drop (k * 8) t))) (sym (append-nil (bits_in bytes)))
    ∙ (ap worth (bits_at 8 bytes [] k h) ∙ worth_bits 8 (get_or bytes k 0) f)

pub get_d_listed : (m : ℕ) (f : ℕ → ℕ) (k : ℕ) → k < m → get_or (listed m f) k 0 ≡ f k
unfolding listed
get_d_listed zero f k h = absurd (omega arith)
get_d_listed (suc m) f k h =
    let l = length_listed m f in
    elim (ℕ_discrete k m) [
      | yes e ↦ ap (λ (n : ℕ). get_or (listed m f ++ (f m ∷ [])) n 0) e ∙ (get_or_push (listed m f) (f m) 0 m l ∙ ap f (sym e))
      | no ne ↦ let i : k < m = omega arith in
          let j : k < length (listed m f) = omega arith in
          get_or_append_left (listed m f) (f m ∷ []) 0 k j ∙ get_d_listed m f k i
    ]

-- bytes that hold n values and then fewer than 8 bits 0 are the values packed
pub packed_listed : (w n pad : ℕ) (bytes : List ℕ) → AllBelowBase 256 bytes → pad < 8 → n * w + pad ≡ 8 * length bytes → drop (n * w) (bits_in bytes) ≡ replicate pad 0
    → bytes ≡ packed w (listed n (value_in w bytes))
packed_listed w n pad bytes u h s d =
    let vs = listed n (value_in w bytes) in
    let l : length (bits_in bytes) ≡ length bytes * 8 = length_joined 8 bytes in
    let j : flat_map (bits_of w) vs ≡ take (n * w) (bits_in bytes) = joined_listed w n (bits_in bytes) (under_joined 8 bytes) (omega arith) in
    let m : length (flat_map (bits_of w) vs) ≡ n * w = length_joined w vs ∙ ap (λ (t : ℕ). t * w) (length_listed n (value_in w bytes)) in
    sym (octets_bits_in bytes u)
    ∙ (ap octets (sym (take-append-drop (n * w) (bits_in bytes)) ∙ ap₂ (λ (a b : List ℕ). a ++ b) (sym j) d)
    ∙ octets_pad (flat_map (bits_of w) vs) pad (length bytes) h (omega arith))

-- bits that fill whole bytes go into bytes of their own
pub octets_append : (m : ℕ) (xs ys : List ℕ) → length xs ≡ 8 * m → octets (xs ++ ys) ≡ octets xs ++ octets ys
unfolding octets
octets_append m [] ys s = refl
octets_append m (a ∷ []) ys s = absurd (omega arith)
octets_append m (a ∷ b ∷ []) ys s = absurd (omega arith)
octets_append m (a ∷ b ∷ c ∷ []) ys s = absurd (omega arith)
octets_append m (a ∷ b ∷ c ∷ d ∷ []) ys s = absurd (omega arith)
octets_append m (a ∷ b ∷ c ∷ d ∷ e ∷ []) ys s = absurd (omega arith)
octets_append m (a ∷ b ∷ c ∷ d ∷ e ∷ f ∷ []) ys s = absurd (omega arith)
octets_append m (a ∷ b ∷ c ∷ d ∷ e ∷ f ∷ g ∷ []) ys s = absurd (omega arith)
octets_append m (a ∷ b ∷ c ∷ d ∷ e ∷ f ∷ g ∷ h ∷ rest) ys s =
    ap (λ (t : List ℕ). octet a b c d e f g h ∷ t) (octets_append (m - 1) rest ys (omega arith))

-- a byte is below 256
pub under_octets : (xs : List ℕ) → AllBelowBase 2 xs → AllBelowBase 256 (octets xs)
unfolding octets
under_octets [] u = tt
under_octets (a ∷ []) u = (omega (arith, u.0), tt)
under_octets (a ∷ b ∷ []) u = (omega (arith, u.0, u.1.0), tt)
under_octets (a ∷ b ∷ c ∷ []) u = (omega (arith, u.0, u.1.0, u.1.1.0), tt)
under_octets (a ∷ b ∷ c ∷ d ∷ []) u = (omega (arith, u.0, u.1.0, u.1.1.0, u.1.1.1.0), tt)
under_octets (a ∷ b ∷ c ∷ d ∷ e ∷ []) u = (omega (arith, u.0, u.1.0, u.1.1.0, u.1.1.1.0, u.1.1.1.1.0), tt)
under_octets (a ∷ b ∷ c ∷ d ∷ e ∷ f ∷ []) u = (omega (arith, u.0, u.1.0, u.1.1.0, u.1.1.1.0, u.1.1.1.1.0, u.1.1.1.1.1.0), tt)
under_octets (a ∷ b ∷ c ∷ d ∷ e ∷ f ∷ g ∷ []) u = (omega (arith, u.0, u.1.0, u.1.1.0, u.1.1.1.0, u.1.1.1.1.0, u.1.1.1.1.1.0, u.1.1.1.1.1.1.0), tt)
under_octets (a ∷ b ∷ c ∷ d ∷ e ∷ f ∷ g ∷ h ∷ rest) u = (omega (arith, u.0, u.1.0, u.1.1.0, u.1.1.1.0, u.1.1.1.1.0, u.1.1.1.1.1.0, u.1.1.1.1.1.1.0, u.1.1.1.1.1.1.1.0), under_octets rest u.1.1.1.1.1.1.1.1)

-- bits write a number below the power of two
worth_number : (n : ℕ) (xs : List ℕ) → worth_after n xs ≡ number_from_digits_after 2 n xs
unfolding worth_after
worth_number n [] = refl
worth_number n (x ∷ xs) = worth_number (n * 2 + x) xs

pub value_below : (w : ℕ) (bytes : List ℕ) (k : ℕ) → value_in w bytes k < 2 ^ w
value_below w bytes k =
    let r = drop (k * w) (bits_in bytes) in
    let u : AllBelowBase 2 (take w r) = All-take (λ d. d < 2) w r (All-drop (λ d. d < 2) (k * w) (bits_in bytes) (under_joined 8 bytes)) in
    let l : length (take w r) ≤ w = simp length-take (omega arith) in
    omega (arith, worth_number 0 (take w r), number_lt 2 (take w r) u, pow_mono l)

-- a list of which each element is known
pub listed_is : (xs : List ℕ) (n : ℕ) (f : ℕ → ℕ) → length xs ≡ n → ((k : ℕ) → k < n → get_or xs k 0 ≡ f k) → xs ≡ listed n f
listed_is xs n f l e =
    let m = length_listed n f in
    ext_get_or 0 xs (listed n f) (omega arith) (λ k h. let i : k < n = omega arith in e k i ∙ sym (get_d_listed n f k i))
