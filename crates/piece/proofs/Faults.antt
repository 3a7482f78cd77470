-- What is wrong with packed bytes, and that it cannot be where nothing is. Assumes nothing.
use Rattle.std.proofs.Common.{◌≡◌, ℕ, zero, suc, ◌+◌, ◌-◌, ◌*◌, ◌/◌, ◌^◌, ◌<◌, ◌≤◌, List, [], ◌∷◌, ◌++◌, length, get_or, drop, replicate, sym, refl, ap, ◌∙◌, subst, inl, inr, arith, below_more, mul-le-mul_right}
use native.Mathlib.Decide.{ℕ_discrete, dec_lt}
use Rattle.std.specs.List.{flat_map}
use Rattle.std.specs.Int.Digits.{AllBelowBase}
use Rattle.std.proofs.lemmas.List.{append-nil, drop_all, get_or-drop, get_or-append_right}
use Rattle.std.proofs.ByRecursion.{All-from_get_or}
use Rattle.piece.specs.Bits.{bits_of, bits_in, worth_after, worth, value_in, bytes_for, BadValue, SpareOne, Fault, Holds}
use Rattle.piece.specs.Pieces.{listed}
use Rattle.piece.specs.Stream.{unread}
use Rattle.piece.specs.declared.bits.Reader.{Reader}
use Rattle.piece.proofs.Octets.{length_bits_of, under_bits_of, bits_zero, worth_bits, length_joined, under_joined, length_listed, get_d_listed, value_eight, value_packed, bits_octets, packed_listed, same_packed, listed_is}
use Rattle.piece.proofs.Unpacking.{ReadTo, read_left, length_unread}

-- the first k values are below q
pub record Passed (q w : ℕ) (bytes : List ℕ) (k : ℕ) : Type 0 where
  pub below : (i : ℕ) → i < k → value_in w bytes i < q

pub passed_more : (q w : ℕ) (bytes : List ℕ) (k v : ℕ) → v ≡ value_in w bytes k → v < q → Passed q w bytes k → Passed q w bytes (k + 1)
passed_more q w bytes k v e h p = record { below = below_more (λ i. value_in w bytes i < q) k p.below (subst (λ (n : ℕ). n < q) e h) }

-- the first bit that is 1
pub record FirstOne (xs : List ℕ) : Type 0 where
  pub at : ℕ
  pub within : at < length xs
  pub one : get_or xs at 0 ≡ 1
  pub before : (i : ℕ) → i < at → get_or xs i 0 ≡ 0

first_one : (xs : List ℕ) → AllBelowBase 2 xs → 0 < worth xs → FirstOne xs
unfolding worth_after
first_one [] u h = absurd (omega arith)
first_one (x ∷ xs) u h =
    let k : x < 2 = u.0 in
    elim (ℕ_discrete x 0) [
      | yes e ↦
          let z : 0 * 2 + x ≡ 0 = omega arith in
          let r = first_one xs u.1 (subst (λ (n : ℕ). 0 < worth_after n xs) z h) in
          record { at = suc r.at; within = omega (arith, r.within); one = r.one; before = later xs x r.at e r.before }
      | no ne ↦ record { at = 0; within = omega arith; one = omega arith; before = λ i l. absurd (omega arith) }
    ] where
      later : (xs : List ℕ) (x n : ℕ) → x ≡ 0 → ((i : ℕ) → i < n → get_or xs i 0 ≡ 0) → (i : ℕ) → i < suc n → get_or (x ∷ xs) i 0 ≡ 0
      later xs x n e f zero h = e
      later xs x n e f (suc i) h = f i (omega arith)

module _ (q w : ℕ) (bytes : List ℕ) (k : ℕ) (reader : Reader) (r : ReadTo w bytes k reader) (f : Passed q w bytes k) where
  -- a value is not below q
  pub bad_value : (n v p : ℕ) → k < n → length bytes ≡ bytes_for w n → v ≡ value_in w bytes k → q ≤ v → p ≡ (8 * length reader.bytes.now - length (unread reader)) / 8 → Fault q w n bytes p
  bad_value n v p h size e l b =
      let m : 8 * length reader.bytes.now - length (unread reader) ≡ k * w = omega (arith, ap length r.same, read_left w bytes k reader r, mul-le-mul_right w h) in
      inl (record { at = k; within = h; large = subst (λ (x : ℕ). q ≤ x) e l; first = f.below; byte = b ∙ ap (λ (x : ℕ). x / 8) m })

  -- all values were read
  module _ (n : ℕ) (e : k ≡ n) (size : length bytes ≡ bytes_for w n) where
    left : length (unread reader) ≡ 8 * length bytes - n * w
    left = read_left w bytes k reader r ∙ ap (λ (x : ℕ). 8 * length bytes - x * w) e

    end : n * w + reader.bits ≡ 8 * length bytes
    end = omega (arith, left, length_unread reader.bytes.now reader.next reader.acc reader.bits reader.within, ap length r.same, reader.few)

    spare : drop (n * w) (bits_in bytes) ≡ bits_of reader.bits reader.acc
    spare =
        let none : drop reader.next reader.bytes.now ≡ []
        = drop_all reader.next reader.bytes.now (omega (arith, left, length_unread reader.bytes.now reader.next reader.acc reader.bits reader.within, ap length r.same, reader.few)) in
        ap (λ (x : ℕ). drop (x * w) (bits_in bytes)) (sym e) ∙ (sym r.left
        ∙ (ap (λ (xs : List ℕ). bits_of reader.bits reader.acc ++ bits_in xs) none ∙ append-nil (bits_of reader.bits reader.acc)))

    spare_at : (i : ℕ) → get_or (bits_in bytes) (n * w + i) 0 ≡ get_or (bits_of reader.bits reader.acc) i 0
    spare_at i = sym (get_or-drop (n * w) (bits_in bytes) i 0) ∙ ap (λ (xs : List ℕ). get_or xs i 0) spare

    passed : (i : ℕ) → i < n → value_in w bytes i < q
    passed i h = f.below i (omega arith)

    pub spare_one : (p : ℕ) → 0 < reader.acc → p ≡ (8 * length reader.bytes.now - length (unread reader)) / 8 → Fault q w n bytes p
    spare_one p h b =
        let s = worth_bits reader.bits reader.acc reader.small in
        let o = first_one (bits_of reader.bits reader.acc) (under_bits_of reader.bits reader.acc) (omega arith) in
        let l = length_bits_of reader.bits reader.acc in
        let m = end in
        inr (record {
          values = passed;
          at = n * w + o.at;
          spare = omega arith;
          within = omega (arith, o.within);
          set = spare_at o.at ∙ o.one;
          first = λ i g k.
              let x : n * w + (i - n * w) ≡ i = omega arith in
              ap (λ (t : ℕ). get_or (bits_in bytes) t 0) (sym x) ∙ (spare_at (i - n * w) ∙ o.before (i - n * w) (omega arith));
          byte = omega (arith, left, ap length r.same, o.within, reader.few);
        })

    pub no_fault : AllBelowBase 256 bytes → reader.acc ≡ 0 → Holds q w bytes (listed n (value_in w bytes))
    no_fault u z =
        let l = length_listed n (value_in w bytes) in
        record {
          codes = λ i h. let g : i < n = omega arith in rw (get_d_listed n (value_in w bytes) i g) (passed i g);
          bytes_are = packed_listed w n reader.bits bytes u reader.few end (spare ∙ (ap (bits_of reader.bits) z ∙ bits_zero reader.bits));
        }

-- a byte is a value, where there are 256
pub no_fault_eight : (n : ℕ) (bytes : List ℕ) → ((i : ℕ) → i < length bytes → get_or bytes i 0 < 256) → length bytes ≡ bytes_for 8 n
    → Holds 256 8 bytes (listed n (value_in 8 bytes))
no_fault_eight n bytes f size =
    let u = All-from_get_or (λ x. x < 256) bytes 0 f in
    let l = length_listed n (value_in 8 bytes) in
    let m = length_joined 8 bytes in
    record {
      codes = λ i h.
          let g : i < n = omega arith in
          let k : i < length bytes = omega arith in
          rw (get_d_listed n (value_in 8 bytes) i g, value_eight bytes i k (f i k)) (f i k);
      bytes_are = packed_listed 8 n 0 bytes u (omega arith) (omega arith) (drop_all (n * 8) (bits_in bytes) (omega arith));
    }

-- bytes that hold values have no fault

get_d_zeros : (p i : ℕ) → get_or {A = ℕ} (replicate p 0) i 0 ≡ 0
get_d_zeros zero i = refl
get_d_zeros (suc p) zero = refl
get_d_zeros (suc p) (suc i) = get_d_zeros p i

module _ (q w : ℕ) (bytes vs : List ℕ) (fits : q ≤ 2 ^ w) (h : Holds q w bytes vs) where
  pub value_held : (k : ℕ) → k < length vs → value_in w bytes k ≡ get_or vs k 0
  value_held k l =
      let f = h.codes k l in
      ap (λ (xs : List ℕ). value_in w xs k) h.bytes_are ∙ value_packed w vs k l (omega arith)

  pub held_listed : vs ≡ listed (length vs) (value_in w bytes)
  held_listed = listed_is vs (length vs) (value_in w bytes) refl (λ k l. sym (value_held k l))

  spare_held : (i : ℕ) → length vs * w ≤ i → get_or (bits_in bytes) i 0 ≡ 0
  spare_held i l =
      let p = bits_octets (flat_map (bits_of w) vs) (under_joined w vs) in
      ap (λ (xs : List ℕ). get_or (bits_in xs) i 0) h.bytes_are
      ∙ (ap (λ (xs : List ℕ). get_or xs i 0) p.same
      ∙ (get_or-append_right (flat_map (bits_of w) vs) (replicate p.pad 0) (length vs * w) i 0 (length_joined w vs) l ∙ get_d_zeros p.pad (i - length vs * w)))

  pub held_no_fault : (p : ℕ) → Fault q w (length vs) bytes p → ⊥
  held_no_fault p (inl b) = omega (arith, b.large, value_held b.at b.within, h.codes b.at b.within)
  held_no_fault p (inr s) = omega (arith, s.set, spare_held s.at s.spare)

-- the values are known by the bytes that hold them
pub same_held : (q w : ℕ) (bytes us vs : List ℕ) → q ≤ 2 ^ w → length us ≡ length vs → Holds q w bytes us → Holds q w bytes vs → us ≡ vs
same_held q w bytes us vs f l g h =
    same_packed w us vs l (λ k i. let x = g.codes k i in omega arith) (λ k i. let x = h.codes k i in omega arith) (sym g.bytes_are ∙ h.bytes_are)

-- there is one first fault

before : (q w n : ℕ) (bytes : List ℕ) (p r : ℕ) (a : BadValue q w n bytes p) (b : BadValue q w n bytes r) → a.at < b.at → ⊥
before q w n bytes p r a b h = omega (arith, a.large, b.first a.at h)

before_spare : (q w n : ℕ) (bytes : List ℕ) (p r : ℕ) (a : SpareOne q w n bytes p) (b : SpareOne q w n bytes r) → a.at < b.at → ⊥
before_spare q w n bytes p r a b h = omega (arith, a.set, b.first a.at a.spare h)

order : (i j : ℕ) → (i < j → ⊥) → (j < i → ⊥) → i ≡ j
order i j f g = elim (dec_lt i j) [
  | yes h ↦ absurd (f h)
  | no h ↦ elim (dec_lt j i) [ yes k ↦ absurd (g k) | no k ↦ omega arith ]
]

pub same_fault : (q w n : ℕ) (bytes : List ℕ) (p r : ℕ) → Fault q w n bytes p → Fault q w n bytes r → p ≡ r
same_fault q w n bytes p r (inl a) (inl b) =
    let e = order a.at b.at (before q w n bytes p r a b) (before q w n bytes r p b a) in
    a.byte ∙ (ap (λ (i : ℕ). i * w / 8) e ∙ sym b.byte)
same_fault q w n bytes p r (inl a) (inr b) = absurd (omega (arith, a.large, b.values a.at a.within))
same_fault q w n bytes p r (inr a) (inl b) = absurd (omega (arith, b.large, a.values b.at b.within))
same_fault q w n bytes p r (inr a) (inr b) =
    let e = order a.at b.at (before_spare q w n bytes p r a b) (before_spare q w n bytes r p b a) in
    a.byte ∙ (ap (λ (i : ℕ). i / 8) e ∙ sym b.byte)

-- the values that are read from bytes that hold values
pub held_read : (q w n : ℕ) (bytes vs : List ℕ) → length vs ≡ n → ((k : ℕ) → k < length vs → get_or vs k 0 ≡ value_in w bytes k)
    → Holds q w bytes (listed n (value_in w bytes)) → Holds q w bytes vs
held_read q w n bytes vs l e h =
    subst (Holds q w bytes) (sym (listed_is vs n (value_in w bytes) l (λ k i. e k (omega arith)))) h
