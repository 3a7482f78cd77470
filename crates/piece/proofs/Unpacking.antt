-- The steps of unpacking. Assumes nothing.
use Rattle.std.proofs.Common.{◌≡◌, ℕ, ◌+◌, ◌-◌, ◌*◌, ◌/◌, ◌%◌, ◌^◌, ◌<◌, ◌≤◌, ◌≢◌, List, ◌∷◌, ◌++◌, length, get_or, take, drop, set, sym, ap, ◌∙◌, append_assoc, mul-le-mul_right, add-mul, arith, below_more, length-append, length-drop}
use Rattle.std.proofs.lemmas.List.{take_at, drop_at, drop_more, drop-drop, get_or-set_same, get_or-set_other}
use lib.Bits.{bit_and, bit_or}
use Rattle.piece.specs.Bits.{bits_of, bits_in, worth, value_in}
use Rattle.piece.specs.Stream.{unread}
use Rattle.piece.specs.declared.bits.Reader.{Reader}
use Rattle.piece.proofs.Octets.{length_bits_of, length_joined, bits_join, bits_cut, worth_bits}
use Rattle.piece.proofs.Packing.{join_small, below_pow, joined, masked}

-- as many bits are not yet read
pub length_unread : (bytes : List ℕ) (next acc bits : ℕ) → next ≤ length bytes → length (bits_of bits acc ++ bits_in (drop next bytes)) + 8 * next ≡ bits + 8 * length bytes
length_unread bytes next acc bits h =
    let l = length-drop next bytes in
    let a = length-append (bits_of bits acc) (bits_in (drop next bytes)) in
    omega (arith, length_joined 8 (drop next bytes), length_bits_of bits acc)

-- bytes were read up to here, where `all` was not yet read
pub record Filling (bytes all : List ℕ) (next acc bits : ℕ) : Type 0 where
  pub small : acc < 2 ^ bits
  pub within : next ≤ length bytes
  pub taken : bits ≤ 8 * next
  pub same : bits_of bits acc ++ bits_in (drop next bytes) ≡ all

pub fill_step : (bytes all : List ℕ) (next acc bits : ℕ) → bits < 16 → next < length bytes → get_or bytes next 0 < 2 ^ 8 → Filling bytes all next acc bits
    → Filling bytes all (next + 1) (bit_or (acc * 2 ^ 8 % 2 ^ 32) (get_or bytes next 0)) (bits + 8)
fill_step bytes all next acc bits m h f a =
    let x = get_or bytes next 0 in
    let d : drop next bytes ≡ x ∷ drop (next + 1) bytes = drop_more bytes next 0 h in
    let rest = drop (next + 1) bytes in
    let e = joined acc 8 x (below_pow acc bits 16 a.small (omega arith)) (omega arith) f in
    record {
      small = rw e (join_small acc bits 8 x a.small f);
      within = omega arith;
      taken = omega (arith, a.taken);
      same = ap (λ (n : ℕ). bits_of (bits + 8) n ++ bits_in rest) e
          ∙ (ap (λ (xs : List ℕ). xs ++ bits_in rest) (bits_join bits 8 acc x f)
          ∙ (append_assoc (bits_of bits acc) (bits_of 8 x) (bits_in rest)
          ∙ (ap (λ (xs : List ℕ). bits_of bits acc ++ bits_in xs) (sym d) ∙ a.same)));
    }

-- the first w bits are a value
pub read_same : (bytes : List ℕ) (w acc bits next : ℕ) → w ≤ bits → bits < 32
    → bits_of bits acc ++ bits_in (drop next bytes)
    ≡ bits_of w (acc / 2 ^ (bits - w)) ++ (bits_of (bits - w) (bit_and acc (1 * 2 ^ (bits - w) % 2 ^ 32 - 1)) ++ bits_in (drop next bytes))
read_same bytes w acc bits next h m =
    let e : bits ≡ w + (bits - w) = omega arith in
    let b = bits - w in
    let rest = bits_in (drop next bytes) in
    ap (λ (n : ℕ). bits_of n acc ++ rest) e
    ∙ (ap (λ (xs : List ℕ). xs ++ rest) (bits_cut w b acc)
    ∙ (append_assoc (bits_of w (acc / 2 ^ b)) (bits_of b (acc % 2 ^ b)) rest
    ∙ ap (λ (n : ℕ). bits_of w (acc / 2 ^ b) ++ (bits_of b n ++ rest)) (sym (masked acc b (omega arith)))))

-- the first k values were read
pub record ReadTo (w : ℕ) (bytes : List ℕ) (k : ℕ) (reader : Reader) : Type 0 where
  pub same : reader.bytes.now ≡ bytes
  pub left : unread reader ≡ drop (k * w) (bits_in bytes)

module _ (w : ℕ) (bytes : List ℕ) (k : ℕ) (reader : Reader) (r : ReadTo w bytes k reader) where
  -- as many bits are left
  pub read_left : length (unread reader) ≡ 8 * length bytes - k * w
  read_left = ap length r.left ∙ (length-drop (k * w) (bits_in bytes) ∙ omega (arith, length_joined 8 bytes))

  pub read_room : (n : ℕ) → k < n → n * w ≤ 8 * length bytes → w ≤ length (unread reader)
  read_room n h l = omega (arith, read_left, add-mul k 1 w, mul-le-mul_right w h)

  module _ (v : ℕ) (reader' : Reader) (e : unread reader ≡ bits_of w v ++ unread reader') where
    pub read_value : v < 2 ^ w → v ≡ value_in w bytes k
    read_value f =
        sym (ap (λ (xs : List ℕ). worth (take w xs)) (sym r.left ∙ e) ∙ (ap worth (take_at (bits_of w v) (unread reader') w (length_bits_of w v)) ∙ worth_bits w v f))

    pub read_more : reader'.bytes.now ≡ reader.bytes.now → ReadTo w bytes (k + 1) reader'
    read_more s =
        let n : k * w + w ≡ (k + 1) * w = omega (arith, add-mul k 1 w) in
        record {
          same = s ∙ r.same;
          left = sym (drop_at (bits_of w v) (unread reader') w (length_bits_of w v))
              ∙ (ap (drop w) (sym e ∙ r.left) ∙ (drop-drop w (k * w) (bits_in bytes) ∙ ap (λ (m : ℕ). drop m (bits_in bytes)) n));
        }

-- and written
pub record UnpackedTo (w : ℕ) (bytes : List ℕ) (k : ℕ) (values : List ℕ) : Type 0 where
  pub done : (i : ℕ) → i < k → get_or values i 0 ≡ value_in w bytes i

pub unpack_more : (w : ℕ) (bytes : List ℕ) (k : ℕ) (values : List ℕ) (v : ℕ) → k < length values → v ≡ value_in w bytes k → UnpackedTo w bytes k values
    → UnpackedTo w bytes (k + 1) (set values k v)
unpack_more w bytes k values v h e u = record {
  done = below_more (λ i. get_or (set values k v) i 0 ≡ value_in w bytes i) k
      (λ i l. let ne : i ≢ k = omega arith in get_or-set_other values k i v 0 ne ∙ u.done i l)
      (get_or-set_same values k v 0 h ∙ e);
}
