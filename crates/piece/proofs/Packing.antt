-- The steps of packing. Assumes nothing.
use Rattle.std.proofs.Common.{◌≡◌, ℕ, ◌+◌, ◌-◌, ◌*◌, ◌/◌, ◌%◌, ◌^◌, ◌<◌, ◌≤◌, List, [], ◌∷◌, ◌++◌, length, get_or, take, drop, replicate, set, sym, refl, ap, ◌∙◌, subst, append_assoc, mul-le-mul_right, mod-lt, add-mul, arith, pow_pos, pow_mono, pow-add, length-append, length-set}
use lib.Arith.{digits_lt}
use lib.Bits.{bit_and, bit_or}
use Rattle.std.specs.List.{flat_map}
use Rattle.std.specs.Int.Digits.{AllBelowBase}
use Rattle.std.proofs.lemmas.List.{append-nil, length-replicate, length-take-le, take_more, take_more_set, take_all, drop-set-lt, drop-drop}
use Rattle.std.proofs.ByRecursion.{All-from_get_or}
use Rattle.std.proofs.lemmas.Nat.{shr_below, shl_whole, or_shifted, one_shl, and_mask}
use Rattle.piece.specs.Bits.{bits_of, octets, packed, bits_in, bytes_for, Padded}
use Rattle.piece.specs.Stream.{written}
use Rattle.piece.specs.declared.bits.Writer.{Writer}
use Rattle.piece.proofs.Octets.{length_bits_of, length_joined, bits_none, bits_zero, bits_join, bits_cut, joined_push, octets_bits_in, octets_pad}

pub drop_further : (xs ys : List ℕ) (i j : ℕ) → i ≤ j → drop i xs ≡ drop i ys → drop j xs ≡ drop j ys
drop_further xs ys i j h e =
    let f : i + (j - i) ≡ j = omega arith in
    let g : drop (i + (j - i)) xs ≡ drop (i + (j - i)) ys = sym (drop-drop (j - i) i xs) ∙ (ap (drop (j - i)) e ∙ drop-drop (j - i) i ys) in
    subst (λ (t : ℕ). drop t xs ≡ drop t ys) f g

-- the first bits, as many as n
pub top_bits : (n acc bits : ℕ) → n ≤ bits → acc < 2 ^ bits → acc / 2 ^ (bits - n) < 2 ^ n
top_bits n acc bits h s = let g : bits ≡ n + (bits - n) = omega arith in shr_below acc n (bits - n) (subst (λ (t : ℕ). acc < 2 ^ t) g s)

pub below_pow : (acc bits n : ℕ) → acc < 2 ^ bits → bits ≤ n → acc < 2 ^ n
below_pow acc bits n s h = omega (arith, pow_mono h)

-- as many bits were written
pub length_written : (w : Writer) → length (written w) ≡ 8 * w.next + w.bits
length_written w =
    let l : length (take w.next w.out.now) ≡ w.next = length-take-le w.next w.out.now (omega (arith, w.room)) in
    length-append (bits_in (take w.next w.out.now)) (bits_of w.bits w.acc) ∙ omega (arith, length_joined 8 (take w.next w.out.now), length_bits_of w.bits w.acc)

-- bits and behind them those of v
pub joined : (acc w v : ℕ) → acc < 2 ^ 16 → w ≤ 16 → v < 2 ^ w → bit_or (acc * 2 ^ w % 2 ^ 32) v ≡ acc * 2 ^ w + v
joined acc w v s h f = ap (λ n. bit_or n v) (shl_whole acc 16 w 32 s (omega arith)) ∙ or_shifted acc w v f

-- the last bits
pub masked : (acc bits : ℕ) → bits < 32 → bit_and acc (1 * 2 ^ bits % 2 ^ 32 - 1) ≡ acc % 2 ^ bits
masked acc bits h = ap (λ n. bit_and acc (n - 1)) (one_shl bits 32 h) ∙ and_mask acc bits

-- the bytes that are whole were written up to here, of as many bits as `all` has
pub record Flushed (start all : List ℕ) (count : ℕ) (out : List ℕ) (next acc bits : ℕ) : Type 0 where
  pub small : acc < 2 ^ bits
  pub few : bits < 24
  pub place : 8 * next + bits ≡ count
  pub size : length out ≡ length start
  pub same : bits_in (take next out) ++ bits_of bits acc ≡ all
  pub rest : drop next out ≡ drop next start

flush_byte : (start all : List ℕ) (count : ℕ) (out : List ℕ) (next acc bits : ℕ) → 8 ≤ bits → next < length out → Flushed start all count out next acc bits
    → Flushed start all count (set out next (acc / 2 ^ (bits - 8))) (next + 1) (acc % 2 ^ (bits - 8)) (bits - 8)
flush_byte start all count out j acc bits h l f =
    let b = bits - 8 in
    let x = acc / 2 ^ b in
    let y = acc % 2 ^ b in
    let t : take (j + 1) (set out j x) ≡ take j out ++ (x ∷ []) = take_more_set out j x l in
    let s : 8 + b ≡ bits = omega arith in
    record {
      small = mod-lt acc (pow_pos b);
      few = omega (arith, f.few);
      place = omega (arith, f.place);
      size = length-set out j x ∙ f.size;
      same = ap (λ (xs : List ℕ). bits_in xs ++ bits_of b y) t
          ∙ (ap (λ (xs : List ℕ). xs ++ bits_of b y) (joined_push 8 (take j out) x)
          ∙ (append_assoc (bits_in (take j out)) (bits_of 8 x) (bits_of b y)
          ∙ (ap (λ (xs : List ℕ). bits_in (take j out) ++ xs) (sym (bits_cut 8 b acc) ∙ ap (λ (n : ℕ). bits_of n acc) s)
          ∙ f.same)));
      rest = drop-set-lt (j + 1) out j x (omega arith) ∙ drop_further out start j (j + 1) (omega arith) f.rest;
    }

pub flush_step : (start all : List ℕ) (count : ℕ) (out : List ℕ) (next acc bits : ℕ) → 8 ≤ bits → next < length out → Flushed start all count out next acc bits
    → Flushed start all count (set out next (acc / 2 ^ (bits - 8))) (next + 1) (bit_and acc (1 * 2 ^ (bits - 8) % 2 ^ 32 - 1)) (bits - 8)
flush_step start all count out j acc bits h l f =
    let m = masked acc (bits - 8) (omega (arith, f.few)) in
    subst (λ (n : ℕ). Flushed start all count (set out j (acc / 2 ^ (bits - 8))) (j + 1) n (bits - 8)) (sym m) (flush_byte start all count out j acc bits h l f)

-- a value goes behind the bits
pub join_small : (acc bits w v : ℕ) → acc < 2 ^ bits → v < 2 ^ w → acc * 2 ^ w + v < 2 ^ (bits + w)
join_small acc bits w v h f = rw (pow-add 2 bits w) (digits_lt h f)

pub flush_none : (writer : Writer) (w v : ℕ) → w ≤ 16 → v < 2 ^ w
    → Flushed writer.out.now (written writer ++ bits_of w v) (8 * writer.next + writer.bits + w) writer.out.now writer.next (bit_or (writer.acc * 2 ^ w % 2 ^ 32) v) (writer.bits + w)
flush_none writer w v l h =
    let front = bits_in (take writer.next writer.out.now) in
    let e = joined writer.acc w v (below_pow writer.acc writer.bits 16 writer.small (omega (arith, writer.few))) l h in
    record {
      small = rw e (join_small writer.acc writer.bits w v writer.small h);
      few = omega (arith, writer.few);
      place = omega arith;
      size = refl;
      same = ap (λ (n : ℕ). front ++ bits_of (writer.bits + w) n) e
          ∙ (ap (λ (xs : List ℕ). front ++ xs) (bits_join writer.bits w writer.acc v h) ∙ sym (append_assoc front (bits_of writer.bits writer.acc) (bits_of w v)));
      rest = refl;
    }

-- the end, where bits 0 fill the last byte
module _ (w w' : Writer) (e : written w' ≡ written w ++ bits_of ((8 - w.bits) % 8) 0) where
  finish_length : 8 * w'.next + w'.bits ≡ 8 * w.next + w.bits + (8 - w.bits) % 8
  finish_length =
      omega (arith, length_written w, length_written w', ap length e, length-append (written w) (bits_of ((8 - w.bits) % 8) 0), length_bits_of ((8 - w.bits) % 8) 0)

  pub finish_many : w'.next ≡ (length (written w) + 7) / 8
  finish_many = omega (arith, finish_length, length_written w, w.few, w'.few)

  pub finish_front : Padded (written w) (bits_in (take w'.next w'.out.now))
  finish_front =
      let front = bits_in (take w'.next w'.out.now) in
      let z : w'.bits ≡ 0 = omega (arith, finish_length, w.few, w'.few) in
      let none : bits_of w'.bits w'.acc ≡ [] = ap (λ (n : ℕ). bits_of n w'.acc) z ∙ bits_none w'.acc in
      record {
        pad = (8 - w.bits) % 8;
        short = omega arith;
        same = sym (ap (λ (xs : List ℕ). front ++ xs) none ∙ append-nil front) ∙ (e ∙ ap (λ (xs : List ℕ). written w ++ xs) (bits_zero ((8 - w.bits) % 8)));
      }

-- the bytes are known by the bits that they hold
octets_padded : (xs bytes : List ℕ) → AllBelowBase 256 bytes → Padded xs (bits_in bytes) → bytes ≡ octets xs
octets_padded xs bytes u f =
    let l : length xs + f.pad ≡ 8 * length bytes
    = omega (arith, ap length f.same, length-append xs (replicate f.pad 0), length-replicate {A = ℕ} f.pad 0, length_joined 8 bytes) in
    sym (octets_bits_in bytes u) ∙ (ap octets f.same ∙ octets_pad xs f.pad (length bytes) f.short l)

-- the first k values were written
pub record PackedTo (w : ℕ) (values start : List ℕ) (k : ℕ) (writer : Writer) : Type 0 where
  pub size : length writer.out.now ≡ length start
  pub same : written writer ≡ flat_map (bits_of w) (take k values)
  pub rest : drop writer.next writer.out.now ≡ drop writer.next start

module _ (w : ℕ) (values start : List ℕ) (k : ℕ) (writer : Writer) (p : PackedTo w values start k writer) (h : k < length values) where
  pub pack_room : bytes_for w (length values) ≤ length start → length (written writer) + w ≤ 8 * length writer.out.now
  pack_room r =
      let l : length (take k values) ≡ k = length-take-le k values (omega arith) in
      omega (arith, ap length p.same, length_joined w (take k values), ap (λ (n : ℕ). n * w) l, p.size, add-mul k 1 w, mul-le-mul_right w h)

  pub pack_more : (writer' : Writer) → length writer'.out.now ≡ length writer.out.now → written writer' ≡ written writer ++ bits_of w (get_or values k 0)
      → drop writer'.next writer'.out.now ≡ drop writer'.next writer.out.now → PackedTo w values start (k + 1) writer'
  pack_more writer' l f r =
      let more : writer.next ≤ writer'.next
      = omega (arith, length_written writer, length_written writer', ap length f ∙ length-append (written writer) (bits_of w (get_or values k 0)), writer'.few) in
      record {
        size = l ∙ p.size;
        same = f ∙ (ap (λ (xs : List ℕ). xs ++ bits_of w (get_or values k 0)) p.same
            ∙ (sym (joined_push w (take k values) (get_or values k 0)) ∙ ap (flat_map (bits_of w)) (sym (take_more values k 0 h))));
        rest = r ∙ drop_further writer.out.now start writer.next writer'.next more p.rest;
      }

-- the first k bytes are the first k values
pub record Copied (values start : List ℕ) (k : ℕ) (out : List ℕ) : Type 0 where
  pub front : take k out ≡ take k values
  pub rest : drop k out ≡ drop k start

-- values of 8 bits are the bytes
pub copied_all : (w : ℕ) (values start : List ℕ) (k : ℕ) (out : List ℕ) → w ≡ 8 → ((i : ℕ) → i < length values → get_or values i 0 < 2 ^ w) → k ≡ length values → Copied values start k out
    → take (length values) out ≡ packed w values
copied_all w values start k out e f n c =
    let b : (i : ℕ) → i < length values → get_or values i 0 < 256 = λ i h. subst (λ (x : ℕ). get_or values i 0 < 2 ^ x) e (f i h) in
    ap (λ (i : ℕ). take i out) (sym n)
    ∙ (c.front ∙ (take_all k values (omega arith)
    ∙ (sym (octets_bits_in values (All-from_get_or (λ x. x < 256) values 0 b)) ∙ ap (λ (x : ℕ). packed x values) (sym e))))

-- all values were written
module _ (w : ℕ) (values start : List ℕ) (k : ℕ) (writer : Writer) (p : PackedTo w values start k writer) (e : k ≡ length values) where
  pub pack_many : (length (written writer) + 7) / 8 ≡ bytes_for w (length values)
  pack_many =
      let l = ap length (take_all k values (omega arith)) in
      omega (arith, ap length p.same, length_joined w (take k values), ap (λ (n : ℕ). n * w) l)

  -- the bytes are those of the values
  pub pack_front : (bytes : List ℕ) → AllBelowBase 256 bytes → Padded (written writer) (bits_in bytes) → bytes ≡ packed w values
  pack_front bytes u f = octets_padded (written writer) bytes u f ∙ (ap octets p.same ∙ ap (packed w) (take_all k values (omega arith)))

-- no byte before the next is behind the end
pub pack_further : (w : Writer) → w.next ≤ (length (written w) + 7) / 8
pack_further w = omega (arith, length_written w)
