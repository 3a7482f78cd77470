-- Numbers in bits, the most significant first, and bits in bytes. Assumes nothing.
use Rattle.std.specs.Prelude.{◌≡◌, ℕ, zero, suc, ◌+◌, ◌*◌, ◌/◌, ◌%◌, ◌<◌, ◌≤◌, ◌⊎◌, List, [], ◌∷◌, ◌++◌, length, take, drop, replicate, slice_index, slice_index_or}
use Rattle.std.specs.List.{flat_map}

-- the last w bits of a number
unfoldable pub bits_of : ℕ → ℕ → List ℕ
bits_of zero n = []
bits_of (suc w) n = bits_of w (n / 2) ++ (n % 2 ∷ [])

-- the byte that eight bits write
abbrev pub octet : ℕ → ℕ → ℕ → ℕ → ℕ → ℕ → ℕ → ℕ → ℕ
octet a b c d e f g h = ((((((a * 2 + b) * 2 + c) * 2 + d) * 2 + e) * 2 + f) * 2 + g) * 2 + h

-- bits in bytes, the last byte filled up with bits 0
unfoldable pub octets : List ℕ → List ℕ
octets [] = []
octets (a ∷ []) = octet a 0 0 0 0 0 0 0 ∷ []
octets (a ∷ b ∷ []) = octet a b 0 0 0 0 0 0 ∷ []
octets (a ∷ b ∷ c ∷ []) = octet a b c 0 0 0 0 0 ∷ []
octets (a ∷ b ∷ c ∷ d ∷ []) = octet a b c d 0 0 0 0 ∷ []
octets (a ∷ b ∷ c ∷ d ∷ e ∷ []) = octet a b c d e 0 0 0 ∷ []
octets (a ∷ b ∷ c ∷ d ∷ e ∷ f ∷ []) = octet a b c d e f 0 0 ∷ []
octets (a ∷ b ∷ c ∷ d ∷ e ∷ f ∷ g ∷ []) = octet a b c d e f g 0 ∷ []
octets (a ∷ b ∷ c ∷ d ∷ e ∷ f ∷ g ∷ h ∷ rest) = octet a b c d e f g h ∷ octets rest

-- values of w bits each, one behind the other, in bytes
abbrev pub packed : ℕ → List ℕ → List ℕ
packed w values = octets (flat_map (bits_of w) values)

-- the bits of bytes
abbrev pub bits_in : List ℕ → List ℕ
bits_in bytes = flat_map (bits_of 8) bytes

-- the bits, and behind them bits 0 up to a whole byte
pub record Padded (xs bits : List ℕ) : Type 0 where
  pub pad : ℕ
  pub short : pad < 8
  pub same : bits ≡ xs ++ replicate pad 0

-- the number that bits write, behind those that write n
unfoldable pub worth_after : ℕ → List ℕ → ℕ
worth_after n [] = n
worth_after n (b ∷ bits) = worth_after (n * 2 + b) bits

-- the number that bits write
abbrev pub worth : List ℕ → ℕ
worth bits = worth_after 0 bits

-- value k of the values of w bits each that bytes hold
abbrev pub value_in : ℕ → List ℕ → ℕ → ℕ
value_in w bytes k = worth (take w (drop (k * w) (bits_in bytes)))

-- the bytes that n values of w bits take
abbrev pub bytes_for : ℕ → ℕ → ℕ
bytes_for w n = (n * w + 7) / 8

-- What is wrong with bytes that are to hold n values below q, of w bits each, and then spare bits 0: at the byte p
-- begins the first value that is q or more; or there is none, and there stands the first spare bit that is 1.
pub record BadValue (q w n : ℕ) (bytes : List ℕ) (p : ℕ) : Type 0 where
  pub at : ℕ
  pub within : at < n
  pub large : q ≤ value_in w bytes at
  pub first : (k : ℕ) → k < at → value_in w bytes k < q
  pub byte : p ≡ at * w / 8

pub record SpareOne (q w n : ℕ) (bytes : List ℕ) (p : ℕ) : Type 0 where
  pub values : (k : ℕ) → k < n → value_in w bytes k < q
  pub at : ℕ
  pub spare : n * w ≤ at
  pub within : at < 8 * length bytes
  pub set : slice_index_or (bits_in bytes) at 0 ≡ 1
  pub first : (b : ℕ) → n * w ≤ b → b < at → slice_index (bits_in bytes) b ≡ 0
  pub byte : p ≡ at / 8

abbrev pub Fault : ℕ → ℕ → ℕ → List ℕ → ℕ → Type 0
Fault q w n bytes p = BadValue q w n bytes p ⊎ SpareOne q w n bytes p

-- the bytes hold these values, with nothing wrong
pub record Holds (q w : ℕ) (bytes values : List ℕ) : Type 0 where
  pub codes : (k : ℕ) → k < length values → slice_index values k < q
  pub bytes_are : bytes ≡ packed w values
