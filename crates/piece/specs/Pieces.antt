-- The pieces of a job. Assumes nothing.
use Rattle.std.specs.Prelude.{ℕ, zero, suc, ◌+◌, ◌-◌, ◌*◌, ◌/◌, ◌≤◌, cond, List, [], ◌∷◌, ◌++◌, length, ◌==◌, slice_index}
use Rattle.std.specs.List.{flat_map}
use Rattle.field.specs.Laws.{Ops}
use Rattle.algebra.specs.Codes.{dot, power}
use Rattle.piece.specs.declared.Settings.{Settings}
use Rattle.piece.specs.Bits.{bits_of, octets}

-- the settings that jobs are cut with
pub record Lawful (S : Settings) : Type 0 where
  pub kind : S.rows ≤ 1
  pub some : 1 ≤ S.m
  pub needed : S.m ≤ 16
  pub enough : S.m ≤ S.n
  pub made : S.n ≤ 32

-- the symbols of a job: each byte is one
abbrev pub symbols : List ℕ → List ℕ
symbols job = job

-- how many columns of m places the symbols fill: their number divided by m, rounded up
abbrev pub columns : ℕ → List ℕ → ℕ
columns m job = (length (symbols job) + (m - 1)) / m

-- the symbol at the place j, counted from 0, of the column k; zeros fill up the last column
abbrev pub place : ℕ → List ℕ → ℕ → ℕ → ℕ
place m job k j = slice_index (symbols job) (k * m + j)

-- the entry of the piece numbered i at the place j, counted from 0. Vandermonde: the element coded i to the power j.
-- Cauchy: the inverse of the element coded m + i - 1 minus the element coded j.
abbrev pub entry : Ops → Settings → ℕ → ℕ → ℕ
entry K S i j = cond (S.rows == 0) (power K i j) (K.inv (K.add (S.m + i - 1) (K.neg j)))

-- symbol k of the piece numbered i: the sum over the places of entry times symbol
unfoldable pub value : Ops → Settings → List ℕ → ℕ → ℕ → ℕ
value K S job i k = dot K S.m (entry K S i) (place S.m job k)

-- f 0, f 1 .. f (n - 1)
unfoldable pub listed : ℕ → (ℕ → ℕ) → List ℕ
listed zero f = []
listed (suc n) f = listed n f ++ (f n ∷ [])

-- the values of a piece's body
abbrev pub body : Ops → Settings → List ℕ → ℕ → List ℕ
body K S job i = listed (columns S.m job) (value K S job i)

-- the header, 80 bits: field code, rows kind, m - 1, n - 1, piece number - 1, job length, job number, stamp
unfoldable pub header : ℕ → Settings → ℕ → ℕ → ℕ → ℕ → List ℕ
header code S i len job-number stamp =
    bits_of 2 code ++ (bits_of 2 S.rows ++ (bits_of 4 (S.m - 1) ++ (bits_of 5 (S.n - 1)
    ++ (bits_of 5 (i - 1) ++ (bits_of 14 len ++ (bits_of 16 job-number ++ bits_of 32 stamp))))))

-- the bytes of the piece numbered i: the header, then the values of w bits each, then bits 0 up to a whole byte
unfoldable pub piece : Ops → Settings → ℕ → ℕ → ℕ → List ℕ → List ℕ
piece K S i job-number stamp job =
    octets (header K.code S i (length job) job-number stamp ++ flat_map (bits_of K.width) (body K S job i))
