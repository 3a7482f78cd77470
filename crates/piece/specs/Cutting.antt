-- What cutting answers and writes. Assumes nothing.
use Rattle.std.specs.Prelude.{ℕ, ◌+◌, ◌*◌, ◌/◌, ◌%◌, Bool, false, cond, List, ◌++◌, length, drop, Ok, Err, Result, nat_le}
use Rattle.field.specs.Laws.{Ops}
use Rattle.piece.specs.declared.Settings.{Settings}
use Rattle.piece.specs.declared.fault.CutFault.{CutFault}
use Rattle.piece.specs.declared.fault.CutFault.TheVariants as fault
use Rattle.piece.specs.declared.layout.Layout.{Layout}
use Rattle.piece.specs.Layouts.{cell_at}
use Rattle.piece.specs.Pieces.{listed, columns}

-- the number of each refusal of cutting
abbrev pub number : CutFault → ℕ
number (fault.Settings rows m n) = 1
number (fault.Job len) = 2
number (fault.Number i n) = 3
number (fault.Room has needs) = 4

-- the rows kind is 0 or 1, m is 1 to 16, n is m to 32
abbrev pub is_in_range : Settings → Bool
is_in_range S = cond (nat_le S.rows 1) (cond (nat_le 1 S.m) (cond (nat_le S.m 16) (cond (nat_le S.m S.n) (nat_le S.n 32) false) false) false) false

-- the answer of laying a job out: the first refusal that applies, or nothing
abbrev pub laying : Settings → List ℕ → Result (Unit {0}) CutFault
laying S job = cond (is_in_range S) (cond (nat_le (length job) 4096) (Ok tt) (Err (fault.Job (length job)))) (Err (fault.Settings S.rows S.m S.n))

-- the bytes of a piece with so many columns
abbrev pub size : Ops → ℕ → ℕ
size K count = 10 + (count * K.width + 7) / 8

-- the answer of cutting the piece numbered i into a buffer of this length: the first refusal that applies, or the piece's length
abbrev pub cutting : Ops → Settings → List ℕ → ℕ → ℕ → Result ℕ CutFault
cutting K S job i room =
    cond (is_in_range S)
    (cond (nat_le (length job) 4096)
    (cond (nat_le 1 i) (cond (nat_le i S.n)
    (cond (nat_le (size K (columns S.m job)) room) (Ok (size K (columns S.m job))) (Err (fault.Room room (size K (columns S.m job)))))
    (Err (fault.Number i S.n))) (Err (fault.Number i S.n)))
    (Err (fault.Job (length job))))
    (Err (fault.Settings S.rows S.m S.n))

-- what the buffer holds after: the piece at its front and the rest as it was, or all as it was
abbrev pub written : Result ℕ CutFault → List ℕ → List ℕ → List ℕ
written (Ok n) bytes out = bytes ++ drop n out
written (Err f) bytes out = out

-- the job that is laid out
unfoldable pub job_of : Layout → List ℕ
job_of L = listed L.length (λ i. cell_at L.columns L.cells (i / L.scheme.m) (i % L.scheme.m))
