-- The bits that a writer wrote and those that a reader has before it. Assumes nothing.
use Rattle.std.specs.Prelude.{ℕ, List, ◌++◌, take, drop}
use Rattle.piece.specs.Bits.{bits_of, bits_in}
use Rattle.piece.specs.declared.bits.Writer.{Writer}
use Rattle.piece.specs.declared.bits.Reader.{Reader}

-- the bits written so far: those of the bytes before the next, and those that stand over
abbrev pub written : Writer → List ℕ
written w = bits_in (take w.next w.out.now) ++ bits_of w.bits w.acc

-- the bits not yet read: those that stand over, and those of the next bytes
abbrev pub unread : Reader → List ℕ
unread r = bits_of r.bits r.acc ++ bits_in (drop r.next r.bytes.now)
