-- What a header that the reader accepts says. Assumes nothing.
use Rattle.std.proofs.Common.{ℕ, ◌^◌, ◌<◌, ◌≤◌, List, sym, subst}
use Rattle.field.specs.Laws.{Ops, Bounds}
use Rattle.piece.specs.declared.Header.{Header}
use Rattle.piece.specs.Layouts.{Bytes}
use Rattle.piece.specs.Pieces.{Lawful}
use Rattle.piece.specs.Reading.{Accepts, header_in}
use Rattle.piece.proofs.Exact.{accepts_composed, composed_reads}

pub record SoundHeader (h : Header) : Type 0 where
  pub lawful : Lawful h.settings
  pub least : 1 ≤ h.number
  pub most : h.number ≤ h.settings.n
  pub short : h.length ≤ 4096
  pub job : h.job < 2 ^ 16
  pub stamp : h.stamp < 2 ^ 32

pub sound_header : (K : Ops) → Bounds K → (bytes : List ℕ) → Bytes bytes → Accepts K bytes → SoundHeader (header_in bytes)
sound_header K B bytes u A =
    let C = accepts_composed K B bytes u A in
    subst SoundHeader (sym (composed_reads K B bytes C).head_read)
    (record { lawful = C.lawful; least = C.least; most = C.most; short = C.short; job = C.job; stamp = C.stamp })
