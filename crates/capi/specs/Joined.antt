-- What a C caller that joins pieces passes and is answered. Assumes nothing.
use Rattle.std.specs.Prelude.{◌≡◌, ℕ, zero, suc, cond, List, [], ◌∷◌, length, take, drop, ℤ, pos, neg_ℤ, Ok, Err, Result, ◌==◌}
use Rattle.field.specs.Laws.{Ops}
use Rattle.collection.specs.declared.fault.JoinFault.{JoinFault}
use Rattle.collection.specs.Joining.{Joins, number}

-- bytes in parts of this length, the last shorter where need be; n parts at most
unfoldable pub parted : ℕ → ℕ → List ℕ → List (List ℕ)
parted zero each bytes = []
parted (suc n) each bytes = cond (length bytes == 0) [] (take each bytes ∷ parted n each (drop each bytes))

-- the job's length, or the refusal's number made negative
abbrev pub joined : Result ℕ JoinFault → ℤ
joined (Ok len) = pos len
joined (Err f) = neg_ℤ (pos (number f))

-- the answer is that of joining the parts, and so is what the buffer holds after
pub record AnswersJoin (K : Ops) (room each : ℕ) (pieces before after : List ℕ) (r : ℤ) : Type 0 where
  pub result : Result ℕ JoinFault
  pub joins : Joins K room (parted 17 each pieces) before after result
  pub answer : r ≡ joined result
