-- What the files of a job hold. Assumes nothing.
use Rattle.std.specs.Prelude.{◌≡◌, ℕ, ◌+◌, ◌<◌, List, length, vec_items, Vec, slice_index_or}
use Rattle.field.specs.Laws.{Ops}
use Rattle.piece.specs.declared.Settings.{Settings}
use Rattle.piece.specs.Pieces.{piece}

-- the first n pieces of a job, the first piece first
abbrev pub Cuts : {Z : Type 0} → Ops → Settings → ℕ → ℕ → List ℕ → ℕ → List (Vec ℕ Z) → Type 0
Cuts {Z} K S job-number stamp job n ps = (length ps ≡ n) × ((k : ℕ) (d : Vec ℕ Z) → k < n → vec_items (slice_index_or ps k d) ≡ piece K S (k + 1) job-number stamp job)
