-- What closing a collection answers. Assumes nothing.
use Rattle.std.specs.Prelude.{◌≡◌, ℕ, ◌<◌, ◌≤◌, length}
use Rattle.field.specs.Laws.{Ops}
use Rattle.collection.specs.declared.fault.CloseFault.{CloseFault}
use Rattle.collection.specs.declared.fault.CloseFault.TheVariants as fault
use Rattle.collection.specs.Collected.{Collected, For, first_of}

abbrev pub number : CloseFault → ℕ
number (fault.Field has) = 7
number (fault.Few has needs) = 14

-- how many pieces bring the job back: m of the first piece, and 1 while there is none
abbrev pub needed_for : Collected → ℕ
needed_for C = (first_of C).settings.m

-- the collection can be closed: it is for the field, and has m pieces
pub record Closes (K : Ops) (C : Collected) : Type 0 where
  pub field : For K C.field
  pub enough : needed_for C ≤ length C.taken

-- or why not: the first check that it fails, with its values
abbrev pub RefusesClose : Ops → Collected → CloseFault → Type 0
RefusesClose K C (fault.Field has) = (has ≡ C.field) × (For K C.field → ⊥)
RefusesClose K C (fault.Few has needs) = For K C.field × (has ≡ length C.taken) × (needs ≡ needed_for C) × (has < needs)
