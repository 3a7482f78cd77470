-- What pieces tell of a column. Assumes nothing.
use Rattle.std.specs.Prelude.{◌≡◌, ℕ, ◌+◌, ◌-◌, ◌<◌, ◌≤◌, ◌≢◌, ◌⊎◌, List, map, length, get_or, vec_items, slice_index, slice_index_or}
use Rattle.algebra.specs.Field.{Distinct}
use Rattle.piece.specs.Bits.{bytes_for, value_in}
use Rattle.words.specs.Named.{ops_of}
use Rattle.work.specs.declared.held.Held.{Held}
use Rattle.work.specs.declared.candidates.Told.{Told}
use Rattle.work.specs.Questions.{Asks}
use Rattle.work.specs.declared.question.Question.{Question}
use Rattle.work.specs.declared.unfit.Unfit.{Unfit}
use Rattle.work.specs.declared.unfit.Unfit.TheVariants as unfit

-- the piece's number
abbrev pub number_of : Held → ℕ
number_of p = p.header.number

-- the piece's symbol of the column k
abbrev pub symbol_of : ℕ → Held → ℕ
symbol_of k p = value_in (ops_of p.field).width (vec_items p.body) k

-- the piece's body has no value k
abbrev pub Lacks : ℕ → Held → Type 0
Lacks k p = (4096 ≤ k) ⊎ (length (vec_items p.body) < bytes_for (ops_of p.field).width (k + 1))

-- the piece's body has a value k
abbrev pub Has : ℕ → Held → Type 0
Has k p = bytes_for (ops_of p.field).width (k + 1) ≤ length (vec_items p.body)

-- both are pieces of one job that was cut once: all is equal but the numbers and the bodies
pub record Agree (p q : Held) : Type 0 where
  pub field : p.field ≡ q.field
  pub settings : p.header.settings ≡ q.header.settings
  pub long : p.header.length ≡ q.header.length
  pub job : p.header.job ≡ q.header.job
  pub stamp : p.header.stamp ≡ q.header.stamp

-- all agree with the first
abbrev pub Together : List Held → Type 0
Together ps = (k : ℕ) (d : Held) → k < length ps → Agree (slice_index_or ps 0 d) (slice_index_or ps k d)

-- what m - 1 different pieces with Cauchy rows tell of the column k: the field and the settings of the first, which all share,
-- and the numbers and the symbols in the pieces' order
pub record Tells (ps : List Held) (k : ℕ) (t : Told) : Type 0 where
  pub some : 0 < length ps
  pub together : Together ps
  pub field : (d : Held) → t.field ≡ (get_or ps 0 d).field
  pub settings : (d : Held) → t.settings ≡ (get_or ps 0 d).header.settings
  pub kind : t.settings.rows ≡ 1
  pub many : length ps ≡ t.settings.m - 1
  pub numbers : vec_items t.numbers ≡ map number_of ps
  pub differ : Distinct (length (vec_items t.numbers)) (λ k. slice_index (vec_items t.numbers) k)
  pub symbols : vec_items t.symbols ≡ map (symbol_of k) ps
  pub has : (i : ℕ) (d : Held) → i < length ps → Has k (slice_index_or ps i d)

-- each byte may be asked for at each place
abbrev pub Ready : Told → Type 0
Ready t = (p : ℕ) → p < t.settings.m → Asks t p

-- why pieces tell nothing of the column k
abbrev pub Unfits : List Held → ℕ → Unfit → Type 0
Unfits ps k unfit.NoPiece = length ps ≡ 0
Unfits ps k (unfit.Differ at what) = (at < length ps) × ((d : Held) → Agree (slice_index_or ps 0 d) (slice_index_or ps at d) → ⊥)
Unfits ps k unfit.Rows = (d : Held) → (get_or ps 0 d).header.settings.rows ≢ 1
Unfits ps k (unfit.Count needs given) = (given ≡ length ps) × ((d : Held) → needs ≡ (get_or ps 0 d).header.settings.m - 1) × (given ≢ needs)
Unfits ps k (unfit.Twice a b) = (a < b) × (b < length ps) × ((d : Held) → number_of (slice_index_or ps a d) ≡ number_of (slice_index_or ps b d))
Unfits ps k (unfit.Column column columns) = (column ≡ k) × ((i : ℕ) × (i < length ps) × ((d : Held) → Lacks k (slice_index_or ps i d)))
Unfits ps k (unfit.Place place m) = ⊥
Unfits ps k unfit.Memory = Unit {0}

-- why there is nothing to ask: the pieces tell nothing of the column k, or there is no such place
abbrev pub Unasked : List Held → ℕ → ℕ → Unfit → Type 0
Unasked ps k place unfit.NoPiece = Unfits ps k unfit.NoPiece
Unasked ps k place (unfit.Differ at what) = Unfits ps k (unfit.Differ at what)
Unasked ps k place unfit.Rows = Unfits ps k unfit.Rows
Unasked ps k place (unfit.Count needs given) = Unfits ps k (unfit.Count needs given)
Unasked ps k place (unfit.Twice a b) = Unfits ps k (unfit.Twice a b)
Unasked ps k place (unfit.Column column columns) = Unfits ps k (unfit.Column column columns)
Unasked ps k place (unfit.Place p m) = (p ≡ place) × ((place ≡ 0) ⊎ (m < place)) × ((d : Held) → m ≡ (get_or ps 0 d).header.settings.m)
Unasked ps k place unfit.Memory = Unit {0}

-- the question of this place, counted from 1, in the column k
pub record Asked (ps : List Held) (k place : ℕ) (q : Question) : Type 0 where
  pub tells : Tells ps k q.told
  pub place_is : q.place + 1 ≡ place
