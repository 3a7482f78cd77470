use Rattle.std.proofs.Common.{◌≡◌, ℕ, ◌<◌, map, get_or, take, vec_items}
use Rattle.work.specs.declared.held.Held.{Held}
use Rattle.work.specs.Told.{Has, symbol_of}
use Rattle.work.proofs.candidates.symbols.Given as goal

abbrev pub invariant-loop-piece : goal.invariant-loop-piece
invariant-loop-piece l =
    (vec_items l.all ≡ map (symbol_of l.column) (take l.piece-index l.pieces))
    × ((j : ℕ) (d : Held) → j < l.piece-index → Has l.column (get_or l.pieces j d))
