use Rattle.std.proofs.Common.{◌≤◌, length, map, vec_items, string_bytes}
use Rattle.words.specs.Scans.{Goes}
use Rattle.words.proofs.scan.read.Given as goal

abbrev pub invariant-loop-word : goal.invariant-loop-word
invariant-loop-word g l = Goes g.O.Options.unset g.O.Options.sets l.words l.word-index l.scan (map string_bytes (vec_items l.names)) × (length (vec_items l.names) ≤ l.most)
