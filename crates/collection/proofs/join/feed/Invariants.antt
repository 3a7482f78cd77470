use Rattle.std.proofs.Common.{◌≡◌}
use Rattle.collection.specs.Joining.{Feeds, bytes_in, fed}
use Rattle.collection.specs.Opened.{opened}
use Rattle.collection.proofs.join.feed.Given as goal

abbrev pub invariant-loop-at : goal.invariant-loop-at
invariant-loop-at g l =
    (l.collection.work.ghost_name ≡ l.initial.collection.work.ghost_name)
    × Feeds g.F.Field.ops (opened l.initial.collection).room (bytes_in l.pieces) l.at-counter
    × (opened l.collection ≡ fed g.F.Field.ops (opened l.initial.collection).room (bytes_in l.pieces) l.at-counter)
