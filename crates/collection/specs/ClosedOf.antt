-- A closed collection, by what it means for a field. Assumes nothing.
use Rattle.field.specs.Laws.{Ops}
use Rattle.collection.specs.declared.closed.Closed.{Closed}
use Rattle.collection.specs.Books.{in_closed}
use Rattle.collection.specs.Collected.{Collected}

abbrev pub closed_of : Ops → Closed → Collected
closed_of K c = in_closed K c.book c.work.now
