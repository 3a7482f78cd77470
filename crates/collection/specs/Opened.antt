-- An open collection, by what it means. Assumes nothing.
use Rattle.collection.specs.declared.open.Open.{Open}
use Rattle.collection.specs.Books.{in_open}
use Rattle.collection.specs.Collected.{Collected}

abbrev pub opened : Open → Collected
opened o = in_open o.book o.work.now
