-- What candidates is asked for by its words. Assumes nothing.
use Rattle.std.specs.Prelude.{◌≡◌, List, map, Some, vec_items, string_bytes, String}
use Rattle.words.specs.declared.asking.Wanted.{Wanted}
use Rattle.words.specs.declared.inquiry.Inquiry.{Inquiry}
use Rattle.words.specs.Askings.{Wants, unasked}
use Rattle.words.specs.Scans.{Says}

-- column and place are given, the value may be, and the pieces are the names
pub record Inquires {Z : Type 0} (ws : List (String Z)) (r : Inquiry) : Type 0 where
  pub wanted : Wanted
  pub says : Says unasked Wants ws wanted (map string_bytes (vec_items r.pieces))
  pub column : wanted.column ≡ Some r.column
  pub place : wanted.place ≡ Some r.place
  pub value : wanted.value ≡ r.value
