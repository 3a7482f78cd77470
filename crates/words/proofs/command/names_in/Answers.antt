use Rattle.std.proofs.Common.{◌≡◌, ℕ, List, [], ◌∷◌, map, string_bytes, String, refl, ap, ◌∙◌}
use Rattle.std.specs.List.{AllZip}
use Rattle.words.proofs.command.names_in.Goals as goal

-- copies of texts have their bytes
copied : {Z : Type 0} (xs ys : List (String Z)) → AllZip (λ s t. string_bytes t ≡ string_bytes s) xs ys → map string_bytes ys ≡ map string_bytes xs
copied [] [] e = refl
copied [] (y ∷ ys) e = elim e [ ]
copied (x ∷ xs) [] e = elim e [ ]
copied (x ∷ xs) (y ∷ ys) e = ap (λ (b : List ℕ). b ∷ map string_bytes ys) e.0 ∙ ap (λ (l : List (List ℕ)). string_bytes x ∷ l) (copied xs ys e.1)

pub returns : goal.returns
returns c = record { same = copied _ _ c.in_ok-to_vec.ensures.ok }
