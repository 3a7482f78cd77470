-- Pieces one behind the other. Assumes nothing.
use Rattle.std.proofs.Common.{◌≡◌, ℕ, ◌+◌, ◌<◌, List, [], ◌∷◌, ◌++◌, length, get_or, vec_items, Vec, sym, ap, ◌∙◌, subst, inl, inr, arith}
use Rattle.std.proofs.lemmas.List.{length_push, get_or_push, get_or_append_left}
use Rattle.std.proofs.lemmas.Bool.{cases_lt}
use Rattle.field.specs.Laws.{Ops}
use Rattle.piece.specs.declared.Settings.{Settings}
use Rattle.piece.specs.Pieces.{piece}
use Rattle.work.specs.Files.{Cuts}

module _ {Z : Type 0} (K : Ops) (S : Settings) (jn st : ℕ) (job : List ℕ) where
  pub cuts_none : (ps : List (Vec ℕ Z)) → ps ≡ [] → Cuts K S jn st job 0 ps
  cuts_none ps e = (ap length e, λ k d h. absurd (omega arith))

  at : (n : ℕ) (ps : List (Vec ℕ Z)) (v : Vec ℕ Z) → vec_items v ≡ piece K S (n + 1) jn st job → Cuts K S jn st job n ps
      → (k : ℕ) (d : Vec ℕ Z) → k < n + 1 → vec_items (get_or (ps ++ (v ∷ [])) k d) ≡ piece K S (k + 1) jn st job
  at n ps v h c k d lt =
      let l : length ps ≡ n = c.0 in
      elim (cases_lt k n) [
        | inl less ↦ ap vec_items (get_or_append_left ps (v ∷ []) d k (omega arith)) ∙ c.1 k d less
        | inr more ↦ (let e : n ≡ k = omega arith in ap vec_items (get_or_push ps v d k (l ∙ e)) ∙ h ∙ ap (λ (i : ℕ). piece K S (i + 1) jn st job) e)
      ]

  pub cuts_more : (n : ℕ) (ps qs : List (Vec ℕ Z)) (v : Vec ℕ Z) → qs ≡ ps ++ (v ∷ []) → vec_items v ≡ piece K S (n + 1) jn st job → Cuts K S jn st job n ps → Cuts K S jn st job (n + 1) qs
  cuts_more n ps qs v e h c =
      subst (λ (xs : List (Vec ℕ Z)). Cuts K S jn st job (n + 1) xs) (sym e) (length_push ps v ∙ ap (λ (m : ℕ). m + 1) c.0, at n ps v h c)
