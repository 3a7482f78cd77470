use Rattle.std.proofs.Common.{ℕ, Result, Ok, Err, IsOk, OnErr, sym, refl, subst}
use mathlib.Core.Logic.{∥∥₁_elim}
use Rattle.work.specs.Questions.{Askable}
use Rattle.work.proofs.candidates.fitted.Goals as goal

no_two : IsProp ⊥
no_two x y = absurd x

-- what is refused only where no P holds is Ok where one may
never_refused : {A E : Type 0} (r : Result A E) (P : Type 0) → OnErr r (P → ⊥) → ((P → ⊥) → ⊥) → IsOk r
never_refused (Ok x) P h p = refl
never_refused (Err e) P h p = absurd (p h)

pub unwrap-requires : goal.unwrap-requires
unwrap-requires c =
    let q = c.args.question.now in
    never_refused c.fit.result _ c.fit.ensures.refused
    (λ no. ∥∥₁_elim q.asks no_two
    (λ asks. no (subst (λ (n : ℕ). Askable q.told q.place c.args.value n) (sym c.requires.room) (asks c.args.value c.requires.byte))))
